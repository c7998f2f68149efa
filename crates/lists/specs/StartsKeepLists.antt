-- Starts keep the invariant of lists and records.
--     inv_dequeue                      a take begins
--     here_key, begun, inv_enqueue     a put begins
--     inv_open                         the opening
-- Assumes nothing.
use Rattle.std.specs.Prelude.{◌≡◌, refl, [], ◌≢◌, ◌⊎◌, ℕ, ◌+◌, ◌*◌, ◌≤◌, ◌<◌}
use Rattle.std.proofs.Common.{sym, ap, ◌∙◌, inl, inr, arith}
use Rattle.arrival.specs.declared.Shape.{Shape}
use Rattle.arrival.specs.declared.Worker.{Worker}
use Rattle.arrival.specs.declared.Item.{Item}
use Rattle.arrival.specs.Keys.{item_bucket}
use Rattle.laws.specs.Tests.{upd_same, upd_cases}
use Rattle.calendar.specs.rules.Layout.{word}
use Rattle.calendar.specs.rules.Outcome.{with_stage}
use Rattle.calendar.specs.facts.Views.{View, update, item_in}
use Rattle.lists.specs.LinkInvariant.{Chains}
use Rattle.lists.specs.Marking.{fewer_keeps, more_keeps}
use Rattle.lists.specs.AllCalls.{Knows, Live, Inv, with_record, knows_stable}
use Rattle.lists.specs.Searching.{at_stage}
use Rattle.lists.specs.Filling.{filled, Free, begin_keeps, begin_stable, not_in}

module _ (sh : Shape) (m : View) (ch : Chains) (T : ℕ → Worker) (I : Inv sh m ch T) (i : ℕ) (l : i < sh.workers) (w : Worker)
    (new : w.ticket ≡ m.started + 1) where
  -- the live tickets: the old ones and the new one
  grown : (c : ℕ) → Live sh.workers (with_record T i w) c → Live sh.workers T c ⊎ (c ≡ m.started + 1)
  grown c (j, jl, js, jc) =
      upd_cases (λ j v. j < sh.workers → v.stage ≢ 0 → v.ticket ≡ c → Live sh.workers T c ⊎ (c ≡ m.started + 1)) T i w (λ a b q. inr (sym q ∙ new))
      (λ j h a b q. inl (j, a, b, q)) j jl js jc

  old_small : (j : ℕ) → j < sh.workers → (T j).stage ≢ 0 → (T j).ticket ≢ w.ticket
  old_small j a b q = omega (arith, I.lists.live (T j).ticket (j, a, b, refl))

  parted : (p q : ℕ) → p < sh.workers → q < sh.workers → p ≢ q → (with_record T i w p).stage ≢ 0 → (with_record T i w q).stage ≢ 0
      → (with_record T i w p).ticket ≢ (with_record T i w q).ticket
  parted p q =
      upd_cases (λ p v. p < sh.workers → q < sh.workers → p ≢ q → v.stage ≢ 0 → (with_record T i w q).stage ≢ 0 → v.ticket ≢ (with_record T i w q).ticket)
      T i w
      (upd_cases (λ q v. i < sh.workers → q < sh.workers → i ≢ q → w.stage ≢ 0 → v.stage ≢ 0 → w.ticket ≢ v.ticket) T i w
      (λ a b n s r x. n refl) (λ q h a b n s r x. old_small q b r (sym x)) q)
      (λ p h. upd_cases (λ q v. p < sh.workers → q < sh.workers → p ≢ q → (T p).stage ≢ 0 → v.stage ≢ 0 → (T p).ticket ≢ v.ticket) T i w
      (λ a b n s r x. old_small p a s x) (λ q h'. I.apart p q) q) p

  -- A TAKE
  pub inv_dequeue : w.stage ≡ 8 → w.kind ≡ 1 → Inv sh (update (word 1) (m.started + 1) m) ch (with_record T i w)
  inv_dequeue eight dequeue = record {
    lists = fewer_keeps sh (update (word 1) (m.started + 1) m) ch (λ c. Live sh.workers T c ⊎ (c ≡ m.started + 1))
        (Live sh.workers (with_record T i w)) grown (more_keeps sh m ch (Live sh.workers T) I.lists);
    knows = upd_cases (λ j v. j < sh.workers → Knows sh m ch v) T i w
        (λ a. record {
          kinds = inr dequeue;
          dequeues = λ e b. absurd (omega arith);
          enqueues = λ e. absurd (omega arith);
          search = λ b c. absurd (omega arith);
          linked = λ b c. absurd (omega arith);
          walk = λ b. absurd (omega arith);
          stand = λ b c. absurd (omega arith);
          old = λ b. absurd (omega arith);
          more = λ b. absurd (omega arith);
        }) (λ j h. I.knows j);
    apart = parted;
    unique = I.unique;
    bounded = λ n z. omega (arith, I.bounded n z);
    positive = upd_cases (λ j v. j < sh.workers → v.stage ≢ 0 → 1 ≤ v.ticket) T i w (λ a b. omega arith) (λ j h. I.positive j);
  }

-- A PUT
module _ (sh : Shape) (m : View) (ch : Chains) (T : ℕ → Worker) (I : Inv sh m ch T) (i : ℕ) (l : i < sh.workers) (w : Worker)
    (new : w.ticket ≡ m.started + 1)
    (x : ℕ) (a : Item) (is_node : x < sh.nodes) (free : Free m (Live sh.workers T) x) (ticket : a.ticket ≡ m.started + 1)
    (in_b : item_bucket sh a < sh.buckets) where
  pub here_key : item_in (filled x a m) x ≡ a
  here_key = λ j. record {
    time = upd_same x x a.time (m.time x) refl j;
    path = upd_same x x a.path (m.path x) refl j;
    order = upd_same x x a.order (m.order x) refl j;
    distance = upd_same x x a.distance (m.distance x) refl j;
    ticket = upd_same x x a.ticket (m.ticket x) refl j;
  }

  abbrev pub begun : View
  begun = update (word 2) x (update (word 1) (m.started + 1) (filled x a m))

  pub inv_enqueue : w.kind ≡ 0 → w.own ≡ x → w.bucket ≡ item_bucket sh a → Inv sh begun ch (with_record T i (with_stage 1 w))
  inv_enqueue put own bucket = record {
    lists =
        fewer_keeps sh begun ch (λ c. Live sh.workers T c ⊎ (c ≡ m.started + 1)) (Live sh.workers (with_record T i (with_stage 1 w)))
        (grown sh m ch T I i l (with_stage 1 w) new)
        (more_keeps sh (filled x a m) ch (Live sh.workers T) (begin_keeps sh m ch (Live sh.workers T) I.lists x a free));
    knows = upd_cases (λ j v. j < sh.workers → Knows sh begun ch v) T i (with_stage 1 w)
        (λ b. at_stage sh begun ch w 1 (omega arith) (omega arith) (λ q. omega arith)
        (record {
          range = rw bucket in_b;
          kinds = inl put;
          enqueue_own = λ q. rw own (record {
            is_node = is_node;
            used = upd_same x x 1 (m.standing x) refl;
            out = λ q j. not_in sh m ch (Live sh.workers T) I.lists x a free x q j refl;
            ticketed = upd_same x x a.ticket (m.ticket x) refl ∙ ticket ∙ sym new;
          });
          dequeue_own = λ q. absurd (omega arith);
          own_home = rw (own, bucket) (ap (item_bucket sh) here_key);
        })
        (λ c. absurd (omega arith)) (λ c. absurd (omega arith)) (λ c c'. absurd (omega arith)) (λ c. absurd (omega arith)) (λ c. absurd (omega arith))
        (λ c. absurd (omega arith)))
        (λ j h b. knows_stable sh m ch begun ch (T j) (λ s. begin_stable sh m ch (Live sh.workers T) I.lists x a free (T j).ticket (j, b, s, refl))
        (I.knows j b));
    apart = parted sh m ch T I i l (with_stage 1 w) new;
    unique = λ p q. upd_cases (λ p v. p < sh.nodes → q < sh.nodes → p ≢ q → v ≡ begun.ticket q → v ≡ 0) m.ticket x a.ticket
        (upd_cases (λ q v. x < sh.nodes → q < sh.nodes → x ≢ q → a.ticket ≡ v → a.ticket ≡ 0) m.ticket x a.ticket (λ la lb n e. absurd (n refl))
        (λ q h la lb n e. absurd (omega (arith, I.bounded q lb))) q)
        (λ p h. upd_cases (λ q v. p < sh.nodes → q < sh.nodes → p ≢ q → m.ticket p ≡ v → m.ticket p ≡ 0) m.ticket x a.ticket
        (λ la lb n e. absurd (omega (arith, I.bounded p la))) (λ q h'. I.unique p q) q) p;
    bounded = λ n. upd_cases (λ n v. n < sh.nodes → v ≤ m.started + 1) m.ticket x a.ticket (λ z. omega arith)
        (λ n h z. omega (arith, I.bounded n z)) n;
    positive = upd_cases (λ j v. j < sh.workers → v.stage ≢ 0 → 1 ≤ v.ticket) T i (with_stage 1 w) (λ a b. omega arith) (λ j h. I.positive j);
  }

-- THE OPENING
pub inv_open : (sh : Shape) (m : View) (T : ℕ → Worker) → ((b : ℕ) → b < sh.buckets → m.cells b ≡ 2 * sh.nodes)
    → ((n : ℕ) → n < sh.nodes → (m.standing n ≡ 0) × (m.ticket n ≡ 0))
    → ((i : ℕ) → i < sh.workers → ((T i).stage ≡ 0) × ((T i).kind ≡ 0)) → Inv sh m (λ b. []) T
inv_open sh m T heads nodes idle = record {
  lists = record {
    runs = λ b l. omega (arith, heads b l);
    member = λ b n i. elim i [ ];
    ascends = λ b. tt;
    live = λ c v. absurd (v.2 (idle v.0 v.1).0);
    retired = λ n k l s. absurd (omega (arith, (nodes n l).0));
    frozen = λ c n k v l s h. absurd (omega (arith, (nodes n l).0));
  };
  knows = λ i l. let z = (idle i l).0 in
      record {
        kinds = inl (idle i l).1;
        dequeues = λ e a. omega arith;
        enqueues = λ e. omega arith;
        search = λ a b. absurd (omega arith);
        linked = λ a b. absurd (omega arith);
        walk = λ a. absurd (omega arith);
        stand = λ a b. absurd (omega arith);
        old = λ a. absurd (omega arith);
        more = λ a. absurd (omega arith);
      };
  apart = λ i j a b n u v. absurd (u (idle i a).0);
  unique = λ a b la lb n e. (nodes a la).1;
  bounded = λ n z. omega (arith, (nodes n z).1);
  positive = λ j l u. absurd (u (idle j l).0);
}
