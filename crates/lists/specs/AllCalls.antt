-- All calls together: the invariant of lists and records, and that a put's link (stage 5) keeps it whole. Assumes nothing.
use Rattle.std.specs.Prelude.{◌≡◌, refl, cond, ◌≢◌, ◌⊎◌, ℕ, suc, ◌/◌, ◌%◌, ◌≤◌, ◌<◌, eqb}
use Rattle.std.proofs.Common.{sym, ap, ◌∙◌, arith}
use Rattle.arrival.specs.declared.Shape.{Shape}
use Rattle.arrival.specs.declared.Worker.{Worker}
use Rattle.arrival.specs.declared.Item.{Item}
use Rattle.laws.specs.Tests.{upd_cases}
use Rattle.calendar.specs.facts.Views.{View}
use Rattle.lists.specs.LinkInvariant.{Chains, Lists}
use Rattle.lists.specs.Knowledge.{Stands, Searches, Stable, stands, searches_stable}
use Rattle.lists.specs.Marking.{fewer_keeps}

abbrev pub Knows : Shape → View → Chains → Worker → Type 0
Knows sh m ch w = record {
  kinds : (w.kind ≡ 0) ⊎ (w.kind ≡ 1);
  dequeues : w.kind ≡ 1 → w.stage ≤ 7 → w.stage ≤ 3;
  enqueues : w.kind ≡ 0 → w.stage ≤ 7;
  search : 1 ≤ w.stage → w.stage ≤ 5 → Searches sh m ch w;
  linked : 6 ≤ w.stage → w.stage ≤ 7 → record { node : Stands sh m ch w.ticket w.bucket w.own; ticketed : m.ticket w.own ≡ w.ticket };
  walk : 9 ≤ w.stage → (w.bucket < sh.buckets) × (w.current / 4294967296 ≡ w.bucket);
  stand : 10 ≤ w.stage → w.stage ≤ 11 → Stands sh m ch w.ticket w.bucket w.right;
  old : w.stage ≡ 11 → (m.epoch w.right ≤ w.current % 4294967296) × (w.seen % 2 ≡ 0);
  more : w.stage ≡ 12 → suc w.bucket < sh.buckets;
}

abbrev pub Live : ℕ → (ℕ → Worker) → ℕ → Type 0
Live W T c = (i : ℕ) × (i < W) × ((T i).stage ≢ 0) × ((T i).ticket ≡ c)

-- All of the invariant but what the record i knows.
abbrev pub Rest : Shape → View → Chains → (ℕ → Worker) → ℕ → Type 0
Rest sh m ch T i = record {
  lists : Lists sh m ch (Live sh.workers T);
  others : (j : ℕ) → j ≢ i → j < sh.workers → Knows sh m ch (T j);
  apart : (i j : ℕ) → i < sh.workers → j < sh.workers → i ≢ j → (T i).stage ≢ 0 → (T j).stage ≢ 0 → (T i).ticket ≢ (T j).ticket;
  unique : (a b : ℕ) → a < sh.nodes → b < sh.nodes → a ≢ b → m.ticket a ≡ m.ticket b → m.ticket a ≡ 0;
  bounded : (n : ℕ) → n < sh.nodes → m.ticket n ≤ m.started;
  positive : (j : ℕ) → j < sh.workers → (T j).stage ≢ 0 → 1 ≤ (T j).ticket;
}

abbrev pub Inv : Shape → View → Chains → (ℕ → Worker) → Type 0
Inv sh m ch T = record {
  lists : Lists sh m ch (Live sh.workers T);
  knows : (i : ℕ) → i < sh.workers → Knows sh m ch (T i);
  apart : (i j : ℕ) → i < sh.workers → j < sh.workers → i ≢ j → (T i).stage ≢ 0 → (T j).stage ≢ 0 → (T i).ticket ≢ (T j).ticket;
  unique : (a b : ℕ) → a < sh.nodes → b < sh.nodes → a ≢ b → m.ticket a ≡ m.ticket b → m.ticket a ≡ 0;
  bounded : (n : ℕ) → n < sh.nodes → m.ticket n ≤ m.started;
  positive : (j : ℕ) → j < sh.workers → (T j).stage ≢ 0 → 1 ≤ (T j).ticket;
}

abbrev pub with_record : (ℕ → Worker) → ℕ → Worker → ℕ → Worker
with_record T i w = λ j. cond (eqb i j) w (T j)

-- A change that is stable for a call in progress keeps what its record knows.
pub knows_stable : (sh : Shape) (m : View) (ch : Chains) (m' : View) (ch' : Chains) (w : Worker) → (w.stage ≢ 0 → Stable sh m ch m' ch' w.ticket)
    → Knows sh m ch w → Knows sh m' ch' w
knows_stable sh m ch m' ch' w h k = record {
  kinds = k.kinds;
  dequeues = k.dequeues;
  enqueues = k.enqueues;
  search = λ l l'. searches_stable sh m ch m' ch' w (h (λ e. omega arith)) (k.search l l') k.kinds (λ e. k.dequeues e (omega arith));
  linked = λ l l'. let x = k.linked l l' in let y = h (λ e. omega arith) in
      record {
        node = stands sh m ch m' ch' w y w.bucket w.own x.node;
        ticketed = ap (λ (a : Item). a.ticket) (y.safe w.own x.node.is_node x.node.safe).key ∙ x.ticketed;
      };
  walk = k.walk;
  stand = λ l l'. stands sh m ch m' ch' w (h (λ e. omega arith)) w.bucket w.right (k.stand l l');
  old = λ e. let x = k.stand (omega arith) (omega arith) in rw ((h (λ z. omega arith)).safe w.right x.is_node x.safe).epoch (k.old e);
  more = k.more;
}

-- The live tickets do not grow when a call in progress changes its record and keeps its ticket.
pub fewer : (W i : ℕ) (T : ℕ → Worker) (w : Worker) → i < W → (T i).stage ≢ 0 → w.ticket ≡ (T i).ticket → (c : ℕ) → Live W (with_record T i w) c → Live W T c
fewer W i T w l u e c (j, jl, js, jc) =
    upd_cases (λ j v. j < W → v.stage ≢ 0 → v.ticket ≡ c → Live W T c) T i w (λ l' s q. (i, l, u, sym e ∙ q)) (λ j h l' s q. (j, l', s, q)) j jl js jc

abbrev pub Separate : ℕ → (ℕ → Worker) → Type 0
Separate W T = (i j : ℕ) → i < W → j < W → i ≢ j → (T i).stage ≢ 0 → (T j).stage ≢ 0 → (T i).ticket ≢ (T j).ticket

pub separate : (W i : ℕ) (T : ℕ → Worker) (w : Worker) → i < W → (T i).stage ≢ 0 → w.ticket ≡ (T i).ticket → Separate W T → Separate W (with_record T i w)
separate W i T w l u e h p q =
    upd_cases (λ p v. p < W → q < W → p ≢ q → v.stage ≢ 0 → (with_record T i w q).stage ≢ 0 → v.ticket ≢ (with_record T i w q).ticket) T i w
    (upd_cases (λ q v. i < W → q < W → i ≢ q → w.stage ≢ 0 → v.stage ≢ 0 → w.ticket ≢ v.ticket) T i w
    (λ a b n s r x. n refl) (λ q m a b n s r x. h i q a b n u r (sym e ∙ x)) q)
    (λ p k. upd_cases (λ q v. p < W → q < W → p ≢ q → (T p).stage ≢ 0 → v.stage ≢ 0 → (T p).ticket ≢ v.ticket) T i w
    (λ a b n s r x. h p i a b n s u (x ∙ e)) (λ q m. h p q) q) p

-- A turn of worker i is closed by what its new record knows.
pub close : (sh : Shape) (m : View) (ch : Chains) (T : ℕ → Worker) (i : ℕ) (w : Worker) → i < sh.workers → (T i).stage ≢ 0 → w.ticket ≡ (T i).ticket
    → Rest sh m ch T i → Knows sh m ch w → Inv sh m ch (with_record T i w)
close sh m ch T i w l u e R k = record {
  lists = fewer_keeps sh m ch (Live sh.workers T) (Live sh.workers (with_record T i w)) (fewer sh.workers i T w l u e) R.lists;
  knows = upd_cases (λ j v. j < sh.workers → Knows sh m ch v) T i w (λ a. k) (λ j h a. R.others j h a);
  apart = separate sh.workers i T w l u e R.apart;
  unique = R.unique;
  bounded = R.bounded;
  positive = upd_cases (λ j v. j < sh.workers → v.stage ≢ 0 → 1 ≤ v.ticket) T i w (λ a s. rw e (R.positive i l u)) (λ j h. R.positive j);
}

pub rest : (sh : Shape) (m : View) (ch : Chains) (T : ℕ → Worker) (i : ℕ) → Inv sh m ch T → Rest sh m ch T i
rest sh m ch T i I = record { lists = I.lists; others = λ j h. I.knows j; apart = I.apart; unique = I.unique; bounded = I.bounded; positive = I.positive }

-- A change that keeps the lists and the tickets and is stable for every other call keeps the rest.
pub rest_stable : (sh : Shape) (m : View) (ch : Chains) (m' : View) (ch' : Chains) (T : ℕ → Worker) (i : ℕ) → i < sh.workers → (T i).stage ≢ 0
    → Rest sh m ch T i
    → ((n : ℕ) → m'.ticket n ≡ m.ticket n) → m'.started ≡ m.started → Lists sh m' ch' (Live sh.workers T)
    → ((c : ℕ) → Live sh.workers T c → c ≢ (T i).ticket → Stable sh m ch m' ch' c) → Rest sh m' ch' T i
rest_stable sh m ch m' ch' T i l u R st sd lists stable = record {
  lists = lists;
  others = λ j h a. knows_stable sh m ch m' ch' (T j) (λ s. stable (T j).ticket (j, a, s, refl) (R.apart j i a l h s u)) (R.others j h a);
  apart = R.apart;
  bounded = λ n z. rw (st n, sd) (R.bounded n z);
  unique = λ a b la lb h e. st a ∙ R.unique a b la lb h (sym (st a) ∙ e ∙ st b);
  positive = R.positive;
}
