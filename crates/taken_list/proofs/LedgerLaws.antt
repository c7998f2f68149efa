-- What holds of every ledger from an opening, by how it is written, and of two ledgers of which one goes on from the other.
--     Lawful, lawful, lawful_new      an arrival bears its put's ticket and has a bucket; a call ends after it started
--     Kept, kept_refl, kept_trans     what is written of finished calls stays
--     kept_act                        it stays past any action, where calls in progress have not ended
--     FromHistory, history_on         a memory and a ledger that a history left; what goes on from them
-- Assumes nothing.
use Rattle.std.specs.Prelude.{◌≡◌, refl, ◌≢◌, ℕ, ◌+◌, ◌≤◌, ◌<◌}
use Rattle.std.proofs.Common.{sym, ap, ◌∙◌, subst, arith}
use Rattle.std.proofs.Math.Option.{Option, none, some, none-ne-some, some-injective}
use mathlib.Core.List.{List, [], ◌∷◌, ◌++◌}
use Rattle.arrival.specs.declared.Shape.{Shape}
use Rattle.arrival.specs.declared.Item.{Item}
use Rattle.arrival.specs.declared.Action.{Action}
use Rattle.arrival.specs.declared.Action.TheVariants.{Enqueue, Dequeue, Step}
use Rattle.arrival.specs.declared.Response.{Response}
use Rattle.arrival.specs.declared.Response.TheVariants.{Opened, Begun, On, Stored, Took, Empty, Refused}
use Rattle.arrival.specs.Keys.{bucket_of}
use Rattle.arrival.proofs.Keys.{bucket_below}
use Rattle.arrival.specs.Queue as queue
use Rattle.laws.specs.Tests.{is_not, by_test, upd_other, upd_cases}
use Rattle.calendar.specs.rules.Layout.{item_at}
use Rattle.calendar.specs.rules.Ranges.{worker}
use Rattle.calendar.specs.rules.Starts.{item_of}
use Rattle.calendar.specs.rules.Operations.{Memory, refusal, outcome, act, run}
use Rattle.calendar.specs.rules.Ledger.{Ledger, new, begins, ends, marks, hears, succeeds_11, sees, notes, reads, ledger}
use Rattle.calendar.specs.rules.Linearizability.{InProgress}
use Rattle.calendar.proofs.facts.Accepted.{enqueue_accepted, step_accepted}
use Rattle.calendar.proofs.facts.Acting.{by_act}

-- what is heard ends the worker's call, or leaves the ledger
by_hears : (P : Ledger → Type 0) (i : ℕ) (r : Response) (L : Ledger) → P L → ((more-stored more-taken : ℕ) → P (ends i r more-stored more-taken L))
    → P (hears i r L)
by_hears P i Opened L same ended = same
by_hears P i (Begun c) L same ended = same
by_hears P i On L same ended = same
by_hears P i (Stored c) L same ended = ended 1 0
by_hears P i (Took time path order distance energy) L same ended = ended 0 1
by_hears P i Empty L same ended = ended 0 0
by_hears P i (Refused k) L same ended = same

-- ── every ledger ──
pub record Lawful (sh : Shape) (L : Ledger) : Type 0 where
  -- an arrival bears the ticket of its put, which has started, and lies in one of the buckets
  pub put : (c : ℕ) (x : Item) → L.asked c ≡ queue.enqueue x → (x.ticket ≡ c) × (1 ≤ c) × (c ≤ L.started) × (bucket_of sh x.time < sh.buckets)
  -- a call ends after it started
  pub ended : (c s : ℕ) → L.ended c ≡ some s → (c ≤ s) × (s ≤ L.started)
  -- a worker's last call has started
  pub last : (i : ℕ) → L.call_of i ≤ L.started

module _ (sh : Shape) where
  lawful_begins : (i : ℕ) (call : queue.Call) (L : Ledger)
      → ((x : Item) → call ≡ queue.enqueue x → (x.ticket ≡ L.started + 1) × (bucket_of sh x.time < sh.buckets)) → Lawful sh L
      → Lawful sh (begins i call L)
  lawful_begins i call L mine G = record {
    put = upd_cases (λ c (a : queue.Call). (x : Item) → a ≡ queue.enqueue x
        → (x.ticket ≡ c) × (1 ≤ c) × (c ≤ L.started + 1) × (bucket_of sh x.time < sh.buckets)) L.asked (L.started + 1) call
        (λ x e. let (t, b) = mine x e in (t, omega arith, omega arith, b))
        (λ c u x e. let (t, lo, hi, b) = G.put c x e in (t, lo, omega arith, b));
    ended = λ c s e. let (lo, hi) = G.ended c s e in (lo, omega arith);
    last = upd_cases (λ j (c : ℕ). c ≤ L.started + 1) L.call_of i (L.started + 1) (omega arith) (λ j u. omega (arith, G.last j));
  }

  lawful_marks : (i : ℕ) (x : Item) (L : Ledger) → Lawful sh L → Lawful sh (marks i x L)
  lawful_marks i x L G = record { put = G.put; ended = G.ended; last = G.last }

  lawful_ends : (i : ℕ) (r : Response) (more-stored more-taken : ℕ) (L : Ledger) → Lawful sh L → Lawful sh (ends i r more-stored more-taken L)
  lawful_ends i r p q L G = record {
    put = G.put;
    ended = upd_cases (λ c (o : Option ℕ). (s : ℕ) → o ≡ some s → (c ≤ s) × (s ≤ L.started)) L.ended (L.call_of i) (some L.started)
        (λ s e. let z = some-injective _ _ e in (omega (arith, G.last i), omega arith)) (λ c u s e. G.ended c s e);
    last = G.last;
  }

  lawful_act : (m : Memory) (L : Ledger) (a : Action) → Lawful sh L → Lawful sh (reads sh m a L)
  lawful_act m L a G = by_act sh (λ n. Lawful sh) m L a G (noted a)
    where
      noted : (a : Action) → refusal sh m a ≡ 0 → Lawful sh (notes sh m a (outcome sh m a).response L)
      noted (Enqueue i y) e =
          let A = enqueue_accepted sh m.store m.table i y e in
          let home = bucket_below sh y.time A.usable.lent.limits.some_bucket in
          lawful_begins i (queue.enqueue (item_of y (L.started + 1))) L
          (λ x q. let z : item_of y (L.started + 1)
          ≡ x = cc in (ap (λ (u : Item). u.ticket) (sym z), subst (λ (u : Item). bucket_of sh u.time < sh.buckets) z home)) G
      noted (Dequeue i) e = lawful_begins i queue.dequeue L (λ x q. absurd (let z : ◌≡◌ {A = ℕ} 0 1 = cc in omega arith)) G
      noted (Step i) e =
          let M = sees sh m i L in
          let r = (outcome sh m (Step i)).response in
          let H : Lawful sh M
          = by_test {A = Ledger} (Lawful sh) (succeeds_11 sh m.store (worker m.table i)) (λ t. lawful_marks i _ L G) (λ t. G) in
          by_hears (Lawful sh) i r M H (λ p q. lawful_ends i r p q M H)

  pub lawful : (m : Memory) (h : List Action) (L : Ledger) → Lawful sh L → Lawful sh (ledger sh m h L)
  unfolding ledger
  lawful m [] L G = G
  lawful m (a ∷ h) L G = lawful (act sh m a).memory h (reads sh m a L) (lawful_act m L a G)

  pub lawful_new : Lawful sh new
  lawful_new = record {
    put = λ c x e. absurd (let z : ◌≡◌ {A = ℕ} 0 1 = cc in omega arith);
    ended = λ c s e. absurd (none-ne-some _ e);
    last = λ i. omega arith;
  }

-- ── one ledger goes on from another ──
pub record Kept (L L' : Ledger) : Type 0 where
  pub started : L.started ≤ L'.started
  pub asked : (c : ℕ) → c ≤ L.started → L'.asked c ≡ L.asked c
  pub ended : (c s : ℕ) → L.ended c ≡ some s → L'.ended c ≡ some s
  pub response : (c s : ℕ) → L.ended c ≡ some s → L'.response c ≡ L.response c
  pub marked : (c s : ℕ) → L.ended c ≡ some s → L'.marked c ≡ L.marked c

pub kept_refl : (L : Ledger) → Kept L L
kept_refl L = record { started = omega arith; asked = λ c h. refl; ended = λ c s e. e; response = λ c s e. refl; marked = λ c s e. refl }

pub kept_trans : (L M N : Ledger) → Kept L M → Kept M N → Kept L N
kept_trans L M N K J = record {
  started = omega (arith, K.started, J.started);
  asked = λ c h. J.asked c (omega (arith, K.started)) ∙ K.asked c h;
  ended = λ c s e. J.ended c s (K.ended c s e);
  response = λ c s e. J.response c s (K.ended c s e) ∙ K.response c s e;
  marked = λ c s e. J.marked c s (K.ended c s e) ∙ K.marked c s e;
}

kept_begins : (i : ℕ) (call : queue.Call) (L : Ledger) → Kept L (begins i call L)
kept_begins i call L = record {
  started = omega arith;
  asked = λ c h. upd_other (L.started + 1) c call (L.asked c) (λ q. omega arith);
  ended = λ c s e. e;
  response = λ c s e. refl;
  marked = λ c s e. refl;
}

-- a call that has not ended is marked or answered
module _ (i : ℕ) (L : Ledger) (open-still : L.ended (L.call_of i) ≡ none) where
  not_this : (c s : ℕ) → L.ended c ≡ some s → L.call_of i ≢ c
  not_this c s e q = none-ne-some _ (sym open-still ∙ ap L.ended q ∙ e)

  kept_marks : (x : Item) → Kept L (marks i x L)
  kept_marks x = record {
    started = omega arith;
    asked = λ c h. refl;
    ended = λ c s e. e;
    response = λ c s e. refl;
    marked = λ c s e. upd_other (L.call_of i) c (some x) (L.marked c) (not_this c s e);
  }

  kept_ends : (r : Response) (more-stored more-taken : ℕ) → Kept L (ends i r more-stored more-taken L)
  kept_ends r p q = record {
    started = omega arith;
    asked = λ c h. refl;
    ended = λ c s e. upd_other (L.call_of i) c (some L.started) (L.ended c) (not_this c s e) ∙ e;
    response = λ c s e. upd_other (L.call_of i) c r (L.response c) (not_this c s e);
    marked = λ c s e. refl;
  }

module _ (sh : Shape) where
  kept_turn : (m : Memory) (i : ℕ) (L : Ledger) (r : Response) → L.ended (L.call_of i) ≡ none → Kept L (hears i r (sees sh m i L))
  kept_turn m i L r e =
      by_test {A = Ledger} (λ M. Kept L (hears i r M)) (succeeds_11 sh m.store (worker m.table i))
      (λ t. kept_trans L (marks i x L) (hears i r (marks i x L)) (kept_marks i L e x) (heard (marks i x L) e)) (λ t. heard L e)
    where
      heard : (M : Ledger) → M.ended (M.call_of i) ≡ none → Kept M (hears i r M)
      heard M e = by_hears (Kept M) i r M (kept_refl M) (kept_ends i M e r)

      x : Item
      x = item_at sh m.store (worker m.table i).right

  pub kept_act : (m : Memory) (L : Ledger) (a : Action) → ((c : ℕ) → InProgress sh m L c → L.ended c ≡ none) → Kept L (reads sh m a L)
  kept_act m L a unended = by_act sh (λ n. Kept L) m L a (kept_refl L) (noted a)
    where
      noted : (a : Action) → refusal sh m a ≡ 0 → Kept L (notes sh m a (outcome sh m a).response L)
      noted (Enqueue i y) e = kept_begins i (queue.enqueue (item_of y (L.started + 1))) L
      noted (Dequeue i) e = kept_begins i queue.dequeue L
      noted (Step i) e =
          let A = step_accepted sh m.store m.table i e in
          kept_turn m i L (outcome sh m (Step i)).response
          (unended (L.call_of i) (i, A.usable.exists, refl, is_not (worker m.table i).stage 0 A.busy))

  -- ── histories that go on ──
  -- m and L are what some history from p left
  abbrev pub FromHistory : Memory → Memory → Ledger → Type 0
  FromHistory p m L = (h : List Action) × (run sh p h ≡ m) × (ledger sh p h new ≡ L)

  run_on : (p : Memory) (h g : List Action) (L : Ledger)
      → (run sh p (h ++ g) ≡ run sh (run sh p h) g) × (ledger sh p (h ++ g) L ≡ ledger sh (run sh p h) g (ledger sh p h L))
  unfolding run ledger
  run_on p [] g L = (refl, refl)
  run_on p (a ∷ h) g L = run_on (act sh p a).memory h g (reads sh p a L)

  pub history_on : (p m : Memory) (L : Ledger) (g : List Action) → FromHistory p m L → FromHistory p (run sh m g) (ledger sh m g L)
  history_on p m L g (h, e, f) =
      let (a, b) = run_on p h g new in
      (h ++ g, a ∙ ap (λ (n : Memory). run sh n g) e, b ∙ λ i. ledger sh (e i) g (f i))
