-- Over every history from an opening: fields stay in range, so 1, 2 and 3 never occur, and no put gets a node that another
-- call in progress stands on.
--     SomeReached, opened, open_reaches, act_reaches     what openings and actions reach
--     history_reaches                                    every history from an opening reaches it
--     reached_in_range, always_in_range                  so every field is in its range
--     not_1_to_3, refused_by, never_refused_1_to_3       and 1, 2 and 3 never occur
--     free_not_stood_on                                  nobody stands on a free node
--     reached_not_held, no_put_gets_a_held_node          no put gets a node that another call stands on
-- Assumes nothing.
use Rattle.std.specs.Prelude.{◌≡◌, refl, List, [], ◌∷◌, Bool, true, false, cond, ◌≢◌, ℕ, ◌≤◌, ◌<◌, eqb, length, drop}
use Rattle.std.proofs.Common.{sym, ap, ◌∙◌, subst, arith, get_or-set_same, eqb-true, le-leb, le-ltb}
use Rattle.arrival.specs.declared.Shape.{Shape}
use Rattle.arrival.specs.declared.Arrival.{Arrival}
use Rattle.arrival.specs.declared.Worker.{Worker}
use Rattle.arrival.specs.declared.Action.{Action}
use Rattle.arrival.specs.declared.Action.TheVariants.{Enqueue, Dequeue, Step}
use Rattle.arrival.specs.declared.Response.{Response}
use Rattle.arrival.specs.declared.Response.TheVariants.{Opened, Begun, Refused}
use Rattle.arrival.specs.Responses.{said}
use Rattle.calendar.specs.rules.Layout.{layout}
use Rattle.calendar.specs.rules.Ranges.{blank, worker, store_in_range, table_in_range}
use Rattle.calendar.specs.rules.Reclaim.{first_free}
use Rattle.calendar.specs.rules.Opening.{open_store, open_table}
use Rattle.calendar.specs.rules.Starts.{enqueue_start}
use Rattle.calendar.specs.rules.Refusals.{bad_shape, too_short, out_of_range, open_refusal, enqueue_refusal}
use Rattle.calendar.specs.rules.Snapshot.{holds}
use Rattle.calendar.specs.rules.Ledger.{new}
use Rattle.calendar.specs.rules.Operations.{Memory, Result, perform, open_pool, actor, refusal, outcome, act, run}
use Rattle.calendar.specs.facts.Views.{View, view, item_in}
use Rattle.calendar.proofs.facts.RangeFacts.{store_tests, table_tests}
use Rattle.calendar.proofs.facts.FirstFree.{first_free_node, first_free_free}
use Rattle.calendar.specs.facts.Accepted.{Lent}
use Rattle.calendar.proofs.facts.Accepted.{open_accepted, enqueue_accepted, dequeue_accepted, step_accepted}
use Rattle.laws.specs.FirstOf.{by_numbers, first_above}
use Rattle.calendar.specs.facts.RefusalParts.{tests_of}
use Rattle.calendar.proofs.facts.RefusalParts.{refusal_first, tests_rise}
use Rattle.calendar.proofs.facts.Changes.{step_is}
use Rattle.calendar.proofs.facts.Untouched.{open_same_size, outcome_said}
use Rattle.calendar.proofs.facts.Acting.{by_act}
use Rattle.lists.specs.LinkInvariant.{Chains}
use Rattle.lists.specs.Filling.{Free, not_used, not_safe}
use Rattle.lists.specs.AllCalls.{Live, Inv}
use Rattle.lists.specs.SafeNodes.{not_stood_on}
use Rattle.lists.specs.FromOpening.{Reached, reached_open, reached_enqueue, reached_dequeue, reached_step, free_node}
use Rattle.lists.specs.TurnsKeepLists.{chains_after}

abbrev pub SomeReached : Shape → Memory → Type 0
SomeReached sh m = (ch : Chains) × Reached sh m ch

-- ── the induction ──
-- an opening that answers open is not refused
pub opened : (sh : Shape) (m : Memory) → (open_pool sh m).response ≡ Opened
    → (open_refusal sh m.store m.table ≡ 0) × ((open_pool sh m).memory ≡ record { store = open_store sh m.store; table = open_table sh m.table })
unfolding open_pool
opened sh m e = go (eqb (open_refusal sh m.store m.table) 0) refl e
  where
    go : (b : Bool) → eqb (open_refusal sh m.store m.table) 0 ≡ b
        → (cond {A = Result} b (record { memory = record { store = open_store sh m.store; table = open_table sh m.table }; response = Opened })
        (record { memory = m; response = Refused (open_refusal sh m.store m.table) })).response ≡ Opened
        → (open_refusal sh m.store m.table ≡ 0)
        × ((cond {A = Result} b (record {
          memory = record { store = open_store sh m.store; table = open_table sh m.table };
          response = Opened;
        }) (record { memory = m; response = Refused (open_refusal sh m.store m.table) })).memory ≡ record {
          store = open_store sh m.store;
          table = open_table sh m.table;
        })
    go true q r = (eqb-true (open_refusal sh m.store m.table) 0 q, refl)
    go false q r = absurd (let z : ◌≡◌ {A = ℕ} 0 1 = cc in omega arith)

pub open_reaches : (sh : Shape) (m : Memory) → (open_pool sh m).response ≡ Opened → Reached sh (open_pool sh m).memory (λ b. [])
open_reaches sh m e =
    let (z, q) = opened sh m e in
    let A = open_accepted sh m.store m.table z in
    let size = open_same_size sh m in
    let B : Lent sh (open_store sh m.store) (open_table sh m.table) = record {
      limits = A.limits;
      store = subst (λ (n : Memory). layout sh ≤ length n.store) q (rw size.store A.store);
      table = subst (λ (n : Memory). sh.workers ≤ length n.table) q (rw size.table A.table);
    } in
    subst (λ n. Reached sh n (λ b. [])) (sym q) (reached_open sh m A B)

pub act_reaches : (sh : Shape) (m : Memory) (a : Action) → SomeReached sh m → SomeReached sh (act sh m a).memory
act_reaches sh m a (ch, K) = by_act sh (λ n L. SomeReached sh n) m new a (ch, K) (accepted a)
  where
    accepted : (a : Action) → refusal sh m a ≡ 0 → SomeReached sh (perform sh m (actor a) (outcome sh m a)).memory
    accepted (Enqueue i x) e = (ch, reached_enqueue sh m ch i x K (enqueue_accepted sh m.store m.table i x e))
    accepted (Dequeue i) e = (ch, reached_dequeue sh m ch i K (dequeue_accepted sh m.store m.table i e))
    accepted (Step i) e =
        let A = step_accepted sh m.store m.table i e in
        let c = step_is sh m.store (worker m.table i) A.busy (K.table i A.usable.exists).stage in
        (chains_after sh m.store (worker m.table) i A.usable.exists A.busy ch K.inv c, reached_step sh m ch i K A c)

run_reaches : (sh : Shape) (m : Memory) (h : List Action) → SomeReached sh m → SomeReached sh (run sh m h)
unfolding run
run_reaches sh m [] K = K
run_reaches sh m (a ∷ h) K = run_reaches sh (act sh m a).memory h (act_reaches sh m a K)

-- EVERY HISTORY FROM AN OPENING
pub history_reaches : (sh : Shape) (m : Memory) → (open_pool sh m).response ≡ Opened → (h : List Action) → SomeReached sh (run sh (open_pool sh m).memory h)
history_reaches sh m e h = run_reaches sh (open_pool sh m).memory h (λ b. [], open_reaches sh m e)

-- ── ranges ──
pub reached_in_range : (sh : Shape) (m : Memory) (ch : Chains) → Reached sh m ch → (store_in_range sh m.store ≡ true) × (table_in_range sh m.table ≡ true)
reached_in_range sh m ch K = (store_tests sh m.store K.store, table_tests sh m.table K.table)

pub always_in_range : (sh : Shape) (m : Memory) → (open_pool sh m).response ≡ Opened → (h : List Action)
    → let n = run sh (open_pool sh m).memory h in (store_in_range sh n.store ≡ true) × (table_in_range sh n.table ≡ true)
always_in_range sh m e h = let (ch, K) = history_reaches sh m e h in reached_in_range sh (run sh (open_pool sh m).memory h) ch K

-- the first three tests of every list of refusals fail
module _ (sh : Shape) (m : Memory) (ch : Chains) (K : Reached sh m ch) where
  in_shape : bad_shape sh ≡ false
  in_shape = let L = K.lent.limits in
      rw (
        le-leb 1 sh.workers L.some_worker,
        le-leb sh.workers 64 L.workers,
        le-leb 1 sh.nodes L.some_node,
        le-leb sh.nodes 4096 L.nodes,
        le-leb 1 sh.buckets L.some_bucket,
        le-leb sh.buckets 256 L.buckets,
        le-leb 1 sh.width L.some_width,
        le-leb sh.width 65535 L.width,
      )

  long : too_short sh m.store m.table ≡ false
  long = rw (le-ltb (length m.store) (layout sh) K.lent.store, le-ltb (length m.table) sh.workers K.lent.table)

  ranged : out_of_range sh m.store m.table ≡ false
  ranged = let (p, q) = reached_in_range sh m ch K in rw (p, q)

  -- nothing but 4 and more is left
  pub not_1_to_3 : (a : Action) (k : ℕ) → 1 ≤ k → k ≤ 3 → refusal sh m a ≢ k
  not_1_to_3 a k lo hi =
      let (one, (two, (three, rise))) = by_numbers 0 (tests_of sh m a) (tests_rise sh m a) in
      rw (refusal_first sh m a, in_shape, long, ranged) (first_above 3 (drop 3 (tests_of sh m a)) rise k lo hi)

-- a refusal's number is the one of the list
pub refused_by : (sh : Shape) (m : Memory) (a : Action) (k : ℕ) → 1 ≤ k → (act sh m a).response ≡ Refused k → refusal sh m a ≡ k
unfolding act
refused_by sh m a k lo e = go (eqb (refusal sh m a) 0) refl e
  where
    go : (b : Bool) → eqb (refusal sh m a) 0 ≡ b → (cond b (perform sh m (actor a) (outcome sh m a))
        (record { memory = m; response = Refused (refusal sh m a) })).response ≡ Refused k → refusal sh m a ≡ k
    go true q r = absurd (omega (arith, outcome_said sh m a (eqb-true (refusal sh m a) 0 q), ap (λ (x : Response). (said x).number) r))
    go false q r = ap (λ (x : Response). (said x).number) r

-- REFUSALS 1, 2 AND 3 NEVER OCCUR
pub never_refused_1_to_3 : (sh : Shape) (m : Memory) → (open_pool sh m).response ≡ Opened → (h : List Action) (a : Action) (k : ℕ) → 1 ≤ k → k ≤ 3
    → (act sh (run sh (open_pool sh m).memory h) a).response ≢ Refused k
never_refused_1_to_3 sh m e h a k lo hi r =
    let n = run sh (open_pool sh m).memory h in
    let (ch, K) = history_reaches sh m e h in
    not_1_to_3 sh n ch K a k lo hi (refused_by sh n a k lo r)

-- ── what a call stands on ──
-- no free node is one that a call in progress stands on
pub free_not_stood_on : (sh : Shape) (v : View) (ch : Chains) (T : ℕ → Worker) → Inv sh v ch T → (x : ℕ) → x < sh.nodes → Free v (Live sh.workers T) x
    → (j : ℕ) → j < sh.workers → holds sh (T j) x ≡ false
free_not_stood_on sh v ch T I x is_node free j l =
    not_stood_on sh v ch (T j) (I.knows j l) x is_node
    (λ b n busy st e. not_safe sh v ch (Live sh.workers T) I.lists x (item_in v x) free (T j).ticket n (j, l, busy, refl) st.safe (sym e))
    (λ busy p e. not_used sh v ch (Live sh.workers T) I.lists x (item_in v x) free (ap v.standing (sym e) ∙ p.used))

-- the node that a put gets is the first free one
put_gets : (sh : Shape) (m : Memory) (i c : ℕ) (a : Arrival) → (act sh m (Enqueue i a)).response ≡ Begun c
    → (enqueue_refusal sh m.store m.table i a ≡ 0)
    × (sh.workers ≤ length m.table → i < sh.workers → (worker (act sh m (Enqueue i a)).memory.table i).own ≡ first_free sh m.store m.table)
unfolding act enqueue_start
put_gets sh m i c a e = go (eqb (enqueue_refusal sh m.store m.table i a) 0) refl e
  where
    go : (b : Bool) → eqb (enqueue_refusal sh m.store m.table i a) 0 ≡ b
        → (cond b (perform sh m i (outcome sh m (Enqueue i a))) (record {
          memory = m;
          response = Refused (enqueue_refusal sh m.store m.table i a);
        })).response ≡ Begun c
        → (enqueue_refusal sh m.store m.table i a ≡ 0)
        × (sh.workers ≤ length m.table → i < sh.workers
        → (worker (cond b (perform sh m i (outcome sh m (Enqueue i a))) (record {
          memory = m;
          response = Refused (enqueue_refusal sh m.store m.table i a);
        })).memory.table i).own ≡ first_free sh m.store m.table)
    go true q r = (eqb-true _ 0 q, λ t l. ap (λ (w : Worker). w.own) (get_or-set_same m.table i (outcome sh m (Enqueue i a)).worker blank (omega arith)))
    go false q r = absurd (let z : ◌≡◌ {A = ℕ} 0 1 = cc in omega arith)

-- NO PUT GETS A NODE THAT ANOTHER CALL IN PROGRESS STANDS ON
pub reached_not_held : (sh : Shape) (m : Memory) (ch : Chains) → Reached sh m ch → (i c : ℕ) (a : Arrival) → (act sh m (Enqueue i a)).response ≡ Begun c
    → (j : ℕ) → j < sh.workers → j ≢ i → holds sh (worker m.table j) (worker (act sh m (Enqueue i a)).memory.table i).own ≡ false
reached_not_held sh m ch K i c a e j l u =
    let (z, own) = put_gets sh m i c a e in
    let A = enqueue_accepted sh m.store m.table i a z in
    rw (own K.lent.table A.usable.exists)
    (free_not_stood_on sh (view sh m.store) ch (worker m.table) K.inv (first_free sh m.store m.table) (first_free_node sh m.store m.table
    K.store.last A.node)
    (free_node sh m.store m.table (first_free sh m.store m.table) (first_free_free sh m.store m.table K.store.last A.node)) j l)

pub no_put_gets_a_held_node : (sh : Shape) (m : Memory) → (open_pool sh m).response ≡ Opened → (h : List Action) → let n = run sh (open_pool sh m).memory h in
    (i c : ℕ) (a : Arrival) → (act sh n (Enqueue i a)).response ≡ Begun c → (j : ℕ) → j < sh.workers → j ≢ i
    → holds sh (worker n.table j) (worker (act sh n (Enqueue i a)).memory.table i).own ≡ false
no_put_gets_a_held_node sh m e h = let (ch, K) = history_reaches sh m e h in reached_not_held sh (run sh (open_pool sh m).memory h) ch K
