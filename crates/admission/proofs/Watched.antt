-- A flag in place of refusal 3's look at every field: set by an opening, cleared by the one turn that leaves the ranges.
--     opened_sound                    past an opening all is in range
--     enqueue_sound, dequeue_sound    past a start
--     step_sound                      past a turn, unless it leaks: just then not
-- Assumes nothing.
use Rattle.std.specs.Prelude.{◌≡◌, refl, List, Bool, true, false, cond, not, ◌&&◌, ◌⊎◌, ℕ, ◌≤◌, ◌<◌, eqb, set}
use Rattle.std.proofs.Common.{sym, ◌∙◌, subst, inl, inr, arith, get_or-set_same, get_or-set_other, eqb-true}
use Rattle.std.proofs.Math.Path.{ap, subst⁻¹}
use Rattle.std.proofs.lemmas.Bool.{eqb-false}
use Rattle.arrival.specs.declared.Shape.{Shape}
use Rattle.arrival.specs.declared.Arrival.{Arrival}
use Rattle.arrival.specs.declared.Worker.{Worker}
use Rattle.arrival.specs.declared.Action.TheVariants.{Enqueue, Dequeue, Step}
use Rattle.laws.specs.Tests.{parts, upd_same}
use Rattle.arrival.specs.Queue.{taken}
use Rattle.calendar.specs.rules.Layout.{Write, write_all, item_at}
use Rattle.calendar.specs.facts.Views.{view, updates, AllInside}
use Rattle.calendar.proofs.facts.Views.{view_write_all}
use Rattle.calendar.specs.rules.Ranges.{blank, worker, store_in_range, table_in_range}
use Rattle.calendar.specs.facts.RangeFacts.{Limits, StoreRanges, RecordRanges}
use Rattle.calendar.proofs.facts.RangeFacts.{store_ranges, store_tests, table_tests}
use Rattle.calendar.specs.rules.Opening.{open_store, open_table}
use Rattle.calendar.proofs.facts.FreshPool.{open_store_ranged, open_table_ranged}
use Rattle.calendar.specs.rules.Outcome.{Outcome, on, answer}
use Rattle.calendar.specs.rules.Reclaim.{first_free}
use Rattle.calendar.proofs.facts.FirstFree.{first_free_node}
use Rattle.calendar.specs.rules.SearchSteps.{left_holds, unlink, found, settle, step_3}
use Rattle.calendar.specs.rules.Steps.{step}
use Rattle.calendar.proofs.facts.Changes.{step_is, step_at}
use Rattle.calendar.proofs.facts.Inside.{enqueue_inside, dequeue_inside, change_inside}
use Rattle.calendar.specs.facts.Accepted.{Usable, EnqueueAccepted, DequeueAccepted, StepAccepted}
use Rattle.calendar.specs.facts.RangesKept.{leaks}
use Rattle.calendar.proofs.facts.RangesKept.{enqueue_ranged, dequeue_ranged, step_ranged}
use Rattle.calendar.specs.rules.Operations.{Memory, perform, outcome}
use Rattle.admission.specs.Watched.{in_range}

pub opened_sound : (sh : Shape) (m : Memory) → Limits sh → in_range sh (record { store = open_store sh m.store; table = open_table sh m.table }) ≡ true
opened_sound sh m l =
    rw (
      store_tests sh (open_store sh m.store) (open_store_ranged sh m.store l),
      table_tests sh (open_table sh m.table) (open_table_ranged sh m.table l),
    )

module _ (sh : Shape) (m : Memory) (i : ℕ) (U : Usable sh m.store m.table i) (o : Outcome) where
  -- the records, with worker i's in range
  table_sound : RecordRanges sh o.worker → table_in_range sh (set m.table i o.worker) ≡ true
  table_sound r = table_tests sh (set m.table i o.worker) (λ j h. go j h (eqb i j) refl)
    where
      go : (j : ℕ) → j < sh.workers → (b : Bool) → eqb i j ≡ b → RecordRanges sh (worker (set m.table i o.worker) j)
      go j h true e =
          let same = get_or-set_same m.table i o.worker blank (omega (arith, U.lent.table, U.exists)) in
          subst (λ k. RecordRanges sh (worker (set m.table i o.worker) k)) (eqb-true i j e) (subst⁻¹ (λ w. RecordRanges sh w) same r)
      go j h false e = subst⁻¹ (λ w. RecordRanges sh w) (get_or-set_other m.table i j o.worker blank (λ q. eqb-false i j e (sym q))) (U.table j h)

  kept_sound : AllInside sh o.writes → StoreRanges sh (updates o.writes (view sh m.store)) → RecordRanges sh o.worker
      → in_range sh (perform sh m i o).memory ≡ true
  kept_sound ins ranged r =
      let v = view_write_all sh m.store o.writes U.lent.store ins in
      rw (store_tests sh (write_all sh m.store o.writes) (subst⁻¹ (λ x. StoreRanges sh x) v ranged), table_sound r)

pub enqueue_sound : (sh : Shape) (m : Memory) (i : ℕ) (a : Arrival) → EnqueueAccepted sh m.store m.table i a
    → in_range sh (perform sh m i (outcome sh m (Enqueue i a))).memory ≡ true
enqueue_sound sh m i a A =
    let (store, rec) = enqueue_ranged sh m.store m.table i a A in
    let x = first_free sh m.store m.table in
    let is_node = first_free_node sh m.store m.table A.usable.store.last A.node in
    kept_sound sh m i A.usable (outcome sh m (Enqueue i a)) (enqueue_inside sh m.store x a (worker m.table i) is_node) store rec

pub dequeue_sound : (sh : Shape) (m : Memory) (i : ℕ) → DequeueAccepted sh m.store m.table i
    → in_range sh (perform sh m i (outcome sh m (Dequeue i))).memory ≡ true
dequeue_sound sh m i A =
    let (store, rec) = dequeue_ranged sh m.store m.table i A in
    kept_sound sh m i A.usable (outcome sh m (Dequeue i)) (dequeue_inside sh m.store (worker m.table i)) store rec

-- ── a turn ──
settle_writes : (sh : Shape) (s : List ℕ) (ws : List Write) (v : Worker) → (settle sh s ws v).writes ≡ ws
unfolding settle found
settle_writes sh s ws v = go (eqb v.right sh.nodes) (eqb v.kind 0)
  where
    go : (a b : Bool) → (cond a (cond b (on ws 4 v) (answer ws v (taken (item_at sh s v.own)))) (on ws 2 v)).writes ≡ ws
    go true true = refl
    go true false = refl
    go false b = refl

module _ (sh : Shape) (m : Memory) (i : ℕ) (A : StepAccepted sh m.store m.table i) where
  abbrev s : List ℕ
  s = m.store

  abbrev w : Worker
  w = worker m.table i

  abbrev o : Outcome
  o = outcome sh m (Step i)

  r : RecordRanges sh (worker m.table i)
  r = A.usable.table i A.usable.exists

  tight_sound : leaks sh m.store (worker m.table i) ≡ false → in_range sh (perform sh m i (outcome sh m (Step i))).memory ≡ true
  tight_sound t =
      let c = step_is sh s w A.busy r.stage in
      let (rec, store) = step_ranged sh s m.table i A c in
      kept_sound sh m i A.usable o (change_inside sh s w r c) (store t) rec

  -- the node that 3 unlinks is retired, and its distance is still 0
  unlinking : (worker m.table i).stage ≡ 3 → left_holds sh m.store (worker m.table i) ≡ true
      → (step sh m.store (worker m.table i)).writes ≡ unlink sh m.store (worker m.table i)
  unfolding step_3
  unlinking q h = ap (λ (x : Outcome). x.writes) (step_at sh s w 3 q) ∙ rw h (settle_writes sh s (unlink sh s w) _)

  leaked : (worker m.table i).stage ≡ 3 → left_holds sh m.store (worker m.table i) ≡ true → (view sh m.store).distance (worker m.table i).right ≡ 0
      → in_range sh (perform sh m i (outcome sh m (Step i))).memory ≡ false
  leaked at-3 holds near = rw (go (store_in_range sh (write_all sh s o.writes)) refl)
    where
      is_node : (worker m.table i).right < sh.nodes
      is_node = omega (arith, r.right, r.searches (omega arith) (omega arith))

      after : view sh (write_all sh m.store o.writes) ≡ updates (unlink sh m.store (worker m.table i)) (view sh m.store)
      after = view_write_all sh s o.writes A.usable.lent.store (change_inside sh s w r (step_is sh s w A.busy r.stage))
          ∙ ap (λ ws. updates ws (view sh s)) (unlinking at-3 holds)

      none : {d k : ℕ} → (1 ≤ d) ⊎ (k ≡ 0) → d ≡ 0 → 1 ≤ k → ⊥
      none (inl p) z q = omega arith
      none (inr p) z q = omega arith

      out : StoreRanges sh (updates (unlink sh m.store (worker m.table i)) (view sh m.store)) → ⊥
      out I = none (I.nodes w.right is_node).far near (rw (upd_same w.right w.right _ _ refl) (omega arith))

      go : (b : Bool) → store_in_range sh (write_all sh m.store o.writes) ≡ b → store_in_range sh (write_all sh m.store o.writes) ≡ false
      go true e = absurd (out (subst (λ x. StoreRanges sh x) after (store_ranges sh (write_all sh s o.writes) e)))
      go false e = e

  -- A TURN LEAVES THE RANGES JUST BY THE LEAK
  pub step_sound : in_range sh (perform sh m i (outcome sh m (Step i))).memory ≡ not (leaks sh m.store (worker m.table i))
  step_sound = go (leaks sh s w) refl
    where
      go : (b : Bool) → leaks sh m.store (worker m.table i) ≡ b → in_range sh (perform sh m i (outcome sh m (Step i))).memory ≡ not b
      go true e =
          let (p, near) = parts (eqb w.stage 3 && left_holds sh s w) (eqb ((view sh s).distance w.right) 0) e in
          let (at-3, holds) = parts (eqb w.stage 3) (left_holds sh s w) p in
          leaked (eqb-true w.stage 3 at-3) holds (eqb-true ((view sh s).distance w.right) 0 near)
      go false e = tight_sound e
