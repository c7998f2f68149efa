-- The values that an answer carries are in their ranges: of whole calls on any memory, for what is out of range is refused by 3, of narrow ones where the
-- memory stays in range. So a taken arrival's time has 32 bits, and its energy is at most 2^24.
--     found_values .. change_values          those of a turn, outcome by outcome
--     outcome_values                         those of any action that is not refused
--     open_low, act_low                      refusals have numbers to 12
--     unless_values                          refused or done, the values are in their ranges
--     act_values, open_values                so are those of a start, a turn or an opening
--     history_values                         of a history
--     host_values                            and of what a host requests, where the memory stays in range
-- Assumes nothing.
use Rattle.std.specs.Prelude.{◌≡◌, refl, List, [], ◌∷◌, Bool, true, false, cond, ℕ, zero, suc, ◌-◌, ◌≤◌, ◌<◌, eqb, leb, get_or, drop}
use Rattle.std.proofs.Math.Path.{subst⁻¹}
use Rattle.std.proofs.Common.{arith, eqb-true, leb-true}
use Rattle.laws.specs.Lists.{all}
use Rattle.laws.specs.FirstOf.{first_of, first_has}
use Rattle.arrival.specs.declared.Shape.{Shape}
use Rattle.arrival.specs.declared.Worker.{Worker}
use Rattle.arrival.specs.declared.Action.{Action}
use Rattle.arrival.specs.declared.Action.TheVariants.{Enqueue, Dequeue, Step}
use Rattle.arrival.specs.declared.Request.{Request}
use Rattle.arrival.specs.declared.Response.{Response}
use Rattle.arrival.specs.declared.Response.TheVariants.{Opened, Refused}
use Rattle.arrival.proofs.Energy.{energy_most}
use Rattle.calendar.specs.rules.Layout.{Write, distance_at}
use Rattle.calendar.specs.rules.Ranges.{worker}
use Rattle.calendar.specs.rules.Outcome.{Outcome}
use Rattle.calendar.specs.rules.Starts.{enqueue_start, dequeue_start}
use Rattle.calendar.specs.rules.Refusals.{open_tests, enqueue_tests, dequeue_tests, step_tests, open_refusal, enqueue_refusal, dequeue_refusal, step_refusal}
use Rattle.calendar.specs.rules.Operations.{Memory, Result, unless, perform, open_pool, actor, refusal, outcome, act, responses}
use Rattle.calendar.specs.rules.HostHistory.{host_answers, one_by_one, counts, last_of_each}
use Rattle.calendar.specs.facts.Views.{view}
use Rattle.calendar.specs.facts.RangeFacts.{StoreRanges, RecordRanges}
use Rattle.calendar.proofs.facts.Changes.{Found, put_found, take_ends, Settled, at_end, still_on, Walked, out, out_last, meets, Change, head_read}
use Rattle.calendar.proofs.facts.Changes.{mark_seen, passed, stopped, unlinked, again_3, prepared, linked, again_5, stored_6, on_7, stored_7, back_6}
use Rattle.calendar.proofs.facts.Changes.{current_read, first_read, mark_passed, newer, on_11, marked, back_10, advanced, back_12, emptied, back_13}
use Rattle.calendar.proofs.facts.Changes.{step_is}
use Rattle.calendar.proofs.facts.Accepted.{enqueue_accepted, dequeue_accepted, step_accepted}
use Rattle.calendar.specs.facts.HostRun.{StaysInRange}
use Rattle.calendar.proofs.facts.HostRun.{host_answers_lem}
use Rattle.calendar.specs.facts.AnswerRanges.{ValuesInRange, AllInRange}

-- ── what is not refused ──
module _ (sh : Shape) (s : List ℕ) (store : StoreRanges sh (view sh s)) where
  found_values : {ws : List Write} {v : Worker} {o : Outcome} → v.own < sh.nodes → Found sh s ws v o → ValuesInRange o.response
  found_values h (put_found e) = tt
  found_values {v = v} h (take_ends e) =
      let n = store.nodes v.own h in
      let energy = energy_most (distance_at sh s v.own) in
      (omega (arith, n.time), omega (arith, n.path), omega (arith, n.order), omega (arith, n.distance), omega (arith, energy))

  settled_values : {ws : List Write} {v : Worker} {o : Outcome} → v.own < sh.nodes → Settled sh s ws v o → ValuesInRange o.response
  settled_values h (at_end e f) = found_values h f
  settled_values h (still_on e) = tt

  walked_values : {v : Worker} {o : Outcome} → Walked sh s v o → ValuesInRange o.response
  walked_values (out e f) = tt
  walked_values (out_last e f) = tt
  walked_values (meets e) = tt

  change_values : {w : Worker} {o : Outcome} → RecordRanges sh w → Change sh s w o → ValuesInRange o.response
  change_values r (head_read a b) = settled_values r.own b
  change_values r (mark_seen a b) = tt
  change_values r (passed a b c d) = settled_values r.own d
  change_values r (stopped a b c d) = found_values r.own d
  change_values r (unlinked a b c) = settled_values r.own c
  change_values r (again_3 a b) = tt
  change_values r (prepared a) = tt
  change_values r (linked a b) = tt
  change_values r (again_5 a b) = tt
  change_values r (stored_6 a b) = r.ticket
  change_values r (on_7 a b) = tt
  change_values r (stored_7 a b) = r.ticket
  change_values r (back_6 a b) = tt
  change_values r (current_read a) = tt
  change_values r (first_read a b) = walked_values b
  change_values r (mark_passed a b c) = walked_values c
  change_values r (newer a b c) = tt
  change_values r (on_11 a b c) = tt
  change_values r (marked a b) = tt
  change_values r (back_10 a b) = tt
  change_values r (advanced a b) = tt
  change_values r (back_12 a b) = tt
  change_values r (emptied a b) = tt
  change_values r (back_13 a b) = tt

outcome_values : (sh : Shape) (m : Memory) (a : Action) → refusal sh m a ≡ 0 → ValuesInRange (outcome sh m a).response
unfolding enqueue_start dequeue_start
outcome_values sh m (Enqueue i a) e = let A = enqueue_accepted sh m.store m.table i a e in omega (arith, A.usable.store.started, A.ticket)
outcome_values sh m (Dequeue i) e = let A = dequeue_accepted sh m.store m.table i e in omega (arith, A.usable.store.started, A.ticket)
outcome_values sh m (Step i) e =
    let A = step_accepted sh m.store m.table i e in
    let r = A.usable.table i A.usable.exists in
    change_values sh m.store A.usable.store r (step_is sh m.store (worker m.table i) A.busy r.stage)

-- ── refusals ──
first_low : (xs : List (ℕ × Bool)) → all (λ x. leb x.0 12) xs ≡ true → first_of xs ≤ 12
first_low xs each = leb-true (first_of xs) 12 (first_has (λ k. leb k 12) xs refl each)

open_low : (sh : Shape) (m : Memory) → open_refusal sh m.store m.table ≤ 12
unfolding open_refusal
open_low sh m = first_low (open_tests sh m.store m.table) refl

act_low : (sh : Shape) (m : Memory) (a : Action) → refusal sh m a ≤ 12
unfolding enqueue_refusal dequeue_refusal step_refusal
act_low sh m (Enqueue i a) = first_low (enqueue_tests sh m.store m.table i a) refl
act_low sh m (Dequeue i) = first_low (dequeue_tests sh m.store m.table i) refl
act_low sh m (Step i) = first_low (step_tests sh m.store m.table i) refl

-- refused, or done
unless_values : (k : ℕ) (m : Memory) (r : Result) → k ≤ 12 → (k ≡ 0 → ValuesInRange r.response) → ValuesInRange (unless k m r).response
unless_values k m r low h = go (eqb k 0) refl
  where
    go : (b : Bool) → eqb k 0 ≡ b → ValuesInRange (cond b r (record { memory = m; response = Refused k })).response
    go true e = h (eqb-true k 0 e)
    go false e = low

-- ── any operation, on any memory ──
pub act_values : (sh : Shape) (m : Memory) (a : Action) → ValuesInRange (act sh m a).response
unfolding act
act_values sh m a = unless_values (refusal sh m a) m (perform sh m (actor a) (outcome sh m a)) (act_low sh m a) (outcome_values sh m a)

pub open_values : (sh : Shape) (m : Memory) → ValuesInRange (open_pool sh m).response
unfolding open_pool
open_values sh m = unless_values (open_refusal sh m.store m.table) m _ (open_low sh m) (λ e. tt)

pub history_values : (sh : Shape) (m : Memory) (h : List Action) → AllInRange (responses sh m h)
unfolding responses
history_values sh m [] = tt
history_values sh m (a ∷ h) = (act_values sh m a, history_values sh (act sh m a).memory h)

at_values : (rs : List Response) (k : ℕ) → AllInRange rs → ValuesInRange (get_or rs k Opened)
at_values [] k h = tt
at_values (r ∷ rs) zero h = h.0
at_values (r ∷ rs) (suc k) h = at_values rs k h.1

drop_values : (rs : List Response) (k : ℕ) → AllInRange rs → AllInRange (drop k rs)
drop_values rs zero h = h
drop_values [] (suc k) h = tt
drop_values (r ∷ rs) (suc k) h = drop_values rs k h.1

last_values : (ks : List ℕ) (rs : List Response) → AllInRange rs → AllInRange (last_of_each ks rs)
last_values [] rs h = tt
last_values (k ∷ ks) rs h = (at_values rs (k - 1) h, last_values ks (drop k rs) (drop_values rs k h))

-- whole calls, narrow ones and runs
pub host_values : (sh : Shape) (m : Memory) (qs : List Request) → StaysInRange sh m → AllInRange (host_answers sh m qs)
host_values sh m qs S =
    subst⁻¹ AllInRange (host_answers_lem sh m qs S) (last_values (counts sh m qs) (responses sh m (one_by_one sh m qs))
    (history_values sh m (one_by_one sh m qs)))
