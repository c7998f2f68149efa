-- A response goes on exactly where the worker's call is then in progress.
--     change_goes     of a turn, whatever it did
--     rule_goes       of a start or turn that its own tests let pass
--     narrow_goes     of a narrow one that is not refused, in the memory that it leaves
-- Assumes nothing.
use Rattle.std.specs.Prelude.{◌≡◌, refl, List, ℕ}
use Rattle.std.proofs.Common.{arith, get_or-set_same}
use Rattle.arrival.specs.declared.Shape.{Shape}
use Rattle.arrival.specs.declared.Worker.{Worker}
use Rattle.arrival.specs.declared.Action.{Action}
use Rattle.arrival.specs.declared.Action.TheVariants.{Enqueue, Dequeue, Step}
use Rattle.calendar.specs.rules.Layout.{Write}
use Rattle.calendar.specs.rules.Ranges.{blank, worker}
use Rattle.calendar.specs.rules.Reclaim.{in_progress}
use Rattle.calendar.specs.rules.Outcome.{Outcome}
use Rattle.calendar.specs.rules.Starts.{enqueue_start, dequeue_start}
use Rattle.laws.specs.FirstOf.{first_of}
use Rattle.calendar.specs.rules.Operations.{Memory, actor, outcome}
use Rattle.calendar.specs.rules.NarrowCalls.{narrow_refusal, narrow_act, goes_on}
use Rattle.calendar.specs.facts.RangeFacts.{RecordRanges}
use Rattle.calendar.proofs.facts.Changes.{Found, put_found, take_ends, Settled, at_end, still_on, Walked, out, out_last, meets, Change, head_read}
use Rattle.calendar.proofs.facts.Changes.{mark_seen, passed, stopped, unlinked, again_3, prepared, linked, again_5, stored_6, on_7, stored_7, back_6}
use Rattle.calendar.proofs.facts.Changes.{current_read, first_read, mark_passed, newer, on_11, marked, back_10, advanced, back_12, emptied, back_13}
use Rattle.calendar.proofs.facts.Changes.{step_is}
use Rattle.calendar.proofs.facts.Accepted.{step_passed}
use Rattle.calendar.specs.facts.RefusalParts.{own_of}
use Rattle.calendar.proofs.facts.NarrowAccepted.{narrow_accepted, narrow_passes}

module _ (sh : Shape) (s : List ℕ) where
  found_goes : {ws : List Write} {v : Worker} {o : Outcome} → Found sh s ws v o → goes_on o.response ≡ in_progress o.worker
  found_goes (put_found e) = refl
  found_goes (take_ends e) = refl

  settled_goes : {ws : List Write} {v : Worker} {o : Outcome} → Settled sh s ws v o → goes_on o.response ≡ in_progress o.worker
  settled_goes (at_end e f) = found_goes f
  settled_goes (still_on e) = refl

  walked_goes : {v : Worker} {o : Outcome} → Walked sh s v o → goes_on o.response ≡ in_progress o.worker
  walked_goes (out e f) = refl
  walked_goes (out_last e f) = refl
  walked_goes (meets e) = refl

  pub change_goes : {w : Worker} {o : Outcome} → Change sh s w o → goes_on o.response ≡ in_progress o.worker
  change_goes (head_read a b) = settled_goes b
  change_goes (mark_seen a b) = refl
  change_goes (passed a b c d) = settled_goes d
  change_goes (stopped a b c d) = found_goes d
  change_goes (unlinked a b c) = settled_goes c
  change_goes (again_3 a b) = refl
  change_goes (prepared a) = refl
  change_goes (linked a b) = refl
  change_goes (again_5 a b) = refl
  change_goes (stored_6 a b) = refl
  change_goes (on_7 a b) = refl
  change_goes (stored_7 a b) = refl
  change_goes (back_6 a b) = refl
  change_goes (current_read a) = refl
  change_goes (first_read a b) = walked_goes b
  change_goes (mark_passed a b c) = walked_goes c
  change_goes (newer a b c) = refl
  change_goes (on_11 a b c) = refl
  change_goes (marked a b) = refl
  change_goes (back_10 a b) = refl
  change_goes (advanced a b) = refl
  change_goes (back_12 a b) = refl
  change_goes (emptied a b) = refl
  change_goes (back_13 a b) = refl

pub rule_goes : (sh : Shape) (m : Memory) (a : Action) → RecordRanges sh (worker m.table (actor a)) → first_of (own_of sh m a) ≡ 0
    → goes_on (outcome sh m a).response ≡ in_progress (outcome sh m a).worker
unfolding enqueue_start dequeue_start
rule_goes sh m (Enqueue i x) r e = refl
rule_goes sh m (Dequeue i) r e = refl
rule_goes sh m (Step i) r e =
    change_goes sh m.store (step_is sh m.store (worker m.table i) (step_passed sh m.store (worker m.table i) e).0 r.stage)

pub narrow_goes : (sh : Shape) (m : Memory) (a : Action) → narrow_refusal sh m a ≡ 0
    → goes_on (narrow_act sh m a).response ≡ in_progress (worker (narrow_act sh m a).memory.table (actor a))
unfolding narrow_act
narrow_goes sh m a e =
    let A = narrow_accepted sh m a e in
    let back = get_or-set_same m.table (actor a) (outcome sh m a).worker blank (omega (arith, A.exists, A.lent.table)) in
    rw (e, back) (rule_goes sh m a A.own (narrow_passes sh m a e))
