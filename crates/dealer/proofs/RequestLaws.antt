-- What a request of the host's leaves, on any memory.
--     request_same_size, request_others     lengths stay; so do the records of other workers
--     start_refused                         a start of a worker that has a call in progress is refused
--     busy_kept                             a worker's call stays in progress, where the request is no turn of that worker
--     stays_requested                       a memory that stays in range whatever is done stays so
-- Assumes nothing.
use Rattle.std.specs.Prelude.{◌≡◌, refl, true, not, ◌≢◌, ℕ}
use Rattle.std.proofs.Common.{sym, ap, subst, ne_eqb}
use Rattle.std.proofs.Math.Decide.{ℕ_discrete}
use Rattle.std.proofs.lemmas.Bool.{eqb-false, not-true}
use Rattle.arrival.specs.declared.Shape.{Shape}
use Rattle.arrival.specs.declared.Action.{Action}
use Rattle.arrival.specs.declared.Action.TheVariants.{Enqueue, Dequeue, Step}
use Rattle.arrival.specs.declared.Request.{Request}
use Rattle.arrival.specs.declared.Request.TheVariants.{Whole, Narrow}
use Rattle.laws.specs.FirstOf.{first_of}
use Rattle.calendar.specs.rules.Ranges.{worker}
use Rattle.calendar.specs.rules.Reclaim.{in_progress}
use Rattle.calendar.specs.rules.Operations.{Memory, Result, actor, refusal, act}
use Rattle.calendar.specs.rules.HostHistory.{requested, made_by, action_of}
use Rattle.calendar.proofs.facts.Accepted.{enqueue_passed, dequeue_passed}
use Rattle.calendar.specs.facts.RefusalParts.{own_of}
use Rattle.calendar.proofs.facts.RefusalParts.{act_passes}
use Rattle.calendar.specs.facts.Untouched.{SameSize}
use Rattle.calendar.proofs.facts.Untouched.{act_same_size, others_untouched}
use Rattle.calendar.proofs.facts.NarrowAccepted.{narrow_passes}
use Rattle.calendar.proofs.facts.NarrowTurns.{narrow_call_same_size, narrow_call_others_untouched, narrow_call_refused}
use Rattle.calendar.specs.facts.HostRun.{StaysInRange}
use Rattle.calendar.proofs.facts.HostRun.{stays_after, replied}
use Rattle.dealer.specs.DealtHistory.{is_turn_of}

pub request_same_size : (sh : Shape) (m : Memory) (q : Request) → SameSize m (requested sh m q).memory
request_same_size sh m (Whole a) = act_same_size sh m a
request_same_size sh m (Narrow a n) = narrow_call_same_size sh m a n

pub request_others : (sh : Shape) (m : Memory) (q : Request) (j : ℕ) → j ≢ actor (action_of q)
    → worker (requested sh m q).memory.table j ≡ worker m.table j
request_others sh m (Whole a) j other = others_untouched sh m a j other
request_others sh m (Narrow a n) j other = narrow_call_others_untouched sh m a n j other

-- ── a call in progress ──
-- an action of that worker that its own tests let pass is a turn
passes_turn : (sh : Shape) (m : Memory) (a : Action) → not (is_turn_of (actor a) a) ≡ true → in_progress (worker m.table (actor a)) ≡ true
    → first_of (own_of sh m a) ≢ 0
passes_turn sh m (Enqueue i x) start busy e =
    eqb-false (worker m.table i).stage 0 (not-true _ busy) (enqueue_passed sh m.store m.table i x e).idle
passes_turn sh m (Dequeue i) start busy e =
    eqb-false (worker m.table i).stage 0 (not-true _ busy) (dequeue_passed sh m.store (worker m.table i) e).0
passes_turn sh m (Step i) start busy e = eqb-false i i (not-true _ start) refl

-- a refused action leaves the memory
act_refused : (sh : Shape) (m : Memory) (a : Action) → refusal sh m a ≢ 0 → (act sh m a).memory ≡ m
unfolding act
act_refused sh m a h = rw (ne_eqb (refusal sh m a) 0 h)

pub start_refused : (sh : Shape) (m : Memory) (q : Request) → not (is_turn_of (actor (action_of q)) (action_of q)) ≡ true
    → in_progress (worker m.table (actor (action_of q))) ≡ true → (requested sh m q).memory ≡ m
start_refused sh m (Whole a) start busy = act_refused sh m a (λ e. passes_turn sh m a start busy (act_passes sh m a e))
start_refused sh m (Narrow a n) start busy =
    ap (λ (r : Result). r.memory) (narrow_call_refused sh m a n (λ e. passes_turn sh m a start busy (narrow_passes sh m a e)))

pub busy_kept : (sh : Shape) (m : Memory) (q : Request) (i : ℕ) → not (is_turn_of i (action_of q)) ≡ true → in_progress (worker m.table i) ≡ true
    → in_progress (worker (requested sh m q).memory.table i) ≡ true
busy_kept sh m q i start busy = go (ℕ_discrete i (actor (action_of q)))
  where
    go : Dec (i ≡ actor (action_of q)) → in_progress (worker (requested sh m q).memory.table i) ≡ true
    go (no other) = rw (request_others sh m q i other) busy
    go (yes own) =
        rw (start_refused sh m q (subst (λ j. not (is_turn_of j (action_of q)) ≡ true) own start)
        (subst (λ j. in_progress (worker m.table j) ≡ true) own busy)) busy

-- ── in range ──
pub stays_requested : (sh : Shape) (m : Memory) (q : Request) → StaysInRange sh m → StaysInRange sh (requested sh m q).memory
stays_requested sh m q S = subst (λ n. StaysInRange sh n) (sym (replied sh m q S).memory) (stays_after sh m (made_by sh m q) S)
