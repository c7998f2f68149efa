-- An action's refusal in two parts, for all actions at once: the memory's tests, and behind them its own.
--     refusal_first, tests_rise     the first of all of them is its refusal; their numbers rise
--     act_accepted, act_passes      an action that is not refused may count on memory and worker; none of its own applies
--     refused_first                 what refuses an opening refuses every action
--     refusal_alike                 two memories with the same tests refuse alike
-- Assumes nothing.
use Rattle.std.specs.Prelude.{◌≡◌, refl, List, ◌++◌, Bool, true, ◌≢◌, ℕ, length, drop}
use Rattle.std.proofs.Common.{sym, ap, ◌∙◌}
use Rattle.arrival.specs.declared.Shape.{Shape}
use Rattle.arrival.specs.declared.Worker.{Worker}
use Rattle.arrival.specs.declared.Action.{Action}
use Rattle.arrival.specs.declared.Action.TheVariants.{Enqueue, Dequeue, Step}
use Rattle.calendar.specs.rules.Refusals.{open_tests, memory_of}
use Rattle.calendar.specs.rules.Refusals.{open_refusal, enqueue_refusal, dequeue_refusal, step_refusal}
use Rattle.calendar.specs.rules.Operations.{Memory, actor, refusal}
use Rattle.laws.specs.FirstOf.{first_of, rises, first_parts, first_behind, first_front}
use Rattle.calendar.specs.facts.Accepted.{Usable}
use Rattle.calendar.proofs.facts.Accepted.{memory_accepted}
use Rattle.calendar.specs.facts.RefusalParts.{own_of, tests_of}

pub refusal_first : (sh : Shape) (m : Memory) (a : Action) → refusal sh m a ≡ first_of (tests_of sh m a)
unfolding enqueue_refusal dequeue_refusal step_refusal
refusal_first sh m (Enqueue i x) = refl
refusal_first sh m (Dequeue i) = refl
refusal_first sh m (Step i) = refl

pub tests_rise : (sh : Shape) (m : Memory) (a : Action) → rises 0 (tests_of sh m a) ≡ true
tests_rise sh m (Enqueue i x) = refl
tests_rise sh m (Dequeue i) = refl
tests_rise sh m (Step i) = refl

pub act_accepted : (sh : Shape) (m : Memory) (a : Action) → refusal sh m a ≡ 0 → Usable sh m.store m.table (actor a)
act_accepted sh m a e =
    memory_accepted sh m.store m.table (actor a)
    (first_parts (memory_of sh m.store m.table (actor a)) (own_of sh m a) refl (sym (refusal_first sh m a) ∙ e)).0

pub act_passes : (sh : Shape) (m : Memory) (a : Action) → refusal sh m a ≡ 0 → first_of (own_of sh m a) ≡ 0
act_passes sh m a e = (first_parts (memory_of sh m.store m.table (actor a)) (own_of sh m a) refl (sym (refusal_first sh m a) ∙ e)).1

pub refused_first : (sh : Shape) (s : List ℕ) (t : List Worker) → open_refusal sh s t ≢ 0 → (a : Action)
    → refusal sh (record { store = s; table = t }) a ≡ open_refusal sh s t
unfolding open_refusal
refused_first sh s t n a =
    let tests = tests_of sh (record { store = s; table = t }) a in
    refusal_first sh (record { store = s; table = t }) a ∙ first_front (open_tests sh s t) (drop (length (open_tests sh s t)) tests) n

-- the own ones need to be the same only where the memory's let the action pass
pub refusal_alike : (sh : Shape) (m m' : Memory) (a : Action)
    → memory_of sh m.store m.table (actor a) ≡ memory_of sh m'.store m'.table (actor a)
    → (Usable sh m'.store m'.table (actor a) → own_of sh m a ≡ own_of sh m' a)
    → refusal sh m a ≡ refusal sh m' a
refusal_alike sh m m' a same own =
    refusal_first sh m a
    ∙ ap (λ (xs : List (ℕ × Bool)). first_of (xs ++ own_of sh m a)) same
    ∙ first_behind (memory_of sh m'.store m'.table (actor a)) (own_of sh m a) (own_of sh m' a)
    (λ e. ap first_of (own (memory_accepted sh m'.store m'.table (actor a) e)))
    ∙ sym (refusal_first sh m' a)
