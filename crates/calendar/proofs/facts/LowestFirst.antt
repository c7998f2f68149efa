-- Of the refusals that apply the lowest is answered: the numbers of each list rise. Assumes nothing.
use Rattle.std.specs.Prelude.{refl, List, ℕ}
use Rattle.arrival.specs.declared.Shape.{Shape}
use Rattle.arrival.specs.declared.Arrival.{Arrival}
use Rattle.arrival.specs.declared.Worker.{Worker}
use Rattle.arrival.specs.declared.Action.{Action}
use Rattle.arrival.specs.declared.Action.TheVariants.{Enqueue, Dequeue, Step}
use Rattle.calendar.specs.rules.Refusals.{open_tests, enqueue_tests, dequeue_tests, step_tests, open_refusal, enqueue_refusal, dequeue_refusal}
use Rattle.calendar.specs.rules.Refusals.{step_refusal}
use Rattle.calendar.specs.rules.Operations.{Memory}
use Rattle.calendar.specs.rules.NarrowCalls.{narrow_tests, narrow_refusal}
use Rattle.laws.specs.FirstOf.{Lowest, lowest_of}

pub open_lowest : (sh : Shape) (s : List ℕ) (t : List Worker) → Lowest (open_refusal sh s t) (open_tests sh s t)
unfolding open_refusal
open_lowest sh s t = lowest_of (open_tests sh s t) refl

pub enqueue_lowest : (sh : Shape) (s : List ℕ) (t : List Worker) (i : ℕ) (a : Arrival) → Lowest (enqueue_refusal sh s t i a) (enqueue_tests sh s t i a)
unfolding enqueue_refusal
enqueue_lowest sh s t i a = lowest_of (enqueue_tests sh s t i a) refl

pub dequeue_lowest : (sh : Shape) (s : List ℕ) (t : List Worker) (i : ℕ) → Lowest (dequeue_refusal sh s t i) (dequeue_tests sh s t i)
unfolding dequeue_refusal
dequeue_lowest sh s t i = lowest_of (dequeue_tests sh s t i) refl

pub step_lowest : (sh : Shape) (s : List ℕ) (t : List Worker) (i : ℕ) → Lowest (step_refusal sh s t i) (step_tests sh s t i)
unfolding step_refusal
step_lowest sh s t i = lowest_of (step_tests sh s t i) refl

pub narrow_lowest : (sh : Shape) (m : Memory) (a : Action) → Lowest (narrow_refusal sh m a) (narrow_tests sh m a)
unfolding narrow_refusal
narrow_lowest sh m (Enqueue i x) = lowest_of (narrow_tests sh m (Enqueue i x)) refl
narrow_lowest sh m (Dequeue i) = lowest_of (narrow_tests sh m (Dequeue i)) refl
narrow_lowest sh m (Step i) = lowest_of (narrow_tests sh m (Step i)) refl
