-- The four operations on lent memory: what is refused leaves it as it was, the rest does its rule. A history runs starts and
-- turns one after the other. Assumes nothing.
use Rattle.std.specs.Prelude.{List, [], ◌∷◌, cond, ℕ, eqb, set}
use Rattle.arrival.specs.declared.Shape.{Shape}
use Rattle.arrival.specs.declared.Worker.{Worker}
use Rattle.arrival.specs.declared.Action.{Action}
use Rattle.arrival.specs.declared.Action.TheVariants.{Enqueue, Dequeue, Step}
pub use Rattle.arrival.specs.Requests.{actor}
use Rattle.arrival.specs.declared.Response.{Response}
use Rattle.arrival.specs.declared.Response.TheVariants.{Opened, Refused}
use Rattle.calendar.specs.rules.Layout.{write_all}
use Rattle.calendar.specs.rules.Ranges.{worker}
use Rattle.calendar.specs.rules.Reclaim.{first_free}
use Rattle.calendar.specs.rules.Opening.{open_store, open_table}
use Rattle.calendar.specs.rules.Outcome.{Outcome}
use Rattle.calendar.specs.rules.Starts.{enqueue_start, dequeue_start}
use Rattle.calendar.specs.rules.Steps.{step}
use Rattle.calendar.specs.rules.Refusals.{open_refusal, enqueue_refusal, dequeue_refusal, step_refusal}

-- the lent memory
pub record Memory : Type 0 where
  pub store : List ℕ
  pub table : List Worker

pub record Result : Type 0 where
  pub memory : Memory
  pub response : Response

-- An operation is refused by number k and leaves the memory unchanged, or k is 0 and it has its result.
abbrev pub unless : ℕ → Memory → Result → Result
unless k m r = cond (eqb k 0) r (record { memory = m; response = Refused k })

-- worker i's outcome: its writes, its record back in the table, its response
abbrev pub perform : Shape → Memory → ℕ → Outcome → Result
perform sh m i o = record { memory = record { store = write_all sh m.store o.writes; table = set m.table i o.worker }; response = o.response }

unfoldable pub open_pool : Shape → Memory → Result
open_pool sh m =
    unless (open_refusal sh m.store m.table) m
    (record { memory = record { store = open_store sh m.store; table = open_table sh m.table }; response = Opened })

-- A start or turn: its worker, the refusal it gets, and what it does otherwise.
abbrev pub refusal : Shape → Memory → Action → ℕ
refusal sh m (Enqueue i a) = enqueue_refusal sh m.store m.table i a
refusal sh m (Dequeue i) = dequeue_refusal sh m.store m.table i
refusal sh m (Step i) = step_refusal sh m.store m.table i

-- what it does to its worker's record w; n is the node that a put gets
abbrev pub outcome_of : Shape → List ℕ → ℕ → Action → Worker → Outcome
outcome_of sh s n (Enqueue i a) w = enqueue_start sh s n a w
outcome_of sh s n (Dequeue i) w = dequeue_start sh s w
outcome_of sh s n (Step i) w = step sh s w

abbrev pub outcome : Shape → Memory → Action → Outcome
outcome sh m a = outcome_of sh m.store (first_free sh m.store m.table) a (worker m.table (actor a))

unfoldable pub act : Shape → Memory → Action → Result
act sh m a = unless (refusal sh m a) m (perform sh m (actor a) (outcome sh m a))

-- the memory after a history, and the responses on the way
unfoldable pub run : Shape → Memory → List Action → Memory
run sh m [] = m
run sh m (a ∷ h) = run sh (act sh m a).memory h

unfoldable pub responses : Shape → Memory → List Action → List Response
responses sh m [] = []
responses sh m (a ∷ h) = (act sh m a).response ∷ responses sh (act sh m a).memory h
