-- What an action and a request are of, and what a request asks of the look at the lent memory. Assumes nothing.
--     actor                       the worker of an action
--     action_of, turns_of         a request's start or turn, and how many turns may follow it
--     is_whole, looks_at_all      whether it looks at all lent memory; at every worker's record
use Rattle.std.specs.Prelude.{Bool, true, false, ℕ}
use Rattle.arrival.specs.declared.Action.{Action}
use Rattle.arrival.specs.declared.Action.TheVariants.{Enqueue, Dequeue, Step}
use Rattle.arrival.specs.declared.Request.{Request}
use Rattle.arrival.specs.declared.Request.TheVariants.{Whole, Narrow}

abbrev pub actor : Action → ℕ
actor (Enqueue i a) = i
actor (Dequeue i) = i
actor (Step i) = i

abbrev pub action_of : Request → Action
action_of (Whole a) = a
action_of (Narrow a n) = a

-- none where all lent memory is looked at
abbrev pub turns_of : Request → ℕ
turns_of (Whole a) = 0
turns_of (Narrow a n) = n

abbrev pub is_whole : Request → Bool
is_whole (Whole a) = true
is_whole (Narrow a n) = false

-- of a put, as its test of free nodes needs them
abbrev pub looks_at_all : Request → Bool
looks_at_all (Whole a) = true
looks_at_all (Narrow (Enqueue i x) n) = true
looks_at_all (Narrow (Dequeue i) n) = false
looks_at_all (Narrow (Step i) n) = false
