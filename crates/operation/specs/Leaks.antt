-- The flag for refusal 3 past an action that the gate lets in: down just where a turn leaks.
--     action_leaks                    whether an action leaves the ranges; the flag past it
-- Assumes nothing.
use Rattle.std.specs.Prelude.{List, Bool, ℕ}
use Rattle.std.proofs.Math.Bool.{false}
use Rattle.arrival.specs.declared.Shape.{Shape}
use Rattle.arrival.specs.declared.Worker.{Worker}
use Rattle.arrival.specs.declared.Action.{Action}
use Rattle.arrival.specs.declared.Action.TheVariants.{Enqueue, Dequeue, Step}
use Rattle.calendar.specs.facts.RangesKept.{leaks}

-- an action leaves the ranges just by a turn's leak
abbrev pub action_leaks : Shape → List ℕ → Action → Worker → Bool
action_leaks sh s (Enqueue i x) w = false
action_leaks sh s (Dequeue i) w = false
action_leaks sh s (Step i) w = leaks sh s w
