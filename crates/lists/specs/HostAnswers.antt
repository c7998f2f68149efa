-- After an opening every answer that a host gets has its values in their ranges, whole calls, narrow ones and runs alike: a taken arrival's time has 32
-- bits, and its energy is at most 2^24.
--     always_values
-- Assumes nothing.
use Rattle.std.specs.Prelude.{◌≡◌, List}
use Rattle.arrival.specs.declared.Shape.{Shape}
use Rattle.arrival.specs.declared.Request.{Request}
use Rattle.arrival.specs.declared.Response.TheVariants.{Opened}
use Rattle.calendar.specs.rules.Operations.{Memory, open_pool}
use Rattle.calendar.specs.rules.HostHistory.{host_answers}
use Rattle.calendar.specs.facts.AnswerRanges.{AllInRange}
use Rattle.calendar.proofs.facts.AnswerRanges.{host_values}
use Rattle.lists.specs.NodeReuse.{always_in_range}

pub always_values : (sh : Shape) (m : Memory) → (open_pool sh m).response ≡ Opened → (qs : List Request)
    → AllInRange (host_answers sh (open_pool sh m).memory qs)
always_values sh m e qs = host_values sh (open_pool sh m).memory qs (always_in_range sh m e)
