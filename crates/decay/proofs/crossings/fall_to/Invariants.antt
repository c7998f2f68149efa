-- `decay::crossings::fall_to` goes on slot by slot, with what is left. Assumes nothing.
use Rattle.decay.specs.CrossingSearch.{Before}
use Rattle.decay.proofs.crossings.fall_to.Given as goal

abbrev pub invariant-loop-slot : goal.invariant-loop-slot
invariant-loop-slot l = Before l.row (record { slot = l.slot; rest = l.rest }) l.limit
