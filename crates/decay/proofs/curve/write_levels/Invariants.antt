-- `decay::curve::write_levels` goes from the last slot to the first. Assumes nothing.
use Rattle.decay.specs.Curves.{Along}
use Rattle.decay.proofs.curve.write_levels.Given as goal

abbrev pub invariant-loop-k : goal.invariant-loop-k
invariant-loop-k l = Along l.row l.fn.levels l.sum l.k l.scaled l.flat l.levels
