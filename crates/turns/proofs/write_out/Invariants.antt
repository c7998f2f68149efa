-- `turns::write_out` writes on from the bytes that were taken. Assumes nothing.
use Rattle.std.proofs.Common.{length}
use Rattle.turns.proofs.write_out.Given as goal

abbrev pub decreases-loop-rest : goal.decreases-loop-rest
decreases-loop-rest g l = length l.rest
