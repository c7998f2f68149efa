-- The digits counted and those of the rest are one more than those of the number.
use Rattle.std.proofs.Common.{◌≡◌, ◌+◌, length}
use Rattle.turn_file.specs.Decimal.{decimal}
use Rattle.turn_file.proofs.lines.digit_count.Given as goal

abbrev pub invariant-loop-rest : goal.invariant-loop-rest
invariant-loop-rest l = l.count + length (decimal l.rest) ≡ 1 + length (decimal l.fn.x)

abbrev pub decreases-loop-rest : goal.decreases-loop-rest
decreases-loop-rest l = l.rest
