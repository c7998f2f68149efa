use Rattle.std.proofs.Common.{arith}
use Rattle.turn_file.proofs.Decimal.{length_one, length_more, decimal_least, decimal_word}
use Rattle.turn_file.proofs.lines.digit_count.Goals as goal

pub overflow_add-count : goal.overflow_add-count
overflow_add-count c = omega (arith, decimal_least c.loop-rest.rest, decimal_word c.args.x (omega arith))

pub loop-rest-preserved : goal.loop-rest-preserved
loop-rest-preserved c = omega (arith, length_more c.loop-rest.rest c.loop-rest-test.true)

pub returns : goal.returns
returns c = omega (arith, length_one c.loop-rest.rest c.loop-rest-test.false, decimal_word c.args.x (omega arith))
