use Rattle.std.proofs.Common.{arith}
use Rattle.arrival.specs.declared.Response.TheVariants.{Refused}
use Rattle.turn_file.specs.Lines.{line_of}
use Rattle.turn_file.proofs.LineLaws.{line_most}
use Rattle.turn_file.proofs.write_refusal.Goals as goal

pub returns : goal.returns
unfolding line_of
returns c = (c.number_line.ensures.0, c.number_line.ensures.1, line_most (Refused c.args.number) (omega arith))
