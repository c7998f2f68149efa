-- `decay::logs::level_of` looks up the logarithms of a ratio. Assumes nothing.
use Rattle.std.proofs.Common.{◌∙◌, sym, ap}
use Rattle.decay.specs.Decay.{level_of}
use Rattle.decay.proofs.LogLaws.{level_none, level_by_table}
use Rattle.decay.proofs.logs.level_of.Goals as goal

pub returns-then-ratio-eq0 : goal.returns-then-ratio-eq0
returns-then-ratio-eq0 c = sym (ap level_of c.if-ratio-eq0.true ∙ level_none)

pub overflow_sub-result-2 : goal.overflow_sub-result-2
overflow_sub-result-2 c =
    (level_by_table c.log_table-logs.result.now c.args.ratio c.log_table-logs.ensures c.if-ratio-eq0.false c.requires).0

pub returns : goal.returns
returns c = (level_by_table c.log_table-logs.result.now c.args.ratio c.log_table-logs.ensures c.if-ratio-eq0.false c.requires).1
