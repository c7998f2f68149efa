-- `wubraken::table::survey_table` has looked at the first records, none out of range. Assumes nothing.
use Rattle.std.specs.Prelude.{◌≡◌, Ok}
use Rattle.wubraken.specs.Survey.{survey_of}
use Rattle.wubraken.proofs.table.survey_table.Given as goal

abbrev pub invariant-loop-w : goal.invariant-loop-w
invariant-loop-w l = survey_of l.shape l.table l.w-index ≡ Ok l.low
