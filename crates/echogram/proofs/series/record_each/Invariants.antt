-- `echogram::series::record_each` does the recordings of a series one by one. Assumes nothing.
use Rattle.std.proofs.Common.{◌≡◌}
use Rattle.echogram.specs.Series.{in_series}
use Rattle.echogram.specs.SeriesLoop.{Along}
use Rattle.echogram.proofs.series.record_each.Given as goal

abbrev pub invariant-loop-i : goal.invariant-loop-i
invariant-loop-i l =
    (l.open.slots.ghost_name ≡ l.initial.open.slots.ghost_name)
    × Along l.fn.row l.fn.answers (in_series l.grid.samples l.times l.energies) l.i l.open.slots.now l.answers l.open.headroom
