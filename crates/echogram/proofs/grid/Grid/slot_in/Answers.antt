-- `echogram::grid::Grid::slot_in` divides by a multiplication. Assumes nothing.
use Rattle.echogram.proofs.GridLaws.{product_fits, by_factor}
use Rattle.echogram.proofs.grid.Grid.slot_in.Goals as goal

pub overflow_mul-result : goal.overflow_mul-result
overflow_mul-result c = record { fits = product_fits c.args.self c.args.time c.requires.0 c.requires.1 }

pub returns : goal.returns
returns c = by_factor c.args.self c.args.time c.requires.0 c.requires.1
