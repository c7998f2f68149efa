-- The slots of a row in time, and a quotient by a multiplication: below the end of a row, time / slot length is the product of the time and a factor, over
-- 2^40.
--     grid_of                     slot length, end and factor of a row
--     Drawn                      a grid of some row within its limits; so is grid_of
-- Assumes nothing.
use Rattle.std.specs.Prelude.{◌≡◌, ℕ, ◌+◌, ◌*◌, ◌/◌, ◌≤◌}
use Rattle.echogram.specs.declared.grid.Grid.{Grid}

abbrev pub grid_of : ℕ → ℕ → Grid
grid_of slot_length slots = record { samples = slot_length; end = slots * slot_length; factor = 1099511627776 / slot_length + 1 }

pub record Drawn (g : Grid) : Type 0 where
  pub some : 1 ≤ g.samples
  pub most : g.samples ≤ 4800
  pub end_most : g.end ≤ 16384 * g.samples
  pub factor_is : g.factor ≡ 1099511627776 / g.samples + 1
