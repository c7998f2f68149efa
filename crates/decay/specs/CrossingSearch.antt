-- How the crossings are found: by squares that 64 bits hold, slot by slot, with what is left.
--     square_at_most                           R(k)² is at most a limit: the test as it is computed
--     point_at                                a slot and what is left there; the slot of such a point
--     Before                                 no slot before a point passes such a test
-- Assumes nothing.
use Rattle.std.specs.Prelude.{◌≡◌, List, Bool, false, ℕ, ◌*◌, ◌≤◌, ◌<◌, leb, length}
use Rattle.echogram.specs.Row.{sum_of, most}
use Rattle.decay.specs.Decay.{rest}
use Rattle.decay.specs.declared.crossings.Point.{Point}

-- R(k)² ≤ a limit
abbrev pub square_at_most : List ℕ → ℕ → ℕ → Bool
square_at_most row limit k = leb (rest row k * rest row k) limit

-- ── the search ──
abbrev pub point_at : List ℕ → ℕ → Point
point_at row k = record { slot = k; rest = rest row k }

-- a point of the row, and that no slot before it passes
pub record Before (row : List ℕ) (from : Point) (limit : ℕ) : Type 0 where
  pub in_row : from.slot ≤ length row
  pub left : from.rest ≡ rest row from.slot
  pub small : sum_of row ≤ most
  pub none : (j : ℕ) → j < from.slot → square_at_most row limit j ≡ false
