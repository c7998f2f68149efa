-- The slots of a row in time, and a quotient by a multiplication: below the end of a row, time / slot length is the product of the time and a factor, over
-- 2^40.
--     drawn                      a grid of some row within its limits; so is grid_of
--     past_end, before_end       a time from the end on is in no slot, one before it in one
--     product_fits               the product has 64 bits
--     by_factor                  it gives the quotient
-- Assumes nothing.
use Rattle.std.specs.Prelude.{◌≡◌, refl, ℕ, ◌+◌, ◌*◌, ◌/◌, ◌≤◌, ◌<◌}
use Rattle.std.proofs.Common.{mul-le-mul, mul-le-mul_left, mul-le-mul_right, arith}
use Rattle.std.proofs.Math.Nat.{lt_of_mul-lt-mul_right, div-mul-le_self, le-div_iff_mul-le, div-lt_iff_lt-mul}
use Rattle.std.proofs.Math.Nat.{lt-div-mul-add, div-eq_of_lt-le}
use Rattle.echogram.specs.declared.grid.Grid.{Grid}
use Rattle.echogram.specs.Grid.{grid_of, Drawn}

pub drawn : (slot_length slots : ℕ) → 1 ≤ slot_length → slot_length ≤ 4800 → slots ≤ 16384 → Drawn (grid_of slot_length slots)
drawn slot_length slots some most few = record { some = some; most = most; end_most = mul-le-mul_right slot_length few; factor_is = refl }

-- a time from the end on is in no slot, one before it in one
pub past_end : (t d slots : ℕ) → 1 ≤ d → slots * d ≤ t → slots ≤ t / d
past_end t d slots some h = (le-div_iff_mul-le some).1 h

pub before_end : (t d slots : ℕ) → 1 ≤ d → t < slots * d → t / d < slots
before_end t d slots some h = (div-lt_iff_lt-mul some).1 h

module _ (t d : ℕ) (some : 1 ≤ d) (most : d ≤ 4800) (inside : t < 16384 * d) where
  -- the factor times d is 2^40 and something up to d
  up : 1099511627776 ≤ (1099511627776 / d + 1) * d
  up = omega (arith, lt-div-mul-add {a = 1099511627776} {b = d} some)

  down : (1099511627776 / d + 1) * d ≤ 1099511627776 + d
  down = omega (arith, div-mul-le_self 1099511627776 d)

  product_below : t * (1099511627776 / d + 1) < 18446744073709551616
  product_below =
      let h : t ≤ 16384 * d = omega arith in
      omega (arith, mul-le-mul_right (1099511627776 / d + 1) h, down)

  -- what is above 2^40 counts for less than 1 in all
  slack : t * d < 1099511627776
  slack = let h : t ≤ 78643200 = omega arith in omega (arith, mul-le-mul h most)

  factor_divides : t * (1099511627776 / d + 1) / 1099511627776 ≡ t / d
  factor_divides = div-eq_of_lt-le 1099511627776 low high
    where
      low : t / d * 1099511627776 ≤ t * (1099511627776 / d + 1)
      low = omega (arith, mul-le-mul_left (t / d) up, mul-le-mul_right (1099511627776 / d + 1) (div-mul-le_self t d))

      high : t * (1099511627776 / d + 1) < (t / d + 1) * 1099511627776
      high =
          let past : t + 1 ≤ t / d * d + d = omega (arith, lt-div-mul-add {a = t} {b = d} some) in
          lt_of_mul-lt-mul_right d (omega (arith, mul-le-mul_left t down, slack, past))

module _ (g : Grid) (t : ℕ) (is : Drawn g) (inside : t < g.end) where
  pub product_fits : t * g.factor < 18446744073709551616
  product_fits = rw is.factor_is (product_below t g.samples is.some is.most (omega (arith, is.end_most)))

  pub by_factor : t * g.factor / 1099511627776 ≡ t / g.samples
  by_factor = rw is.factor_is (factor_divides t g.samples is.some is.most (omega (arith, is.end_most)))
