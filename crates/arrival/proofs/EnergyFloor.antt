-- The energy of an arrival at a distance is the whole part of a quotient.
--     within, past, some     a quotient times its divisor; a square is not 0
--     energy_floor           it, times distance², is within 2^24, and one more is not
-- Assumes nothing.
use Rattle.std.specs.Prelude.{ℕ, ◌+◌, ◌*◌, ◌/◌, ◌<◌, ◌≤◌}
use Rattle.std.proofs.Common.{mul-le-mul, div-mul-le_self, arith, ne_eqb}
use Rattle.std.proofs.Math.Nat.{lt-div-mul-add}
use Rattle.arrival.specs.Energy.{energy_of}

within : (n s b : ℕ) → n ≤ b → n / s * s ≤ b
within n s b h = omega (arith, div-mul-le_self n s)

past : (n s b : ℕ) → 0 < s → b ≤ n → b < (1 + n / s) * s
past n s b some h = omega (arith, lt-div-mul-add {a = n} {b = s} some)

module _ (d : ℕ) (h : 1 ≤ d) where
  pub some : 0 < d * d
  some = omega (arith, mul-le-mul h h)

  pub energy_floor : (energy_of d * (d * d) ≤ 16777216) × (16777216 < (1 + energy_of d) * (d * d))
  unfolding energy_of
  energy_floor = rw (ne_eqb d 0 (omega arith)) (within _ _ _ (omega arith), past _ _ _ some (omega arith))
