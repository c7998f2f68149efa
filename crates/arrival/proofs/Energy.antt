-- The energy of an arrival at a distance in metres.
--     energy_at_0      at distance 0 it is 0
--     energy_only      elsewhere no other number is as energy_floor says
--     energy_most      it is at most 2^24
-- Assumes nothing.
use Rattle.std.specs.Prelude.{◌≡◌, refl, ℕ, ◌+◌, ◌*◌, ◌<◌, ◌≤◌}
use Rattle.std.proofs.Common.{mul-le-mul_left, lt_of_mul-lt-mul_right, arith}
use Rattle.laws.specs.Tests.{by_size}
use Rattle.arrival.specs.Energy.{energy_of}
use Rattle.arrival.proofs.EnergyFloor.{some, energy_floor}

pub energy_at_0 : energy_of 0 ≡ 0
unfolding energy_of
energy_at_0 = refl

by_hand :
    (energy_of 1 ≡ 16777216)
    × (energy_of 2 ≡ 4194304)
    × (energy_of 3 ≡ 1864135)
    × (energy_of 5 ≡ 671088)
    × (energy_of 1024 ≡ 16)
    × (energy_of 1025 ≡ 15)
    × (energy_of 4096 ≡ 1)
    × (energy_of 4097 ≡ 0)
unfolding energy_of
by_hand = (refl, refl, refl, refl, refl, refl, refl, refl)

module _ (d : ℕ) (h : 1 ≤ d) where
  pub energy_only : (e : ℕ) → e * (d * d) ≤ 16777216 → 16777216 < (1 + e) * (d * d) → e ≡ energy_of d
  energy_only e low high =
      let up : e < 1 + energy_of d = lt_of_mul-lt-mul_right (d * d) (omega (arith, low, (energy_floor d h).1)) in
      let down : energy_of d < 1 + e = lt_of_mul-lt-mul_right (d * d) (omega (arith, high, (energy_floor d h).0)) in
      omega arith

pub energy_most : (d : ℕ) → energy_of d ≤ 16777216
energy_most d =
    by_size d 1
    (λ z. let e : d ≡ 0 = omega arith in rw (e, energy_at_0) (omega arith))
    (λ h. omega (arith, (energy_floor d h).0, mul-le-mul_left (energy_of d) (some d h)))
