-- The energy of an arrival at a distance in metres.
--     energy_of         the energy
-- Assumes nothing.
use Rattle.std.specs.Prelude.{cond, ℕ, ◌*◌, ◌/◌, eqb}

-- floor(2^24 / distance²), and 0 at distance 0
unfoldable pub energy_of : ℕ → ℕ
energy_of d = cond (eqb d 0) 0 (16777216 / (d * d))
