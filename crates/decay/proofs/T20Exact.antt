-- T20 is a difference, and no more is taken off than there is.
--     t20_exact     so it is the difference exactly
-- Assumes nothing.
use Rattle.std.specs.Prelude.{◌≡◌, List, ℕ, ◌+◌, ◌*◌}
use Rattle.std.proofs.Common.{arith}
use Rattle.decay.specs.Decay.{first, square_fallen, t20}
use Rattle.decay.proofs.CrossingLaws.{t20_rises}

pub t20_exact : (row : List ℕ) → 3 * first row (square_fallen 100000 row) ≡ t20 row + 3 * first row (square_fallen 10 row)
unfolding t20
t20_exact row = omega (arith, t20_rises row)
