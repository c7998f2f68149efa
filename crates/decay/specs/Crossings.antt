-- The first slots at which so little is left: that there are such slots.
--     Crosses                                a test holds of a slot and of none before it; so of the first, if it holds where nothing is left
-- Assumes nothing.
use Rattle.std.specs.Prelude.{◌≡◌, Bool, true, false, ℕ, ◌<◌}

-- k is the first number with a test
abbrev pub Crosses : (ℕ → Bool) → ℕ → Type 0
Crosses test k = (test k ≡ true) × ((j : ℕ) → j < k → test j ≡ false)
