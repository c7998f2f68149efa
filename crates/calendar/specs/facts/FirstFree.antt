-- The first free node is a node, free, and the first; where there is none no node is free.
--     Before                               on the way round
-- Assumes nothing.
use Rattle.std.specs.Prelude.{◌⊎◌}
use Prim.Native.Nat.{ℕ, ◌<◌, ◌≤◌}

-- x comes before y on the way round from the node after n
abbrev pub Before : ℕ → ℕ → ℕ → Type 0
Before n x y = ((n < x) × (x < y)) ⊎ ((y ≤ n) × ((n < x) ⊎ (x < y)))
