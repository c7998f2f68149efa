-- How many of the lent records count. Assumes nothing.
use Rattle.std.specs.Prelude.{cond, ℕ, ltb}

-- of n: no shape has more than 64 workers
abbrev pub counted_of : ℕ → ℕ
counted_of n = cond (ltb n 64) n 64
