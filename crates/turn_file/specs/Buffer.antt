-- A line in a lent buffer: where it fits it replaces as many bytes, else the buffer is as it was.
-- Assumes nothing.
use Rattle.std.specs.Prelude.{cond, List, ◌++◌, ℕ, ◌+◌, leb, take, drop}
use Rattle.std.proofs.Math.ListN.{length}

unfoldable pub written : List ℕ → ℕ → List ℕ → List ℕ
written s at line = cond (leb (at + length line) (length s)) (take at s ++ line ++ drop (at + length line) s) s

-- The position after the line; where it does not fit, the position before it.
unfoldable pub after : List ℕ → ℕ → List ℕ → ℕ
after s at line = cond (leb (at + length line) (length s)) (at + length line) at
