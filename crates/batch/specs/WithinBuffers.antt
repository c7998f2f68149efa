-- A batch stays within its bytes and its buffer. Assumes nothing.
use Rattle.std.specs.Prelude.{◌≡◌, List, length}
use Prim.Native.Nat.{ℕ, ◌≤◌}
use Rattle.batch.specs.Batch.{Progress}

pub record Within (bytes : List ℕ) (size : ℕ) (p : Progress) : Type 0 where
  pub at : p.at ≤ length bytes
  pub to : p.to ≤ length p.lines
  pub lines : length p.lines ≡ size
