-- One reading: the bytes of a record and the record determine each other.
-- Assumes nothing.
use Rattle.std.specs.Prelude.{◌≡◌, List, ℕ, ◌+◌, ◌≤◌, length}
use Rattle.std.proofs.Math.Seq.{slice}
use Rattle.turn_file.specs.declared.Record.{Record}
use Rattle.turn_file.specs.Encoding.{encode, Fits}

-- The record stands in `s` from `at` up to `next`, byte for byte.
pub record Stands (s : List ℕ) (at : ℕ) (r : Record) (next : ℕ) : Type 0 where
  pub bytes : slice at next s ≡ encode r
  pub size : next ≡ at + length (encode r)
  pub within : next ≤ length s
  pub fits : Fits r
