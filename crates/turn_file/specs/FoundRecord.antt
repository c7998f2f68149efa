-- What an answer with a record says of the bytes.
-- Assumes nothing.
use Rattle.std.specs.Prelude.{◌≡◌, List, ℕ, ◌+◌, ◌<◌, ◌≤◌, length}
use Rattle.turn_file.specs.Fields.{two_at}
use Rattle.turn_file.specs.declared.Record.{Record}
use Rattle.turn_file.specs.Records.{size_of}
use Rattle.turn_file.specs.Reading.{fields_at}

pub record Found (s : List ℕ) (at : ℕ) (r : Record) (next : ℕ) : Type 0 where
  pub known : 0 < size_of (two_at s at)
  pub fields : r ≡ fields_at s at (two_at s at)
  pub place : next ≡ at + size_of (two_at s at)
  pub within : next ≤ length s
