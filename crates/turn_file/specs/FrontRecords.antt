-- At the front of a list: bytes with a known mark are those of the record read, and a record's bytes are read as that record.
--
--     Bytes                                   each element is a byte
--     mark_of                                  the mark and the size of an encoded record
-- Assumes nothing.
use Rattle.std.specs.Prelude.{List, ℕ, ◌<◌}
use Rattle.arrival.specs.declared.Action.TheVariants.{Enqueue, Dequeue, Step}
use Rattle.turn_file.specs.Fields.{byte_at}
use Rattle.turn_file.specs.declared.Record.{Record}
use Rattle.turn_file.specs.declared.Record.TheVariants.{Open, Act}
use Rattle.turn_file.specs.Records.{OP, PU, TA, TU}

-- Each element is a byte.
abbrev pub Bytes : List ℕ → Type 0
Bytes s = (k : ℕ) → byte_at s k < 256

-- The other way: the mark, the size and the fields of an encoded record.
abbrev pub mark_of : Record → ℕ
mark_of (Open shape) = OP
mark_of (Act (Enqueue worker arrival)) = PU
mark_of (Act (Dequeue worker)) = TA
mark_of (Act (Step worker)) = TU
