-- What stands at a position of a turn file, in the order of docs/RULES.md.
-- Assumes nothing.
use Rattle.std.specs.Prelude.{List, cond, ℕ, ◌+◌, eqb, leb, ltb, length, Option, Some, None, Result, Ok, Err}
use Rattle.arrival.specs.declared.Action.TheVariants.{Enqueue, Dequeue, Step}
use Rattle.turn_file.specs.declared.Record.{Record}
use Rattle.turn_file.specs.declared.Record.TheVariants.{Open, Act}
use Rattle.turn_file.specs.declared.Unreadable.{Unreadable}
use Rattle.turn_file.specs.declared.Unreadable.TheVariants.{UnknownMark, CutRecord}
use Rattle.turn_file.specs.Fields.{byte_at, two_at, shape_at, arrival_at}
use Rattle.turn_file.specs.Records.{OP, PU, TA, size_of}

-- A record and the position after it; none, at the end; or why none can be read.
abbrev pub Reading : Type 0
Reading = Result (Option (Record × ℕ)) Unreadable

-- The number that it is refused by.
abbrev pub number_of : Unreadable → ℕ
number_of UnknownMark = 7
number_of CutRecord = 8

-- The record of a known mark, of which every byte is there.
unfoldable pub fields_at : List ℕ → ℕ → ℕ → Record
fields_at s at mark =
    cond (eqb mark OP) (Open (shape_at s at))
    (cond (eqb mark PU) (Act (Enqueue (byte_at s (at + 2)) (arrival_at s at)))
    (cond (eqb mark TA) (Act (Dequeue (byte_at s (at + 2))))
    (Act (Step (byte_at s (at + 2))))))

-- The answer for a record and the position after it.
abbrev pub whole : Record → ℕ → Reading
whole r next = Ok (Some (r, next))

-- Behind the mark: 7 for an unknown one, 8 for too few field bytes.
unfoldable pub marked_at : List ℕ → ℕ → ℕ → Reading
marked_at s at mark =
    cond (eqb (size_of mark) 0) (Err UnknownMark)
    (cond (ltb (length s) (at + size_of mark)) (Err CutRecord)
    (whole (fields_at s at mark) (at + size_of mark)))

-- No byte left: the end. One byte left over: 8.
unfoldable pub record_at : List ℕ → ℕ → Reading
record_at s at =
    cond (leb (length s) at) (Ok None)
    (cond (leb (length s) (at + 1)) (Err CutRecord)
    (marked_at s at (two_at s at)))
