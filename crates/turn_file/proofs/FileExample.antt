-- The worked example of a turn file, its records and its lines; the refusals of the reader.
-- Assumes nothing.
use Rattle.std.specs.Prelude.{◌≡◌, refl, List, [], ◌∷◌, ◌++◌, ℕ, None, Ok, Err}
use Rattle.arrival.specs.declared.Shape.{Shape}
use Rattle.arrival.specs.declared.Arrival.{Arrival}
use Rattle.arrival.specs.declared.Action.TheVariants.{Enqueue, Step}
use Rattle.arrival.specs.declared.Response.TheVariants.{Begun, Took}
use Rattle.turn_file.specs.declared.Unreadable.TheVariants.{UnknownMark, CutRecord}
use Rattle.turn_file.specs.Fields.{shape_at, arrival_at}
use Rattle.turn_file.specs.declared.Record.TheVariants.{Open, Act}
use Rattle.turn_file.specs.Records.{size_of}
use Rattle.turn_file.specs.Reading.{fields_at, whole, marked_at, record_at}
use Rattle.turn_file.specs.Encoding.{encode}
use Rattle.turn_file.specs.Decimal.{decimal, digits}
use Rattle.turn_file.specs.Lines.{line_of}

abbrev shape : Shape
shape = record { workers = 1; nodes = 4; buckets = 2; width = 10 }

abbrev arrival : Arrival
arrival = record { time = 5; path = 7; order = 1; distance = 3 }

-- OP(1, 4, 2, 10), PU(0, 5, 7, 1, 3), TU(0), and a mark that is cut.
abbrev file : List ℕ
file =
    79 ∷ 80 ∷ 1 ∷ 4 ∷ 0 ∷ 2 ∷ 0 ∷ 10 ∷ 0
    ∷ 80 ∷ 85 ∷ 0 ∷ 5 ∷ 0 ∷ 0 ∷ 0 ∷ 7 ∷ 0 ∷ 1 ∷ 3 ∷ 0
    ∷ 84 ∷ 85 ∷ 0
    ∷ 84 ∷ []

encoded : encode (Open shape) ++ encode (Act (Enqueue 0 arrival)) ++ encode (Act (Step 0)) ++ (84 ∷ []) ≡ file
unfolding encode
encoded = refl

opening : record_at file 0 ≡ whole (Open shape) 9
unfolding record_at marked_at size_of fields_at shape_at
opening = refl

enqueue : record_at file 9 ≡ whole (Act (Enqueue 0 arrival)) 21
unfolding record_at marked_at size_of fields_at arrival_at
enqueue = refl

step : record_at file 21 ≡ whole (Act (Step 0)) 24
unfolding record_at marked_at size_of fields_at
step = refl

left_over : record_at file 24 ≡ Err CutRecord
unfolding record_at
left_over = refl

nothing_left : record_at file 25 ≡ Ok None
unfolding record_at
nothing_left = refl

-- Two bytes that are no mark, and a mark without its field.
unknown : record_at file 1 ≡ Err UnknownMark
unfolding record_at marked_at size_of
unknown = refl

cut : record_at (84 ∷ 65 ∷ []) 0 ≡ Err CutRecord
unfolding record_at marked_at size_of
cut = refl

-- `begun 1`, `took 5 7 1 1864135` and a zero.
begun : line_of (Begun 1) ≡ 98 ∷ 101 ∷ 103 ∷ 117 ∷ 110 ∷ 32 ∷ 49 ∷ 10 ∷ []
unfolding line_of decimal digits
begun = refl

took : line_of (Took 5 7 1 3 1864135)
    ≡ 116 ∷ 111 ∷ 111 ∷ 107 ∷ 32 ∷ 53 ∷ 32 ∷ 55 ∷ 32 ∷ 49 ∷ 32 ∷ 49 ∷ 56 ∷ 54 ∷ 52 ∷ 49 ∷ 51 ∷ 53 ∷ 10 ∷ []
unfolding line_of decimal digits
took = refl

zero_printed : decimal 0 ≡ 48 ∷ []
unfolding decimal digits
zero_printed = refl
