-- The bytes of a record, for fields that fit their widths.
-- Assumes nothing.
use Rattle.std.specs.Prelude.{List, [], ◌∷◌, ◌++◌, ℕ, ◌/◌, ◌%◌, ◌<◌, ◌^◌}
use Rattle.arrival.specs.declared.Action.TheVariants.{Enqueue, Dequeue, Step}
use Rattle.turn_file.specs.declared.Record.{Record}
use Rattle.turn_file.specs.declared.Record.TheVariants.{Open, Act}
use Rattle.turn_file.specs.Records.{OP, PU, TA, TU}

-- A number in one, two and four bytes, little-endian.
abbrev pub one : ℕ → List ℕ
one x = x % 256 ∷ []

abbrev pub two : ℕ → List ℕ
two x = one x ++ one (x / 256)

abbrev pub four : ℕ → List ℕ
four x = two x ++ two (x / 65536)

unfoldable pub encode : Record → List ℕ
encode (Open shape) = two OP ++ one shape.workers ++ two shape.nodes ++ two shape.buckets ++ two shape.width
encode (Act (Enqueue worker arrival)) =
    two PU ++ one worker ++ four arrival.time ++ two arrival.path ++ one arrival.order ++ two arrival.distance
encode (Act (Dequeue worker)) = two TA ++ one worker
encode (Act (Step worker)) = two TU ++ one worker

-- Every field fits its width.
unfoldable pub Fits : Record → Type 0
Fits (Open shape) = (shape.workers < 2 ^ 8) × (shape.nodes < 2 ^ 16) × (shape.buckets < 2 ^ 16) × (shape.width < 2 ^ 16)
Fits (Act (Enqueue worker arrival)) =
    (worker < 2 ^ 8)
    × (arrival.time < 2 ^ 32)
    × (arrival.path < 2 ^ 16)
    × (arrival.order < 2 ^ 8)
    × (arrival.distance < 2 ^ 16)
Fits (Act (Dequeue worker)) = worker < 2 ^ 8
Fits (Act (Step worker)) = worker < 2 ^ 8
