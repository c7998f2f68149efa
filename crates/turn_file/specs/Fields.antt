-- The fields of a record: little-endian numbers of one, two and four bytes, and what they make up.
-- Assumes nothing.
use Rattle.std.specs.Prelude.{List, ℕ, ◌+◌, ◌*◌, get_or}
use Rattle.arrival.specs.declared.Shape.{Shape}
use Rattle.arrival.specs.declared.Arrival.{Arrival}

abbrev pub byte_at : List ℕ → ℕ → ℕ
byte_at s at = get_or s at 0

abbrev pub two_at : List ℕ → ℕ → ℕ
two_at s at = byte_at s at + 256 * byte_at s (at + 1)

abbrev pub four_at : List ℕ → ℕ → ℕ
four_at s at = two_at s at + 65536 * two_at s (at + 2)

-- The fields of an `OP` record that starts at `at`.
unfoldable pub shape_at : List ℕ → ℕ → Shape
shape_at s at =
    record {
      workers = byte_at s (at + 2);
      nodes = two_at s (at + 3);
      buckets = two_at s (at + 5);
      width = two_at s (at + 7);
    }

-- Those of a `PU` record, behind the worker.
unfoldable pub arrival_at : List ℕ → ℕ → Arrival
arrival_at s at =
    record {
      time = four_at s (at + 3);
      path = two_at s (at + 7);
      order = byte_at s (at + 9);
      distance = two_at s (at + 10);
    }
