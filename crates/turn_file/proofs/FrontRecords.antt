-- At the front of a list: bytes with a known mark are those of the record read, and a record's bytes are read as that record.
--
--     front_encoded                           bytes with a known mark are those of the record read
--     encoded_size, encoded_least              the mark and the size of an encoded record
--     encoded_mark, encoded_fields            it is read as that record
--     encoded_bytes                           it is bytes
-- Assumes nothing.
use Rattle.std.specs.Prelude.{◌≡◌, refl, List, [], ◌∷◌, ◌++◌, ℕ, zero, suc, ◌+◌, ◌*◌, ◌/◌, ◌%◌, ◌<◌, ◌≤◌, length, take}
use Rattle.std.proofs.Common.{arith}
use Rattle.arrival.specs.declared.Action.TheVariants.{Enqueue, Dequeue, Step}
use Rattle.laws.specs.Lists.{words_from, take_words}
use Rattle.turn_file.specs.Fields.{byte_at, two_at, four_at, shape_at, arrival_at}
use Rattle.turn_file.specs.declared.Record.{Record}
use Rattle.turn_file.specs.declared.Record.TheVariants.{Open, Act}
use Rattle.turn_file.specs.Records.{OP, PU, TA, TU, size_of}
use Rattle.turn_file.proofs.Records.{by_mark}
use Rattle.turn_file.specs.Reading.{fields_at}
use Rattle.turn_file.specs.Encoding.{encode, Fits}
use Rattle.turn_file.specs.FrontRecords.{Bytes, mark_of}

-- What stands at the front, where `mark` stands there and the bytes are enough.
unfoldable Front : List ℕ → ℕ → Type 0
Front t mark =
    two_at t 0 ≡ mark → size_of mark ≤ length t
    → (take (size_of mark) t ≡ encode (fields_at t 0 mark)) × Fits (fields_at t 0 mark)

module _ (t : List ℕ) (bytes : Bytes t) where
  first : (k : ℕ) → byte_at t k % 256 ≡ byte_at t k
  first k = omega (arith, bytes k)

  low : (k : ℕ) → two_at t k % 256 ≡ byte_at t k
  low k = omega (arith, bytes k)

  high : (k : ℕ) → two_at t k / 256 % 256 ≡ byte_at t (k + 1)
  high k = omega (arith, bytes k, bytes (k + 1))

  lower : (k : ℕ) → four_at t k % 256 ≡ byte_at t k
  lower k = omega (arith, bytes k)

  lower_high : (k : ℕ) → four_at t k / 256 % 256 ≡ byte_at t (k + 1)
  lower_high k = omega (arith, bytes k, bytes (k + 1))

  upper : (k : ℕ) → four_at t k / 65536 ≡ two_at t (k + 2)
  upper k = omega (arith, bytes k, bytes (k + 1))

  letters : (x y : ℕ) → x < 256 → two_at t 0 ≡ x + 256 * y → (byte_at t 0 ≡ x) × (byte_at t 1 ≡ y)
  letters x y h e = omega (arith, bytes 0)

  front_opening : Front t OP
  unfolding Front size_of fields_at shape_at encode Fits words_from
  front_opening e h =
      let mark = letters 79 80 (omega arith) e in (
        rw (take_words t 0 9 (omega arith), mark.0, mark.1, first 2, low 3, high 3, low 5, high 5, low 7, high 7),
        (bytes 2, omega (arith, bytes 3, bytes 4), omega (arith, bytes 5, bytes 6), omega (arith, bytes 7, bytes 8)),
      )

  front_enqueue : Front t PU
  unfolding Front size_of fields_at arrival_at encode Fits words_from
  front_enqueue e h =
      let mark = letters 80 85 (omega arith) e in (
        rw (
          take_words t 0 12 (omega arith),
          mark.0,
          mark.1,
          first 2,
          lower 3,
          lower_high 3,
          upper 3,
          low 5,
          high 5,
          low 7,
          high 7,
          first 9,
          low 10,
          high 10,
        ),
        (
          bytes 2,
          omega (arith, bytes 3, bytes 4, bytes 5, bytes 6),
          omega (arith, bytes 7, bytes 8),
          bytes 9,
          omega (arith, bytes 10, bytes 11),
        ),
      )

  front_dequeue : Front t TA
  unfolding Front size_of fields_at encode Fits words_from
  front_dequeue e h =
      let mark = letters 84 65 (omega arith) e in
      (rw (take_words t 0 3 (omega arith), mark.0, mark.1, first 2), bytes 2)

  front_step : Front t TU
  unfolding Front size_of fields_at encode Fits words_from
  front_step e h =
      let mark = letters 84 85 (omega arith) e in
      (rw (take_words t 0 3 (omega arith), mark.0, mark.1, first 2), bytes 2)

  pub front_encoded : (mark : ℕ) → 0 < size_of mark → two_at t 0 ≡ mark → size_of mark ≤ length t
      → (take (size_of mark) t ≡ encode (fields_at t 0 mark)) × Fits (fields_at t 0 mark)
  unfolding Front
  front_encoded = by_mark (Front t) front_opening front_enqueue front_dequeue front_step

pub encoded_size : (r : Record) → length (encode r) ≡ size_of (mark_of r)
unfolding encode size_of
encoded_size (Open shape) = refl
encoded_size (Act (Enqueue worker arrival)) = refl
encoded_size (Act (Dequeue worker)) = refl
encoded_size (Act (Step worker)) = refl

pub encoded_least : (r : Record) → 3 ≤ length (encode r)
unfolding encode
encoded_least (Open shape) = omega arith
encoded_least (Act (Enqueue worker arrival)) = omega arith
encoded_least (Act (Dequeue worker)) = omega arith
encoded_least (Act (Step worker)) = omega arith

pub encoded_mark : (r : Record) (b : List ℕ) → two_at (encode r ++ b) 0 ≡ mark_of r
unfolding encode
encoded_mark (Open shape) b = refl
encoded_mark (Act (Enqueue worker arrival)) b = refl
encoded_mark (Act (Dequeue worker)) b = refl
encoded_mark (Act (Step worker)) b = refl

byte_back : (x : ℕ) → x < 256 → x % 256 ≡ x
byte_back x h = omega arith

two_back : (x : ℕ) → x < 65536 → x % 256 + 256 * (x / 256 % 256) ≡ x
two_back x h = omega arith

four_back : (x : ℕ) → x < 4294967296
    → x % 256 + 256 * (x / 256 % 256) + 65536 * (x / 65536 % 256 + 256 * (x / 65536 / 256 % 256)) ≡ x
four_back x h = omega arith

pub encoded_fields : (r : Record) (b : List ℕ) → Fits r → fields_at (encode r ++ b) 0 (mark_of r) ≡ r
unfolding encode fields_at shape_at arrival_at Fits
encoded_fields (Open shape) b h =
    rw (
      byte_back shape.workers h.0,
      two_back shape.nodes h.1,
      two_back shape.buckets h.2,
      two_back shape.width h.3,
    )
encoded_fields (Act (Enqueue worker arrival)) b h =
    rw (
      byte_back worker h.0,
      four_back arrival.time h.1,
      two_back arrival.path h.2,
      byte_back arrival.order h.3,
      two_back arrival.distance h.4,
    )
encoded_fields (Act (Dequeue worker)) b h = rw (byte_back worker h)
encoded_fields (Act (Step worker)) b h = rw (byte_back worker h)

-- What is encoded is bytes.
abbrev Small : List ℕ → Type 0
Small [] = Unit {0}
Small (x ∷ l) = (x < 256) × Small l

small_bytes : (l : List ℕ) → Small l → Bytes l
small_bytes [] h k = omega arith
small_bytes (x ∷ l) h zero = h.0
small_bytes (x ∷ l) h (suc k) = small_bytes l h.1 k

pub encoded_bytes : (r : Record) → Bytes (encode r)
unfolding encode
encoded_bytes r = small_bytes (encode r) (small r)
  where
    small : (r : Record) → Small (encode r)
    small (Open shape) = search arith
    small (Act (Enqueue worker arrival)) = search arith
    small (Act (Dequeue worker)) = search arith
    small (Act (Step worker)) = search arith
