-- One reading: the bytes of a record and the record determine each other.
-- Assumes nothing.
use Rattle.std.specs.Prelude.{◌≡◌, List, [], ◌++◌, ℕ, ◌+◌, ◌-◌, ◌<◌, ◌≤◌, length, take, drop}
use Rattle.std.proofs.Common.{sym, ap, ◌∙◌, append_assoc, arith, length-append, length-drop, take-append-drop, get_or-drop, length-take-le, take-take}
use Rattle.std.proofs.Math.Seq.{slice, drop-append_seam}
use Rattle.laws.specs.Lists.{drop_take}
use Rattle.turn_file.specs.Fields.{two_at}
use Rattle.turn_file.specs.declared.Record.{Record}
use Rattle.turn_file.specs.Records.{size_of}
use Rattle.turn_file.proofs.Records.{size_least}
use Rattle.turn_file.specs.Reading.{fields_at, whole, record_at}
use Rattle.turn_file.specs.Encoding.{encode, Fits}
use Rattle.turn_file.proofs.FrontFields.{mark_front, fields_front}
use Rattle.turn_file.specs.FrontRecords.{Bytes, mark_of}
use Rattle.turn_file.proofs.FrontRecords.{front_encoded, encoded_size, encoded_least, encoded_mark, encoded_fields}
use Rattle.turn_file.proofs.FoundRecord.{found, enough, same_record}
use Rattle.turn_file.specs.OneReading.{Stands}

-- A record that is read ends further on, and within the bytes.
pub read_on : (s : List ℕ) (at : ℕ) (r : Record) (next : ℕ) → record_at s at ≡ whole r next → (at < next) × (next ≤ length s)
read_on s at r next e =
    let f = found s at r next e in
    omega (arith, f.place, f.within, size_least (two_at s at) f.known)

dropped_bytes : (s : List ℕ) (at : ℕ) → Bytes s → Bytes (drop at s)
dropped_bytes s at h k = rw get_or-drop (h (at + k))

-- The bytes of a part, counted from its start.
part : (s : List ℕ) (at n : ℕ) → slice at (at + n) s ≡ take n (drop at s)
part s at n = let e : at + n - at ≡ n = omega arith in drop_take at (at + n) s ∙ ap (λ k. take k (drop at s)) e

-- What was read is what its bytes encode.
pub read_is_encoded : (s : List ℕ) (at : ℕ) → Bytes s → (r : Record) (next : ℕ) → record_at s at ≡ whole r next
    → Stands s at r next
read_is_encoded s at bytes r next e =
    let f = found s at r next e in
    let mark = two_at s at in
    let t = drop at s in
    let end : at + size_of mark ≤ length s = omega (arith, f.place, f.within) in
    let front = front_encoded t (dropped_bytes s at bytes) mark f.known (sym (mark_front s at)) (omega (arith, length-drop at s)) in
    let same : fields_at t 0 mark ≡ r = sym (f.fields ∙ fields_front s at mark) in
    let first : take (size_of mark) t ≡ encode r = front.0 ∙ ap encode same in
    let size : length (encode r) ≡ size_of mark = ap length (sym first) ∙ length-take-le (size_of mark) t (omega (arith, length-drop at s)) in
    record {
      bytes = ap (λ k. slice at k s) f.place ∙ part s at (size_of mark) ∙ first;
      size = omega (arith, f.place, size);
      within = f.within;
      fits = rw same at front.1;
    }

-- What was encoded is what is read, wherever it stands.
pub encoded_is_read : (a b : List ℕ) (r : Record) → Fits r
    → record_at (a ++ (encode r ++ b)) (length a) ≡ whole r (length a + length (encode r))
encoded_is_read a b r h =
    let t = encode r ++ b in
    let s = a ++ t in
    let at = length a in
    let rest : drop at s ≡ t = drop-append_seam a t in
    let mark : two_at s at ≡ mark_of r = mark_front s at ∙ ap (λ l. two_at l 0) rest ∙ encoded_mark r b in
    let size : size_of (two_at s at) ≡ length (encode r) = ap size_of mark ∙ sym (encoded_size r) in
    let fields : fields_at s at (two_at s at) ≡ r =
    ap (fields_at s at) mark ∙ fields_front s at (mark_of r) ∙ ap (λ l. fields_at l 0 (mark_of r)) rest ∙ encoded_fields r b h in
    enough s at (omega (arith, encoded_least r)) (omega (arith, length-append a t, length-append (encode r) b))
    ∙ ap (λ q. whole q (at + size_of (two_at s at))) fields
    ∙ ap (λ n. whole r (at + n)) size

-- What was read determines the bytes and their number.
pub read_determines_bytes : (s t : List ℕ) (at to : ℕ) → Bytes s → Bytes t → (r : Record) (m n : ℕ)
    → record_at s at ≡ whole r m → record_at t to ≡ whole r n → (slice at m s ≡ slice to n t) × (m - at ≡ n - to)
read_determines_bytes s t at to hs ht r m n e f =
    let left = read_is_encoded s at hs r m e in
    let right = read_is_encoded t to ht r n f in
    (left.bytes ∙ sym right.bytes, omega (arith, left.size, right.size))

-- A file that starts with a record starts with no other one, and the rest is determined too.
pub one_reading : (r q : Record) (b c : List ℕ) → Fits r → Fits q → encode r ++ b ≡ encode q ++ c → (r ≡ q) × (b ≡ c)
one_reading r q b c hr hq e =
    let same : r ≡ q =
    same_record r q (0 + length (encode r)) (0 + length (encode q))
    (sym (encoded_is_read [] b r hr) ∙ ap (λ s. record_at s 0) e ∙ encoded_is_read [] c q hq) in (
      same,
      sym (drop-append_seam (encode r) b)
          ∙ ap (λ x. drop (length (encode x)) (encode r ++ b)) same
          ∙ ap (drop (length (encode q))) e
          ∙ drop-append_seam (encode q) c,
    )

-- Different records have different bytes.
pub encode_injective : (r q : Record) → Fits r → Fits q → encode r ≡ encode q → r ≡ q
encode_injective r q hr hq e = (one_reading r q [] [] hr hq (ap (λ s. s ++ []) e)).0

-- A record read in a part of a file is the record at its place in the file.
module _ (s : List ℕ) (at : ℕ) (bytes : Bytes s) (r : Record) (next : ℕ) (e : record_at s at ≡ whole r next) where
  split : s ≡ (take at s ++ encode r) ++ drop next s
  split =
      let stands = read_is_encoded s at bytes r next e in
      let on = read_on s at r next e in
      let front : take next s ≡ take at s ++ encode r =
      sym (take-append-drop at (take next s)) ∙ ap (λ l. l ++ slice at next s) (take-take at next s (omega arith)) ∙ ap (λ l. take at s ++ l) stands.bytes in
      sym (take-append-drop next s) ∙ ap (λ l. l ++ drop next s) front

  pub read_anywhere : (a b : List ℕ) → record_at (a ++ (s ++ b)) (length a + at) ≡ whole r (length a + next)
  read_anywhere a b =
      let stands = read_is_encoded s at bytes r next e in
      let on = read_on s at r next e in
      let before : List ℕ = a ++ take at s in
      let size : length before ≡ length a + at = length-append a (take at s) ∙ ap (λ n. length a + n) (length-take-le at s (omega arith)) in
      let whole-file : a ++ (s ++ b) ≡ before ++ (encode r ++ (drop next s ++ b)) =
      ap (λ l. a ++ (l ++ b)) split ∙ simp append_assoc in
      ap (record_at (a ++ (s ++ b))) (sym size)
      ∙ ap (λ l. record_at l (length before)) whole-file
      ∙ encoded_is_read before (drop next s ++ b) r stands.fits
      ∙ ap (whole r) (omega (arith, stands.size))
