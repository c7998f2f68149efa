-- What an answer with a record says of the bytes.
-- Assumes nothing.
use Rattle.std.specs.Prelude.{◌≡◌, refl, List, ◌⊎◌, ℕ, ◌+◌, ◌<◌, ◌≤◌, eqb, leb, ltb, length, None, Ok, Err}
use Rattle.std.proofs.Common.{sym, ap, inl, inr, pos_of_ne-zero, arith, ltb-false, le-ltb, ne_eqb}
use Rattle.std.proofs.lemmas.Bool.{eqb-false, lt-leb}
use Rattle.laws.specs.Tests.{by_test}
use Rattle.turn_file.specs.declared.Unreadable.{Unreadable}
use Rattle.turn_file.specs.declared.Unreadable.TheVariants.{UnknownMark, CutRecord}
use Rattle.turn_file.specs.Fields.{two_at}
use Rattle.turn_file.specs.declared.Record.{Record}
use Rattle.turn_file.specs.Records.{size_of}
use Rattle.turn_file.proofs.Records.{size_least}
use Rattle.turn_file.specs.Reading.{Reading, number_of, fields_at, whole, marked_at, record_at}
use Rattle.turn_file.specs.FoundRecord.{Found}

-- An answer with a record is not the end and no refusal, and tells the record and the position.
pub not_end_lem : (r : Record) (next : ℕ) → Ok None ≡ whole r next → ⊥
not_end_lem r next e = cc

pub not_refused : (why : Unreadable) (r : Record) (next : ℕ) → Err why ≡ whole r next → ⊥
not_refused why r next e = cc

pub same_record : (r q : Record) (m n : ℕ) → whole r m ≡ whole q n → r ≡ q
same_record r q m n e = let same : ◌≡◌ {A = Record × ℕ} (r, m) (q, n) = cc in ap (λ (p : Record × ℕ). p.0) same

pub same_next : (r q : Record) (m n : ℕ) → whole r m ≡ whole q n → m ≡ n
same_next r q m n e = let same : ◌≡◌ {A = Record × ℕ} (r, m) (q, n) = cc in ap (λ (p : Record × ℕ). p.1) same

pub found : (s : List ℕ) (at : ℕ) (r : Record) (next : ℕ) → record_at s at ≡ whole r next → Found s at r next
unfolding record_at marked_at
found s at r next =
    let mark = two_at s at in
    by_test Told (leb (length s) at) (λ _ e. absurd (not_end_lem r next e)) (λ _.
    by_test Told (leb (length s) (at + 1)) (λ _ e. absurd (not_refused CutRecord r next e)) (λ _.
    by_test Told (eqb (size_of mark) 0) (λ _ e. absurd (not_refused UnknownMark r next e)) (λ unknown.
    by_test Told (ltb (length s) (at + size_of mark)) (λ _ e. absurd (not_refused CutRecord r next e)) (λ enough e.
    let ends : next ≡ at + size_of mark = same_next r (fields_at s at mark) next (at + size_of mark) (sym e) in
    let room : at + size_of mark ≤ length s = ltb-false (length s) (at + size_of mark) enough in
    record {
      known = pos_of_ne-zero (eqb-false (size_of mark) 0 unknown);
      fields = same_record r (fields_at s at mark) next (at + size_of mark) (sym e);
      place = ends;
      within = omega arith;
    }))))
  where
    Told : Reading → Type 0
    Told answer = answer ≡ whole r next → Found s at r next

-- The other way: a known mark and enough bytes are answered with a record.
pub enough : (s : List ℕ) (at : ℕ) → 0 < size_of (two_at s at) → at + size_of (two_at s at) ≤ length s
    → record_at s at ≡ whole (fields_at s at (two_at s at)) (at + size_of (two_at s at))
unfolding record_at marked_at
enough s at known room =
    let least : 3 ≤ size_of (two_at s at) = size_least (two_at s at) known in
    rw (
      lt-leb (length s) at (omega arith),
      lt-leb (length s) (at + 1) (omega arith),
      ne_eqb (size_of (two_at s at)) 0 (λ e. omega arith),
      le-ltb (length s) (at + size_of (two_at s at)) room,
    )

-- What is refused is refused by 7 or 8.
pub refused_by : (s : List ℕ) (at : ℕ) (why : Unreadable) → record_at s at ≡ Err why → (number_of why ≡ 7) ⊎ (number_of why ≡ 8)
refused_by s at UnknownMark e = inl refl
refused_by s at CutRecord e = inr refl
