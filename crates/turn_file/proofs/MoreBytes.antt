-- What is read at a position is read at the front of the bytes from there on, also where more bytes follow; only what is cut may be read otherwise then.
--
--     at_end, why_refused                   what no record and a refusal tell
--     unknown_refused, cut_refused          the other way
--     read_rest, unknown_rest, cut_rest     the same at the front of the rest
--     cut_short                             a cut record is shorter than any record can be
-- Assumes nothing.
use Rattle.std.specs.Prelude.{◌≡◌, refl, List, ◌++◌, Bool, true, false, cond, ◌⊎◌, ℕ, ◌+◌, ◌-◌, ◌<◌, ◌≤◌, eqb, leb, ltb, length, drop, None, Ok, Err}
use Rattle.std.proofs.Common.{sym, ap, ◌∙◌, inl, inr, arith, length-append, length-drop}
use Rattle.std.proofs.Common.{eqb-true, leb-true, leb-false, ltb-true, le-leb, eq-eqb, ne_eqb, lt-ltb}
use Rattle.std.proofs.Math.ListN.{get_or-append}
use Rattle.std.proofs.lemmas.Bool.{lt-leb}
use Rattle.turn_file.specs.declared.Unreadable.{Unreadable}
use Rattle.turn_file.specs.declared.Unreadable.TheVariants.{UnknownMark, CutRecord}
use Rattle.turn_file.specs.Fields.{byte_at, two_at, four_at, shape_at, arrival_at}
use Rattle.turn_file.specs.declared.Record.{Record}
use Rattle.turn_file.specs.Records.{size_of}
use Rattle.turn_file.proofs.Records.{by_mark, size_least, size_most}
use Rattle.turn_file.specs.Reading.{fields_at, whole, marked_at, record_at}
use Rattle.turn_file.proofs.FrontFields.{mark_front, fields_front}
use Rattle.turn_file.proofs.FoundRecord.{found, enough, not_end_lem, not_refused}
use Rattle.turn_file.specs.MoreBytes.{Unknown, Cut}

-- ── more bytes behind ──
module _ (t more : List ℕ) where
  byte_more : (k : ℕ) → k < length t → byte_at (t ++ more) k ≡ byte_at t k
  byte_more k h = get_or-append t more 0 k h

  pub two_more : (k : ℕ) → k + 1 < length t → two_at (t ++ more) k ≡ two_at t k
  two_more k h = cc (byte_more k (omega arith), byte_more (k + 1) h)

  four_more : (k : ℕ) → k + 3 < length t → four_at (t ++ more) k ≡ four_at t k
  four_more k h = cc (two_more k (omega arith), two_more (k + 2) (omega arith))

  abbrev pub Same : ℕ → Type 0
  Same mark = size_of mark ≤ length t → fields_at (t ++ more) 0 mark ≡ fields_at t 0 mark

  opening_more : 9 ≤ length t → shape_at (t ++ more) 0 ≡ shape_at t 0
  unfolding shape_at
  opening_more h = cc (byte_more 2 (omega arith), two_more 3 (omega arith), two_more 5 (omega arith), two_more 7 (omega arith))

  arrival_more : 12 ≤ length t → arrival_at (t ++ more) 0 ≡ arrival_at t 0
  unfolding arrival_at
  arrival_more h = cc (four_more 3 (omega arith), two_more 7 (omega arith), byte_more 9 (omega arith), two_more 10 (omega arith))

  pub fields_more : (mark : ℕ) → 0 < size_of mark → Same mark
  unfolding size_of fields_at
  fields_more =
      by_mark Same
      (λ h. cc (opening_more h))
      (λ h. cc (arrival_more h, byte_more 2 (omega arith)))
      (λ h. cc (byte_more 2 (omega arith)))
      (λ h. cc (byte_more 2 (omega arith)))

pub at_end : (s : List ℕ) (at : ℕ) → record_at s at ≡ Ok None → length s ≤ at
unfolding record_at marked_at
at_end s at =
    go (leb (length s) at) refl (leb (length s) (at + 1)) (eqb (size_of (two_at s at)) 0) (ltb (length s) (at + size_of (two_at s at)))
    (fields_at s at (two_at s at))
    (at + size_of (two_at s at))
  where
    go : (a : Bool) → leb (length s) at ≡ a → (b c d : Bool) (r : Record) (next : ℕ)
        → cond a (Ok None) (cond b (Err CutRecord) (cond c (Err UnknownMark) (cond d (Err CutRecord) (whole r next)))) ≡ Ok None → length s ≤ at
    go true e b c d r next f = leb-true (length s) at e
    go false e true c d r next f = absurd cc
    go false e false true d r next f = absurd cc
    go false e false false true r next f = absurd cc
    go false e false false false r next f = absurd (not_end_lem r next (sym f))

pub why_refused : (s : List ℕ) (at : ℕ) (why : Unreadable) → record_at s at ≡ Err why
    → ((why ≡ UnknownMark) × Unknown s at) ⊎ ((why ≡ CutRecord) × Cut s at)
unfolding record_at marked_at
why_refused s at why =
    go (leb (length s) at) refl (leb (length s) (at + 1)) refl (eqb (size_of (two_at s at)) 0) refl (ltb (length s) (at + size_of (two_at s at))) refl
    (fields_at s at (two_at s at)) (at + size_of (two_at s at))
  where
    go : (a : Bool) → leb (length s) at ≡ a → (b : Bool) → leb (length s) (at + 1) ≡ b → (c : Bool) → eqb (size_of (two_at s at)) 0 ≡ c → (d : Bool)
        → ltb (length s) (at + size_of (two_at s at)) ≡ d → (r : Record) (next : ℕ)
        → cond a (Ok None) (cond b (Err CutRecord) (cond c (Err UnknownMark) (cond d (Err CutRecord) (whole r next)))) ≡ Err why
        → ((why ≡ UnknownMark) × Unknown s at) ⊎ ((why ≡ CutRecord) × Cut s at)
    go true p b q c u d v r next e = absurd cc
    go false p true q c u d v r next e = inr (cc, inl (omega (arith, leb-false (length s) at p, leb-true (length s) (at + 1) q)))
    go false p false q true u d v r next e = inl (cc, (leb-false (length s) (at + 1) q, eqb-true (size_of (two_at s at)) 0 u))
    go false p false q false u true v r next e =
        inr (cc, inr (leb-false (length s) (at + 1) q, ltb-true (length s) (at + size_of (two_at s at)) v))
    go false p false q false u false v r next e = absurd (not_refused why r next (sym e))

pub unknown_refused : (s : List ℕ) (at : ℕ) → Unknown s at → record_at s at ≡ Err UnknownMark
unfolding record_at marked_at
unknown_refused s at h =
    rw (lt-leb (length s) at (omega (arith, h.0)), lt-leb (length s) (at + 1) (omega (arith, h.0)), eq-eqb (size_of (two_at s at)) 0 h.1)

pub cut_refused : (s : List ℕ) (at : ℕ) → Cut s at → record_at s at ≡ Err CutRecord
unfolding record_at marked_at
cut_refused s at (inl h) = rw (lt-leb (length s) at (omega arith), le-leb (length s) (at + 1) (omega arith))
cut_refused s at (inr h) =
    rw (
      lt-leb (length s) at (omega (arith, h.0)),
      lt-leb (length s) (at + 1) (omega (arith, h.0)),
      ne_eqb (size_of (two_at s at)) 0 (λ e. omega (arith, h.0, h.1)),
      lt-ltb (length s) (at + size_of (two_at s at)) h.1,
    )

-- ── from a position on ──
module _ (s : List ℕ) (at : ℕ) where
  abbrev rest : List ℕ
  rest = drop at s

  mark_rest : (more : List ℕ) → at + 1 < length s → two_at (rest ++ more) 0 ≡ two_at s at
  mark_rest more h = two_more rest more 0 (omega (arith, length-drop at s)) ∙ sym (mark_front s at)

  -- a record is read, whatever follows its bytes
  pub read_rest : (more : List ℕ) (r : Record) (next : ℕ) → record_at s at ≡ whole r next → record_at (rest ++ more) 0 ≡ whole r (next - at)
  read_rest more r next e =
      let f = found s at r next e in
      let size = size_of (two_at s at) in
      let least : 3 ≤ size = size_least (two_at s at) f.known in
      let end : at + size ≤ length s = omega (arith, f.place, f.within) in
      let mark : two_at (rest ++ more) 0 ≡ two_at s at = mark_rest more (omega arith) in
      let known : 0 < size_of (two_at (rest ++ more) 0) = rw mark f.known in
      let room : 0 + size_of (two_at (rest ++ more) 0) ≤ length (rest ++ more) = rw mark (omega (arith, length-append rest more, length-drop at s)) in
      let fields : fields_at (rest ++ more) 0 (two_at s at) ≡ r = fields_more rest more (two_at s at) f.known (omega (arith, length-drop at s))
      ∙ sym (f.fields ∙ fields_front s at (two_at s at)) in
      enough (rest ++ more) 0 known room
      ∙ ap (λ m. whole (fields_at (rest ++ more) 0 m) (0 + size_of m)) mark
      ∙ ap (λ q. whole q (0 + size)) fields
      ∙ ap (whole r) (omega (arith, f.place))

  pub unknown_rest : (more : List ℕ) → Unknown s at → Unknown (rest ++ more) 0
  unknown_rest more h = (omega (arith, h.0, length-append rest more, length-drop at s), ap size_of (mark_rest more h.0) ∙ h.1)

  pub cut_rest : Cut s at → Cut rest 0
  cut_rest (inl h) = inl (omega (arith, length-drop at s))
  cut_rest (inr h) = inr (omega (arith, h.0, length-drop at s), let m = ap size_of (mark_front s at) in omega (arith, h.0, h.1, length-drop at s, m))

  -- what is kept of a cut record is shorter than any record can be
  pub cut_short : Cut s at → (at < length s) × (length s < at + 12)
  cut_short (inl h) = omega arith
  cut_short (inr h) = omega (arith, h.0, h.1, size_most (two_at s at))
