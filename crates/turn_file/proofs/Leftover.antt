-- What is read at a position is read at the front of the bytes that are left from there on, as a borrowed part of them.
-- Assumes nothing.
use Rattle.std.specs.Prelude.{◌≡◌, List, ℕ, ◌+◌, ◌-◌, ◌<◌, ◌≤◌, length, take, drop, Err}
use Rattle.std.proofs.Common.{sym, ap, ◌∙◌, inl, inr, arith, length-drop, take-append-drop}
use Rattle.std.proofs.lemmas.Grind.{common_steps}
use Rattle.turn_file.specs.declared.Unreadable.TheVariants.{UnknownMark, CutRecord}
use Rattle.turn_file.specs.Fields.{two_at}
use Rattle.turn_file.specs.Records.{size_of}
use Rattle.turn_file.specs.Reading.{fields_at, whole, record_at}
use Rattle.turn_file.proofs.FrontFields.{mark_front, fields_front}
use Rattle.turn_file.proofs.FoundRecord.{enough}
use Rattle.turn_file.proofs.MoreBytes.{two_more, fields_more, unknown_refused, cut_refused}

module _ (s : List ℕ) (at : ℕ) (some : at < length s) where
  abbrev left : List ℕ
  left = take (length s - at) (drop at s)

  left_is : left ≡ drop at s
  left_is = grind (arith, common_steps, length-drop at s)

  size_left : length left ≡ length s - at
  size_left = ap length left_is ∙ length-drop at s

  -- the letters, where there are two
  mark_left : 2 ≤ length left → two_at s at ≡ two_at (take 2 left) 0
  mark_left h =
      mark_front s at
      ∙ ap (λ (l : List ℕ). two_at l 0) (sym left_is ∙ sym (take-append-drop 2 left))
      ∙ two_more (take 2 left) (drop 2 left) 0 (grind (arith, common_steps))

  pub one_left : length left < 2 → Err CutRecord ≡ record_at s at
  one_left h = sym (cut_refused s at (inl (omega (arith, size_left))))

  pub unknown_left : 2 ≤ length left → size_of (two_at (take 2 left) 0) ≡ 0 → Err UnknownMark ≡ record_at s at
  unknown_left h e = sym (unknown_refused s at (omega (arith, size_left), ap size_of (mark_left h) ∙ e))

  module _ (mark : ℕ) (known : 0 < size_of mark) (h : 2 ≤ length left) (is : two_at (take 2 left) 0 ≡ mark) where
    same : size_of (two_at s at) ≡ size_of mark
    same = ap size_of (mark_left h ∙ is)

    pub cut_left : length left < size_of mark → Err CutRecord ≡ record_at s at
    cut_left short = sym (cut_refused s at (inr (omega (arith, size_left), omega (arith, size_left, same))))

    pub whole_left : size_of mark ≤ length left → whole (fields_at (take (size_of mark) left) 0 mark) (at + size_of mark) ≡ record_at s at
    whole_left room =
        let front : List ℕ = take (size_of mark) left in
        let rest : List ℕ = drop (size_of mark) left in
        let long : size_of mark ≤ length front = grind (arith, common_steps) in
        let fields : fields_at front 0 mark ≡ fields_at s at mark =
        sym (fields_more front rest mark known long)
        ∙ ap (λ (l : List ℕ). fields_at l 0 mark) (take-append-drop (size_of mark) left ∙ left_is)
        ∙ sym (fields_front s at mark) in
        ap (λ r. whole r (at + size_of mark)) fields
        ∙ ap (λ m. whole (fields_at s at m) (at + size_of m)) (sym (mark_left h ∙ is))
        ∙ sym (enough s at (omega (arith, same)) (omega (arith, same, size_left)))
