-- What refuses a row that is measured, and what a refused curve leaves.
--     decay_lowest, curve_lowest             what is answered is the lowest number that applies
--     heard                                  15 and 17 are never both true: a row of zeros has the sum 0
--     refused_value                          refused, the value is 0
--     curve_first, curve_19, curve_0         which answer to a curve: what refuses the row; a buffer that is too short; neither
--     curve_refused, curve_is                refused, the buffer is as it was; not refused, it has the levels
--     curve_length                           it never gets another length
--     curve_at, curve_beyond                 the levels one by one; and the places behind them as they were
-- Assumes nothing.
use Rattle.std.specs.Prelude.{◌≡◌, List, [], ◌∷◌, ◌++◌, Bool, true, false, ◌≢◌, ℕ, ◌+◌, ◌-◌, ◌≤◌, ◌<◌, eqb, length, get_or, drop}
use Rattle.std.proofs.Math.Path.{refl}
use Rattle.std.proofs.Common.{ap, ◌∙◌, arith, length-append, length-drop, get_or-append-add, get_or-drop}
use Rattle.std.proofs.Math.Dec.{ltb}
use Rattle.std.proofs.Math.ListN.{get_or-append}
use borrow.Author.Tests.{ne_eqb, ltb-true, ltb-false, lt-ltb, le-ltb, eqb-true, eqb-false}
use Rattle.laws.specs.Lists.{words_from, words_at, length_words}
use Rattle.laws.specs.FirstOf.{first_of, Lowest, lowest_of, first_none, first_front, first_append}
use Rattle.echogram.specs.Row.{sum_of, most}
use Rattle.decay.specs.Decay.{level, too_large_sum, silent, decay_tests, decay_refusal, measured, curve_tests, curve_refusal, curve}
use Rattle.decay.proofs.Rest.{silent_sum}

pub decay_lowest : (row : List ℕ) → Lowest (decay_refusal row) (decay_tests row)
unfolding decay_refusal
decay_lowest row = lowest_of (decay_tests row) refl

pub curve_lowest : (row levels : List ℕ) → Lowest (curve_refusal row levels) (curve_tests row levels)
unfolding curve_refusal
curve_lowest row levels = lowest_of (curve_tests row levels) refl

pub heard : (row : List ℕ) → too_large_sum row ≡ true → silent row ≡ false
heard row e = silent_sum row ∙ ne_eqb (sum_of row) 0 (λ z. omega (arith, ltb-true most (sum_of row) e))

pub refused_value : (refusal value : ℕ) → refusal ≢ 0 → measured refusal value ≡ record { number = refusal; value = 0 }
refused_value refusal value some = rw (ne_eqb refusal 0 some)

-- ── the curve ──
module _ (row levels : List ℕ) where
  pub curve_first : decay_refusal row ≢ 0 → curve_refusal row levels ≡ decay_refusal row
  unfolding decay_refusal curve_refusal
  curve_first some = first_front (decay_tests row) ((19, ltb (length levels) (length row)) ∷ []) some

  behind : decay_refusal row ≡ 0 → curve_refusal row levels ≡ first_of ((19, ltb (length levels) (length row)) ∷ [])
  unfolding decay_refusal curve_refusal
  behind none = first_append (decay_tests row) ((19, ltb (length levels) (length row)) ∷ []) refl ∙ rw none

  pub curve_19 : decay_refusal row ≡ 0 → length levels < length row → curve_refusal row levels ≡ 19
  curve_19 none short = behind none ∙ rw (lt-ltb (length levels) (length row) short)

  pub curve_0 : decay_refusal row ≡ 0 → length row ≤ length levels → curve_refusal row levels ≡ 0
  curve_0 none room = behind none ∙ rw (le-ltb (length levels) (length row) room)

  pub curve_refused : curve_refusal row levels ≢ 0 → curve row levels ≡ levels
  unfolding curve
  curve_refused some = rw (ne_eqb (curve_refusal row levels) 0 some)

  pub curve_is : curve_refusal row levels ≡ 0 → curve row levels ≡ words_from (level row) 0 (length row) ++ drop (length row) levels
  unfolding curve
  curve_is none = rw none

  room_of : curve_refusal row levels ≡ 0 → length row ≤ length levels
  unfolding curve_refusal
  room_of none = ltb-false (length levels) (length row) (first_none (curve_tests row levels) refl none).1.1.1.0

  pub curve_length : length (curve row levels) ≡ length levels
  curve_length = by_number (eqb (curve_refusal row levels) 0) refl
    where
      by_number : (b : Bool) → eqb (curve_refusal row levels) 0 ≡ b → length (curve row levels) ≡ length levels
      by_number true e =
          let none = eqb-true (curve_refusal row levels) 0 e in
          ap length (curve_is none)
          ∙ length-append (words_from (level row) 0 (length row)) (drop (length row) levels)
          ∙ omega (arith, length_words (level row) 0 (length row), length-drop (length row) levels, room_of none)
      by_number false e = ap length (curve_refused (eqb-false (curve_refusal row levels) 0 e))

  pub curve_at : curve_refusal row levels ≡ 0 → (k : ℕ) → k < length row → get_or (curve row levels) k 0 ≡ level row k
  curve_at none k h =
      ap (λ (u : List ℕ). get_or u k 0) (curve_is none)
      ∙ get_or-append (words_from (level row) 0 (length row)) (drop (length row) levels) 0 k (omega (arith, length_words (level row) 0 (length row)))
      ∙ words_at (level row) 0 (length row) k h
      ∙ (let z : 0 + k ≡ k = omega arith in ap (level row) z)

  pub curve_beyond : (k : ℕ) → length row ≤ k → get_or (curve row levels) k 0 ≡ get_or levels k 0
  curve_beyond k h = by_number (eqb (curve_refusal row levels) 0) refl
    where
      by_number : (b : Bool) → eqb (curve_refusal row levels) 0 ≡ b → get_or (curve row levels) k 0 ≡ get_or levels k 0
      by_number true e =
          let size = length_words (level row) 0 (length row) in
          let place : k ≡ length (words_from (level row) 0 (length row)) + (k - length row) = omega (arith, size) in
          let back : length row + (k - length row) ≡ k = omega arith in
          ap (λ (u : List ℕ). get_or u k 0) (curve_is (eqb-true (curve_refusal row levels) 0 e))
          ∙ ap (λ i. get_or (words_from (level row) 0 (length row) ++ drop (length row) levels) i 0) place
          ∙ get_or-append-add (words_from (level row) 0 (length row)) (drop (length row) levels) (k - length row) 0
          ∙ get_or-drop (length row) levels (k - length row) 0
          ∙ ap (λ i. get_or levels i 0) back
      by_number false e = ap (λ (u : List ℕ). get_or u k 0) (curve_refused (eqb-false (curve_refusal row levels) 0 e))
