-- A row's sum with what refuses it, and what is left from a slot on, in one pass.
--     refusal_outside            outside its limits a row is refused by 13,
--     refusal_by_sum             within them by its sum
--     cut_most, cut_is           where a row is cut in two: no further than its end; so at the lower of the two
--     parts_add, parts_fit       its two parts add up to its sum, in 64 bits,
--     part_left                  and the second is what is left
--     total_outside              the outcome, outside the limits,
--     total_large, total_silent  refused by the sum,
--     total_is                   and not refused
--     sound_of_lem               what a row that is not refused may count on
--     number_is                  the number of any row,
--     totals_outside, totals_is  with sum and what is left, outside the limits and within them;
--     totals_sum, totals_left    the last two by themselves
--     when_refused               what is handed back of a row that is refused,
--     sum_is, rest_is, is_sound  what was added up of one that is not,
--     when_measured              and what is handed back
-- Assumes nothing.
use Rattle.std.specs.Prelude.{◌≡◌, refl, List, [], ◌∷◌, Bool, true, false, cond, ◌≢◌, ℕ, ◌+◌, ◌-◌, ◌≤◌, ◌<◌, eqb, ltb}
use Rattle.std.specs.Prelude.{length, get_or, take, drop, min, Result, Ok, Err}
use Rattle.std.proofs.Common.{sym, ap, ◌∙◌, arith, length-drop, take_all, ltb-true, ltb-false, lt-ltb, le-ltb, eq-eqb, ne_eqb}
use Rattle.std.proofs.lemmas.Bool.{eqb-false}
use Rattle.std.proofs.Math.Nat.{min-eq_left, min-eq_right}
use Rattle.laws.specs.Tests.{by_test, by_size}
use Rattle.laws.proofs.Counting.{sum_most}
use Rattle.laws.specs.FirstOf.{first_of, first_none}
use Rattle.echogram.specs.Row.{slots_outside, sum_of, most}
use Rattle.echogram.proofs.Recorded.{slots_within}
use Rattle.decay.specs.Decay.{rest, too_large_sum, silent, decay_tests, decay_refusal, measured}
use Rattle.decay.proofs.Rest.{sum_parts, rest_past, silent_sum}
use Rattle.decay.specs.declared.refusal.DecayRefusal.{DecayRefusal}
use Rattle.decay.specs.declared.refusal.DecayRefusal.TheVariants.{BadRow, SumTooLarge, SilentRow, ShortBuffer}
use Rattle.decay.specs.declared.total.Total.{Total}
use Rattle.decay.specs.Refusals.{decay_number, answer_of}
use Rattle.decay.specs.Outcomes.{measured_of}
use Rattle.decay.specs.Totals.{sum_refusal, totals, total_of, cut_at, Sound}

pub refusal_outside : (row : List ℕ) → slots_outside (length row) ≡ true → decay_refusal row ≡ 13
unfolding decay_refusal
refusal_outside row out = rw out

pub refusal_by_sum : (row : List ℕ) → slots_outside (length row) ≡ false → decay_refusal row ≡ sum_refusal (sum_of row)
unfolding decay_refusal sum_refusal
refusal_by_sum row limits = rw (limits, silent_sum row)

pub cut_most : (slot slots : ℕ) → cut_at slot slots ≤ slots
cut_most slot slots = by_test (λ k. k ≤ slots) (ltb slot slots) (λ e. omega (arith, ltb-true slot slots e)) (λ _. omega arith)

pub cut_is : (slot slots : ℕ) → min slot slots ≡ cut_at slot slots
cut_is slot slots =
    by_size slot slots (λ l. min-eq_left (omega arith) ∙ sym (ap (λ b. cond b slot slots) (lt-ltb slot slots l)))
    (λ l. min-eq_right l ∙ sym (ap (λ b. cond b slot slots) (le-ltb slot slots l)))

-- the part from k on, as a slice has it
part_drop : (row : List ℕ) (k : ℕ) → take (length row - k) (drop k row) ≡ drop k row
part_drop row k = take_all (length row - k) (drop k row) (omega (arith, length-drop k row))

pub parts_add : (row : List ℕ) (k : ℕ) → sum_of (take k row) + sum_of (take (length row - k) (drop k row)) ≡ sum_of row
parts_add row k = omega (arith, sum_parts row k, ap sum_of (part_drop row k))

pub parts_fit : (row : List ℕ) (k : ℕ) → length row ≤ 16384 → ((i : ℕ) → get_or row i 0 < 4294967296)
    → sum_of (take k row) + sum_of (take (length row - k) (drop k row)) < 18446744073709551616
unfolding sum_of
parts_fit row k few each =
    omega (arith, parts_add row k, sum_most (λ i. get_or row i 0) 4294967295 (length row) (λ i _. omega (arith, each i)))

cut_left : (row : List ℕ) (slot : ℕ) → sum_of (drop (cut_at slot (length row)) row) ≡ rest row slot
unfolding rest
cut_left row slot =
    by_test (λ k. sum_of (drop k row) ≡ sum_of (drop slot row)) (ltb slot (length row)) (λ _. refl)
    (λ e. rest_past row (length row) (omega arith) ∙ sym (rest_past row slot (ltb-false slot (length row) e)))

pub part_left : (row : List ℕ) (slot k : ℕ) → k ≡ cut_at slot (length row) → sum_of (take (length row - k) (drop k row)) ≡ rest row slot
part_left row slot k e = ap sum_of (part_drop row k) ∙ ap (λ j. sum_of (drop j row)) e ∙ cut_left row slot

module _ (row : List ℕ) (slot : ℕ) where
  pub total_outside : slots_outside (length row) ≡ true → Err BadRow ≡ total_of row slot
  total_outside out = rw out

  pub total_large : slots_outside (length row) ≡ false → most < sum_of row → Err SumTooLarge ≡ total_of row slot
  total_large limits above = rw (limits, lt-ltb most (sum_of row) above)

  pub total_silent : slots_outside (length row) ≡ false → sum_of row ≡ 0 → Err SilentRow ≡ total_of row slot
  total_silent limits none =
      rw (limits, le-ltb most (sum_of row) (omega arith), silent_sum row, eq-eqb (sum_of row) 0 none)

  pub total_is : (sum left : ℕ) → slots_outside (length row) ≡ false → sum_refusal sum ≡ 0 → sum ≡ sum_of row → left ≡ rest row slot
      → Ok (record { sum = sum; rest = left }) ≡ total_of row slot
  unfolding sum_refusal
  total_is sum left limits none s l =
      let (fits, (heard, _)) = first_none ((15, ltb most sum) ∷ (17, eqb sum 0) ∷ []) refl none in
      (λ i. Ok (record { sum = s i; rest = l i }))
      ∙ rw (limits, sym (ap (ltb most) s) ∙ fits, silent_sum row ∙ sym (ap (λ n. eqb n 0) s) ∙ heard)

pub sound_of_lem : (row : List ℕ) → decay_refusal row ≡ 0 → (slots_outside (length row) ≡ false) × Sound row
unfolding decay_refusal
sound_of_lem row e =
    let (limits, (fits, (heard, _))) = first_none (decay_tests row) refl e in
    let (some, few) = slots_within (length row) limits in
    let loud = eqb-false (sum_of row) 0 (sym (silent_sum row) ∙ heard) in (
      limits,
      record {
        some = some;
        few = few;
        sum_some = by_size (sum_of row) 1 (λ l. absurd (loud (omega arith))) (λ l. l);
        sum_most = ltb-false most (sum_of row) fits;
      },
    )

-- ── what is handed back ──
pub some_number : (refusal : DecayRefusal) → decay_number refusal ≢ 0
some_number BadRow e = omega arith
some_number SumTooLarge e = omega arith
some_number SilentRow e = omega arith
some_number ShortBuffer e = omega arith

abbrev sum_in : Result Total DecayRefusal → ℕ
sum_in (Ok t) = t.sum
sum_in (Err _) = 0

abbrev rest_in : Result Total DecayRefusal → ℕ
rest_in (Ok t) = t.rest
rest_in (Err _) = 0

module _ (row : List ℕ) (slot : ℕ) where
  -- which of the tests holds
  number_by : (a b c : Bool) (u : Total)
      → answer_of (cond a (Err BadRow) (cond b (Err SumTooLarge) (cond c (Err SilentRow) (Ok u)))) ≡ first_of ((13, a) ∷ (15, b) ∷ (17, c) ∷ [])
  number_by true b c u = refl
  number_by false true c u = refl
  number_by false false true u = refl
  number_by false false false u = refl

  pub number_is : (outcome : Result Total DecayRefusal) → outcome ≡ total_of row slot → answer_of outcome ≡ decay_refusal row
  unfolding decay_refusal
  number_is outcome e =
      ap answer_of e
      ∙ number_by (slots_outside (length row)) (too_large_sum row) (silent row) (record { sum = sum_of row; rest = rest row slot })

  -- ── number, sum and rest of any row ──
  pub totals_outside : slots_outside (length row) ≡ true
      → (13 ≡ answer_of (total_of row slot)) × (◌≡◌ {A = Total} (record { sum = 0; rest = 0 }) (totals row slot))
  totals_outside out = (sym (number_is (total_of row slot) refl ∙ refusal_outside row out), rw out)

  pub totals_is : (number sum left : ℕ) → slots_outside (length row) ≡ false → number ≡ sum_refusal sum → sum ≡ sum_of row → left ≡ rest row slot
      → (number ≡ answer_of (total_of row slot)) × (◌≡◌ {A = Total} (record { sum = sum; rest = left }) (totals row slot))
  totals_is number sum left limits n s l = (
    n ∙ ap sum_refusal s ∙ sym (number_is (total_of row slot) refl ∙ refusal_by_sum row limits),
    (λ i. record { sum = s i; rest = l i }) ∙ rw limits,
  )

  pub totals_sum : (t : Total) → t ≡ totals row slot → slots_outside (length row) ≡ false → t.sum ≡ sum_of row
  totals_sum t e limits = ap (λ (u : Total). u.sum) e ∙ rw limits

  pub totals_left : (t : Total) → t ≡ totals row slot → slots_outside (length row) ≡ false → t.rest ≡ rest row slot
  totals_left t e limits = ap (λ (u : Total). u.rest) e ∙ rw limits

  pub when_refused : (refusal : DecayRefusal) → Err refusal ≡ total_of row slot → (v : ℕ)
      → measured_of (Err refusal) ≡ measured (decay_refusal row) v
  when_refused refusal e v =
      (λ i. record { number = number_is (Err refusal) e i; value = 0 })
      ∙ rw (ne_eqb (decay_refusal row) 0 (λ z. some_number refusal (number_is (Err refusal) e ∙ z)))

  sound_is : decay_refusal row ≡ 0 → total_of row slot ≡ Ok (record { sum = sum_of row; rest = rest row slot })
  unfolding decay_refusal
  sound_is none = let (limits, (fits, (heard, _))) = first_none (decay_tests row) refl none in rw (limits, fits, heard)

  module _ (t : Total) (e : Ok t ≡ total_of row slot) where
    none : decay_refusal row ≡ 0
    none = sym (number_is (Ok t) e)

    pub sum_is : t.sum ≡ sum_of row
    sum_is = ap sum_in (e ∙ sound_is none)

    pub rest_is : t.rest ≡ rest row slot
    rest_is = ap rest_in (e ∙ sound_is none)

    pub is_sound : Sound row
    is_sound = (sound_of_lem row none).1

    pub when_measured : (x v : ℕ) → x ≡ v → measured_of (Ok x) ≡ measured (decay_refusal row) v
    when_measured x v q = (λ i. record { number = 0; value = q i }) ∙ rw none
