-- What a series does as a whole: what refuses it, and that otherwise it is its recordings one by one.
--     one_length                             what is not uneven has one length
--     series_lowest                          what is answered is the lowest number that applies
--     series_refused                         refused, answers and row are unchanged
--     series_2, series_13, series_0          which answer: the slices have not one length; row or slot length outside its limits; neither
--     one_by_one                             not refused, it is its recordings one by one
--     answer_to                              the answer to each
--     series_conserved                       the sum of the slots gains the energies of those not refused
-- Assumes nothing.
use Rattle.std.specs.Prelude.{◌≡◌, List, true, false, not, ◌≢◌, ℕ, ◌+◌, ◌<◌, length, get_or, eqb}
use Rattle.std.proofs.Math.Path.{refl}
use Rattle.std.proofs.Common.{ap, ◌∙◌, arith}
use borrow.Author.Tests.{eqb-true, ne_eqb, not-false}
use Rattle.laws.specs.Tests.{neither}
use Rattle.laws.specs.Lists.{words_from, words_at}
use Rattle.laws.specs.Counting.{sum}
use Rattle.laws.specs.FirstOf.{Lowest, lowest_of}
use Rattle.echogram.specs.Row.{outside, sum_of, row_after, answer_at, energy_at}
use Rattle.echogram.specs.Series.{in_series, uneven, series_tests, series_refusal, SeriesEnd, series}
use Rattle.echogram.proofs.Conserved.{conserved}

pub one_length : (times energies answers : List ℕ) → uneven times energies answers ≡ false
    → (length energies ≡ length times) × (length answers ≡ length times)
one_length times energies answers e =
    let (a, b) = neither (not (eqb (length energies) (length times))) (not (eqb (length answers) (length times))) e in
    (eqb-true (length energies) (length times) (not-false _ a), eqb-true (length answers) (length times) (not-false _ b))

module _ (slot_length : ℕ) (times energies answers row : List ℕ) where
  pub series_lowest : Lowest (series_refusal slot_length times energies answers row) (series_tests slot_length times energies answers row)
  unfolding series_refusal
  series_lowest = lowest_of (series_tests slot_length times energies answers row) refl

  pub series_refused : (k : ℕ) → k ≢ 0 → series_refusal slot_length times energies answers row ≡ k
      → series slot_length times energies answers row ≡ record { answer = k; answers = answers; row = row }
  unfolding series
  series_refused k some e = rw (e, ne_eqb k 0 some)

  pub series_2 : uneven times energies answers ≡ true → series_refusal slot_length times energies answers row ≡ 2
  unfolding series_refusal
  series_2 e = rw e

  pub series_13 : uneven times energies answers ≡ false → outside slot_length (length row) ≡ true → series_refusal slot_length times energies answers row ≡ 13
  unfolding series_refusal
  series_13 e out = rw (e, out)

  pub series_0 : uneven times energies answers ≡ false → outside slot_length (length row) ≡ false → series_refusal slot_length times energies answers row ≡ 0
  unfolding series_refusal
  series_0 e limits = rw (e, limits)

  pub one_by_one : series_refusal slot_length times energies answers row ≡ 0 → series slot_length times energies answers row ≡ record {
    answer = 0;
    answers = words_from (answer_at row (in_series slot_length times energies)) 0 (length times);
    row = row_after row (in_series slot_length times energies) (length times);
  }
  unfolding series
  one_by_one e = rw e

  pub answer_to : series_refusal slot_length times energies answers row ≡ 0 → (k : ℕ) → k < length times
      → get_or (series slot_length times energies answers row).answers k 0 ≡ answer_at row (in_series slot_length times energies) k
  answer_to e k h =
      ap (λ (u : SeriesEnd). get_or u.answers k 0) (one_by_one e)
      ∙ words_at (answer_at row (in_series slot_length times energies)) 0 (length times) k h
      ∙ (let z : 0 + k ≡ k = omega arith in ap (answer_at row (in_series slot_length times energies)) z)

  pub series_conserved : series_refusal slot_length times energies answers row ≡ 0
      → sum_of (series slot_length times energies answers row).row ≡ sum_of row + sum (energy_at row (in_series slot_length times energies)) (length times)
  series_conserved e = ap (λ (u : SeriesEnd). sum_of u.row) (one_by_one e) ∙ conserved row (in_series slot_length times energies) (length times)
