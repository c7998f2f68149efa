-- A row's sum with what refuses it, and what is left from a slot on, in one pass.
--     sum_refusal                 15 and 17, by the sum
--     totals                      its sum and what is left, refused or not
--     total_of                    what refuses it, or both
--     cut_at                      where a row is cut in two; no further than its end
--     Sound                          what a row that is not refused may count on
-- Assumes nothing.
use Rattle.std.specs.Prelude.{List, [], ◌∷◌, cond, ℕ, ◌≤◌, eqb, ltb, length, Result, Ok, Err}
use Rattle.laws.specs.FirstOf.{first_of}
use Rattle.echogram.specs.Row.{slots_outside, sum_of, most}
use Rattle.decay.specs.Decay.{rest, too_large_sum, silent}
use Rattle.decay.specs.declared.total.Total.{Total}
use Rattle.decay.specs.declared.refusal.DecayRefusal.{DecayRefusal}
use Rattle.decay.specs.declared.refusal.DecayRefusal.TheVariants.{BadRow, SumTooLarge, SilentRow}

unfoldable pub sum_refusal : ℕ → ℕ
sum_refusal sum = first_of ((15, ltb most sum) ∷ (17, eqb sum 0) ∷ [])

-- 0 and 0 outside the limits
abbrev pub totals : List ℕ → ℕ → Total
totals row k = record {
  sum = cond (slots_outside (length row)) 0 (sum_of row);
  rest = cond (slots_outside (length row)) 0 (rest row k);
}

abbrev pub total_of : List ℕ → ℕ → Result Total DecayRefusal
total_of row k =
    cond (slots_outside (length row)) (Err BadRow)
    (cond (too_large_sum row) (Err SumTooLarge) (cond (silent row) (Err SilentRow) (Ok (record { sum = sum_of row; rest = rest row k }))))

-- ── one pass ──
abbrev pub cut_at : ℕ → ℕ → ℕ
cut_at slot slots = cond (ltb slot slots) slot slots

-- a row that is not refused
pub record Sound (row : List ℕ) : Type 0 where
  pub some : 1 ≤ length row
  pub few : length row ≤ 16384
  pub sum_some : 1 ≤ sum_of row
  pub sum_most : sum_of row ≤ most
