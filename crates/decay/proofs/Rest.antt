-- What is left from a slot on.
--     sum_parts                  a row's sum by two parts; by its first slot it is echogram/RowSum
--     rest_all                   from slot 0 on it is the sum
--     rest_past                  past the last slot it is 0
--     rest_next                  a slot has what is behind it, and itself
--     rest_in_sum                it is never above the sum
--     silent_sum                 every slot is zero where the sum is 0, and nowhere else
-- Assumes nothing.
use Rattle.std.specs.Prelude.{◌≡◌, List, [], ◌∷◌, Bool, true, false, ℕ, zero, suc, ◌+◌, ◌≤◌, ◌<◌, eqb, length, get_or, take, drop}
use Rattle.std.proofs.Math.Path.{refl, ap}
use Rattle.std.proofs.Common.{◌∙◌, arith, drop_of_length-le, drop-cons, eqb-true, eq-eqb}
use Rattle.std.proofs.lemmas.Bool.{eqb-false}
use Rattle.laws.specs.Tests.{is_false}
use Rattle.laws.proofs.Counting.{every_at, every_all, tally_none}
use Rattle.echogram.specs.Row.{sum_of}
use Rattle.echogram.proofs.RowSum.{sum_first}
use Rattle.echogram.proofs.AtSlot.{slot_in_sum}
use Rattle.decay.specs.Decay.{rest, silent}

sum_none : sum_of [] ≡ 0
unfolding sum_of
sum_none = refl

pub sum_parts : (row : List ℕ) (k : ℕ) → sum_of row ≡ sum_of (take k row) + sum_of (drop k row)
sum_parts row zero = omega (arith, sum_none)
sum_parts [] (suc k) = omega (arith, sum_none)
sum_parts (x ∷ row) (suc k) = omega (arith, sum_first x row, sum_first x (take k row), sum_parts row k)

module _ (row : List ℕ) where
  pub rest_all : rest row 0 ≡ sum_of row
  unfolding rest
  rest_all = refl

  pub rest_past : (k : ℕ) → length row ≤ k → rest row k ≡ 0
  unfolding rest
  rest_past k past = ap sum_of (drop_of_length-le row past) ∙ sum_none

  pub rest_next : (k : ℕ) → k < length row → rest row k ≡ get_or row k 0 + rest row (suc k)
  unfolding rest
  rest_next k inside = ap sum_of (drop-cons row k 0 inside) ∙ sum_first (get_or row k 0) (drop (suc k) row)

  pub rest_in_sum : (k : ℕ) → rest row k ≤ sum_of row
  unfolding rest
  rest_in_sum k = omega (arith, sum_parts row k)

slots_zero : (row : List ℕ) → sum_of row ≡ 0 → (k : ℕ) → k < length row → eqb (get_or row k 0) 0 ≡ true
slots_zero row z k h = eq-eqb (get_or row k 0) 0 (omega (arith, slot_in_sum row k h))

adds_to_zero : (row : List ℕ) → silent row ≡ true → sum_of row ≡ 0
unfolding sum_of
adds_to_zero row e =
    tally_none (λ v. v) (λ k. get_or row k 0) (length row)
    (λ k h. eqb-true (get_or row k 0) 0 (every_at (λ k. eqb (get_or row k 0) 0) (length row) e k h))

pub silent_sum : (row : List ℕ) → silent row ≡ eqb (sum_of row) 0
silent_sum row = go (eqb (sum_of row) 0) refl
  where
    go : (b : Bool) → eqb (sum_of row) 0 ≡ b → silent row ≡ b
    go true e = every_all (λ k. eqb (get_or row k 0) 0) (length row) (slots_zero row (eqb-true (sum_of row) 0 e))
    go false e = is_false (silent row) (λ s. eqb-false (sum_of row) 0 e (adds_to_zero row s))
