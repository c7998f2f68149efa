-- An energy added to a slot, once row and slot length are within their limits: what is left of a recording when its slot is known.
--     slot_in_sum                            no slot is above the sum,
--     sum_decides                            so that of 15 the sum decides
--     add_past, add_large, add_fits          which answer: 14, 15, none; and the row
--     slot_fits                              an energy that fits the headroom fits the slot
--     sum_added                              the sum gains what a slot gains
-- Assumes nothing.
use Rattle.std.specs.Prelude.{◌≡◌, refl, List, Bool, true, false, ◌||◌, ℕ, ◌+◌, ◌≤◌, ◌<◌, ltb, length}
use Rattle.std.proofs.Common.{sym, ◌∙◌, arith, length-set}
use Rattle.std.proofs.Math.Path.{ap}
use Rattle.std.proofs.Math.ListN.{get_or}
use borrow.Author.Tests.{ltb-true, lt-ltb, le-ltb, le-leb, lt-leb}
use Rattle.laws.specs.Counting.{sum}
use Rattle.laws.proofs.Counting.{sum_at, sum_set}
use Rattle.echogram.specs.Row.{added, sum_of, most, too_large}
use Rattle.echogram.specs.AtSlot.{headroom_of, add_answer, added_to}

pub slot_in_sum : (row : List ℕ) (k : ℕ) → k < length row → get_or row k 0 ≤ sum_of row
unfolding sum_of
slot_in_sum row k h = sum_at (λ j. get_or row j 0) (length row) k h

pub sum_decides : (row : List ℕ) (k e : ℕ) → k < length row → too_large row k e ≡ ltb most (sum_of row + e)
sum_decides row k e h = go (ltb most (get_or row k 0 + e)) refl
  where
    go : (b : Bool) → ltb most (get_or row k 0 + e) ≡ b → (b || ltb most (sum_of row + e)) ≡ ltb most (sum_of row + e)
    go true q = sym (lt-ltb most (sum_of row + e) (omega (arith, ltb-true most (get_or row k 0 + e) q, slot_in_sum row k h)))
    go false q = refl

module _ (row : List ℕ) (k e : ℕ) where
  pub add_past : length row ≤ k → (add_answer row k e ≡ 14) × (added_to row k e ≡ row)
  unfolding add_answer added_to
  add_past past = (rw (le-leb (length row) k past), rw (le-leb (length row) k past))

  pub add_large : k < length row → headroom_of row ≤ e → (add_answer row k e ≡ 15) × (added_to row k e ≡ row)
  unfolding headroom_of add_answer added_to
  add_large slot more =
      let a = lt-leb (length row) k slot in
      let b = sum_decides row k e slot ∙ lt-ltb most (sum_of row + e) (omega arith) in
      (rw (a, b), rw (a, b))

  pub add_fits : k < length row → e < headroom_of row → (add_answer row k e ≡ 0) × (added_to row k e ≡ added row k e)
  unfolding headroom_of add_answer added_to
  add_fits slot fits =
      let a = lt-leb (length row) k slot in
      let b = sum_decides row k e slot ∙ le-ltb most (sum_of row + e) (omega arith) in
      (rw (a, b), rw (a, b))

  -- so the slot has headroom, too
  pub slot_fits : k < length row → e < headroom_of row → get_or row k 0 + e ≤ most
  unfolding headroom_of
  slot_fits slot fits = omega (arith, slot_in_sum row k slot)

  pub sum_added : k < length row → sum_of (added row k e) ≡ sum_of row + e
  unfolding sum_of
  sum_added slot =
      ap (sum (λ j. get_or (added row k e) j 0)) (length-set row k (get_or row k 0 + e)) ∙ omega (arith, sum_set row k (get_or row k 0 + e) slot)
