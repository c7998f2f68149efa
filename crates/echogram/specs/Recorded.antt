-- What one recording does, and clearing.
--     Limits                                 and what a row and a slot length
--     Accepted                               what a recording that is not refused may count on
-- Assumes nothing.
use Rattle.std.specs.Prelude.{◌≡◌, List, false, ℕ, ◌+◌, ◌≤◌, ◌<◌, length}
use Rattle.echogram.specs.Row.{Recording, slot_of, outside, sum_of, most}

-- the number of slots and the slot length within their limits
pub record Limits (slot_length slots : ℕ) : Type 0 where
  pub a_slot : 1 ≤ slots
  pub slots_most : slots ≤ 16384
  pub a_sample : 1 ≤ slot_length
  pub samples_most : slot_length ≤ 4800

pub record Accepted (row : List ℕ) (r : Recording) : Type 0 where
  pub limits : outside r.slot_length (length row) ≡ false
  pub slot : slot_of r < length row
  pub sum : sum_of row + r.energy ≤ most
