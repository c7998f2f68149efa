-- An energy added to a slot, once row and slot length are within their limits: what is left of a recording when its slot is known.
--     headroom_of                             the headroom that the sum leaves
--     add_answer, added_to                     the answer, and the row that is left
-- Assumes nothing.
use Rattle.std.specs.Prelude.{List, cond, ℕ, ◌-◌, eqb}
use Rattle.laws.specs.FirstOf.{first_of}
use Rattle.echogram.specs.Row.{added, sum_of, slot_tests}

-- what energies must stay below to fit: 0 where the sum is already above 2^32 − 1
unfoldable pub headroom_of : List ℕ → ℕ
headroom_of row = 4294967296 - sum_of row

unfoldable pub add_answer : List ℕ → ℕ → ℕ → ℕ
add_answer row k e = first_of (slot_tests row k e)

unfoldable pub added_to : List ℕ → ℕ → ℕ → List ℕ
added_to row k e = cond (eqb (add_answer row k e) 0) (added row k e) row
