-- The echogram: a row of slots, what a recording does to it and what refuses it, in the words and the order of Q-2.
--     Recording, slot_of                      what a recording is handed; the slot that it belongs to
--     slots_outside, outside                  13: the row or the slot length outside its limits
--     added                                  the row with an energy added to one slot
--     past_row, sum_of, most, too_large         14: the slot past the row; 15: the slot or the whole sum above 2^32 − 1
--     slot_tests, record_tests                 the refusals in their order
--     record_answer, recorded                 the answer, and the row that a recording leaves
--     clear_answer, cleared                   the answer, and the row that clearing leaves
--     row_after, answer_at                     recordings one after the other: the row that the first n leave, and the answer to the next
--     energy_at                               the energy that the next one adds: all of it, or refused none
-- Assumes nothing.
use Rattle.std.specs.Prelude.{List, [], ◌∷◌, Bool, cond, ◌||◌, ℕ, zero, suc, ◌+◌, ◌/◌, eqb, leb, ltb, length, get_or, set, replicate}
use Rattle.laws.specs.Counting.{sum}
use Rattle.laws.specs.FirstOf.{first_of}

-- how many samples a slot has, and an arrival's time and energy
pub record Recording : Type 0 where
  pub slot_length : ℕ
  pub time : ℕ
  pub energy : ℕ

-- time / slot length, rounded down
abbrev pub slot_of : Recording → ℕ
slot_of r = r.time / r.slot_length

-- a row has 1 to 16,384 slots,
abbrev pub slots_outside : ℕ → Bool
slots_outside slots = ltb slots 1 || ltb 16384 slots

-- and a slot 1 to 4,800 samples
abbrev pub outside : ℕ → ℕ → Bool
outside slot_length slots = slots_outside slots || ltb slot_length 1 || ltb 4800 slot_length

-- slot k gains e, every other slot is unchanged
abbrev pub added : List ℕ → ℕ → ℕ → List ℕ
added row k e = set row k (get_or row k 0 + e)

abbrev pub past_row : List ℕ → ℕ → Bool
past_row row k = leb (length row) k

-- the sum of the slots
unfoldable pub sum_of : List ℕ → ℕ
sum_of row = sum (λ k. get_or row k 0) (length row)

abbrev pub most : ℕ
most = 4294967295

-- slot k, or the whole sum, would pass 2^32 − 1 with e
abbrev pub too_large : List ℕ → ℕ → ℕ → Bool
too_large row k e = ltb most (get_or row k 0 + e) || ltb most (sum_of row + e)

-- 14 and 15, of slot k and energy e; 13 comes before them
abbrev pub slot_tests : List ℕ → ℕ → ℕ → List (ℕ × Bool)
slot_tests row k e = (14, past_row row k) ∷ (15, too_large row k e) ∷ []

abbrev pub record_tests : List ℕ → Recording → List (ℕ × Bool)
record_tests row r = (13, outside r.slot_length (length row)) ∷ slot_tests row (slot_of r) r.energy

-- 0, or the number of the refusal
unfoldable pub record_answer : List ℕ → Recording → ℕ
record_answer row r = first_of (record_tests row r)

-- refused, the row is unchanged
unfoldable pub recorded : List ℕ → Recording → List ℕ
recorded row r = cond (eqb (record_answer row r) 0) (added row (slot_of r) r.energy) row

unfoldable pub clear_answer : ℕ → List ℕ → ℕ
clear_answer slot_length row = first_of ((13, outside slot_length (length row)) ∷ [])

unfoldable pub cleared : ℕ → List ℕ → List ℕ
cleared slot_length row = cond (eqb (clear_answer slot_length row) 0) (replicate (length row) 0) row

-- each recording is handed the row that the last one left
abbrev pub row_after : List ℕ → (ℕ → Recording) → ℕ → List ℕ
row_after row rs zero = row
row_after row rs (suc n) = recorded (row_after row rs n) (rs n)

abbrev pub answer_at : List ℕ → (ℕ → Recording) → ℕ → ℕ
answer_at row rs n = record_answer (row_after row rs n) (rs n)

-- the energy of recording n, where it is not refused
abbrev pub energy_at : List ℕ → (ℕ → Recording) → ℕ → ℕ
energy_at row rs n = cond (eqb (answer_at row rs n) 0) (rs n).energy 0
