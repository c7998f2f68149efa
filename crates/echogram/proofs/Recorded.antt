-- What one recording does, and clearing.
--     record_lowest, answer_small            what is answered is the lowest number that applies; it is at most 15
--     clear_lowest                           of clearing, too, it is the lowest
--     slots_within                           what a number of slots that is not outside its limits may count on,
--     limits_of                              and what a row and a slot length
--     record_accepted                        what a recording that is not refused may count on
--     refused_unchanged                      refused, the row is unchanged
--     slot_gains, others_unchanged           the slot gains the energy; every other slot is unchanged, refused or not
--     recorded_length                        the row has as many slots as before
--     clear_refused, cleared_length          the same of clearing
--     sum_gains, sum_kept                    the sum gains the energy; refused, nothing
--     sum_cleared                            a cleared row has the sum 0
--     refused_13, by_its_slot, slot_left     which answer: outside the limits 13; within them what the slot decides, and the row
--     refused_14                             the slot past the row
--     full_refused                           where the sum is already above 2^32 − 1 it is 15, even for energy 0
--     clear_13, when_cleared                 which answer of clearing, and the row
--     slots_fit                              slots of 32 bits stay slots of 32 bits
-- Assumes nothing.
use Rattle.std.specs.Prelude.{◌≡◌, refl, List, [], ◌∷◌, true, false, ◌||◌, ◌≢◌, ℕ, ◌+◌, ◌≤◌, ◌<◌, eqb, leb, ltb, length, get_or, replicate}
use Rattle.std.proofs.Common.{ap, ◌∙◌, arith, length-set, get_or-set_same, get_or-set_other, leb-true, leb-false, ltb-false, ne_eqb}
use Rattle.std.proofs.Math.Decide.{ℕ_discrete}
use Rattle.std.proofs.lemmas.List.{length-replicate, get_or-replicate}
use Rattle.laws.specs.Tests.{neither, by_test}
use Rattle.laws.proofs.Counting.{tally_none}
use Rattle.laws.specs.FirstOf.{first_of, Lowest, lowest_of, first_none, first_has}
use Rattle.echogram.specs.Row.{Recording, slot_of, slots_outside, outside, added, sum_of, most, record_tests, record_answer, recorded, clear_answer, cleared}
use Rattle.echogram.specs.AtSlot.{headroom_of, add_answer, added_to}
use Rattle.echogram.proofs.AtSlot.{slot_in_sum, add_past, add_large, sum_added}
use Rattle.echogram.specs.Recorded.{Limits, Accepted}

-- ── refusals ──
pub record_lowest : (row : List ℕ) (r : Recording) → Lowest (record_answer row r) (record_tests row r)
unfolding record_answer
record_lowest row r = lowest_of (record_tests row r) refl

pub answer_small : (row : List ℕ) (r : Recording) → record_answer row r ≤ 15
unfolding record_answer
answer_small row r = leb-true (first_of (record_tests row r)) 15 (first_has (λ k. leb k 15) (record_tests row r) refl refl)

pub clear_lowest : (slot_length : ℕ) (row : List ℕ) → Lowest (clear_answer slot_length row) ((13, outside slot_length (length row)) ∷ [])
unfolding clear_answer
clear_lowest slot_length row = lowest_of ((13, outside slot_length (length row)) ∷ []) refl

pub slots_within : (slots : ℕ) → slots_outside slots ≡ false → (1 ≤ slots) × (slots ≤ 16384)
slots_within slots limits =
    let (a, b) = neither (ltb slots 1) (ltb 16384 slots) limits in (ltb-false slots 1 a, ltb-false 16384 slots b)

pub limits_of : (slot_length slots : ℕ) → outside slot_length slots ≡ false → Limits slot_length slots
limits_of slot_length slots e =
    let (abc, d) = neither (slots_outside slots || ltb slot_length 1) (ltb 4800 slot_length) e in
    let (ab, c) = neither (slots_outside slots) (ltb slot_length 1) abc in
    let (some, few) = slots_within slots ab in
    record {
      a_slot = some;
      slots_most = few;
      a_sample = ltb-false slot_length 1 c;
      samples_most = ltb-false 4800 slot_length d;
    }

pub record_accepted : (row : List ℕ) (r : Recording) → record_answer row r ≡ 0 → Accepted row r
unfolding record_answer
record_accepted row r e =
    let (a, (b, (c, d))) = first_none (record_tests row r) refl e in
    record {
      limits = a;
      slot = leb-false (length row) (slot_of r) b;
      sum = ltb-false most (sum_of row + r.energy) (neither (ltb most (get_or row (slot_of r) 0 + r.energy)) (ltb most (sum_of row + r.energy)) c).1;
    }

-- ── the row ──
when_recorded : (row : List ℕ) (r : Recording) → record_answer row r ≡ 0 → recorded row r ≡ added row (slot_of r) r.energy
unfolding recorded
when_recorded row r e = rw e

pub refused_unchanged : (row : List ℕ) (r : Recording) → record_answer row r ≢ 0 → recorded row r ≡ row
unfolding recorded
refused_unchanged row r n = rw (ne_eqb (record_answer row r) 0 n)

pub slot_gains : (row : List ℕ) (r : Recording) → record_answer row r ≡ 0 → get_or (recorded row r) (slot_of r) 0 ≡ get_or row (slot_of r) 0 + r.energy
slot_gains row r e =
    ap (λ u. get_or u (slot_of r) 0) (when_recorded row r e)
    ∙ get_or-set_same row (slot_of r) (get_or row (slot_of r) 0 + r.energy) 0 (record_accepted row r e).slot

pub others_unchanged : (row : List ℕ) (r : Recording) (k : ℕ) → k ≢ slot_of r → get_or (recorded row r) k 0 ≡ get_or row k 0
unfolding recorded
others_unchanged row r k n =
    by_test (λ u. get_or u k 0 ≡ get_or row k 0) (eqb (record_answer row r) 0)
    (λ _. get_or-set_other row (slot_of r) k (get_or row (slot_of r) 0 + r.energy) 0 n) (λ _. refl)

pub recorded_length : (row : List ℕ) (r : Recording) → length (recorded row r) ≡ length row
unfolding recorded
recorded_length row r =
    by_test (λ (u : List ℕ). length u ≡ length row) (eqb (record_answer row r) 0)
    (λ _. length-set row (slot_of r) (get_or row (slot_of r) 0 + r.energy)) (λ _. refl)

pub clear_refused : (slot_length : ℕ) (row : List ℕ) → clear_answer slot_length row ≢ 0 → cleared slot_length row ≡ row
unfolding cleared
clear_refused slot_length row n = rw (ne_eqb (clear_answer slot_length row) 0 n)

pub cleared_length : (slot_length : ℕ) (row : List ℕ) → length (cleared slot_length row) ≡ length row
unfolding cleared
cleared_length slot_length row =
    by_test (λ (u : List ℕ). length u ≡ length row) (eqb (clear_answer slot_length row) 0) (λ _. length-replicate {A = ℕ} (length row) 0) (λ _. refl)

-- ── the sum ──
pub sum_gains : (row : List ℕ) (r : Recording) → record_answer row r ≡ 0 → sum_of (recorded row r) ≡ sum_of row + r.energy
sum_gains row r e = ap sum_of (when_recorded row r e) ∙ sum_added row (slot_of r) r.energy (record_accepted row r e).slot

pub sum_kept : (row : List ℕ) (r : Recording) → record_answer row r ≢ 0 → sum_of (recorded row r) ≡ sum_of row
sum_kept row r n = ap sum_of (refused_unchanged row r n)

pub sum_cleared : (slot_length : ℕ) (row : List ℕ) → clear_answer slot_length row ≡ 0 → sum_of (cleared slot_length row) ≡ 0
unfolding sum_of cleared
sum_cleared slot_length row e =
    rw e
    (tally_none (λ v. v) (λ k. get_or (replicate (length row) 0) k 0) (length (replicate (length row) 0))
    (λ j h. get_or-replicate (length row) j 0 0 (omega (arith, length-replicate {A = ℕ} (length row) 0))))

-- ── which answer ──
module _ (row : List ℕ) (r : Recording) where
  pub refused_13 : outside r.slot_length (length row) ≡ true → (record_answer row r ≡ 13) × (recorded row r ≡ row)
  unfolding record_answer recorded
  refused_13 out = (rw out, rw out)

  pub by_its_slot : outside r.slot_length (length row) ≡ false → record_answer row r ≡ add_answer row (slot_of r) r.energy
  unfolding record_answer add_answer
  by_its_slot limits = rw limits

  pub slot_left : outside r.slot_length (length row) ≡ false → recorded row r ≡ added_to row (slot_of r) r.energy
  unfolding recorded added_to
  slot_left limits = rw (by_its_slot limits)

  pub refused_14 : outside r.slot_length (length row) ≡ false → length row ≤ slot_of r → (record_answer row r ≡ 14) × (recorded row r ≡ row)
  refused_14 limits past = let (answer, left) = add_past row (slot_of r) r.energy past in (by_its_slot limits ∙ answer, slot_left limits ∙ left)

  pub full_refused : outside r.slot_length (length row) ≡ false → slot_of r < length row → most < sum_of row → record_answer row r ≡ 15
  unfolding headroom_of
  full_refused limits slot full = by_its_slot limits ∙ (add_large row (slot_of r) r.energy slot (omega arith)).0

pub clear_13 : (slot_length : ℕ) (row : List ℕ) → outside slot_length (length row) ≡ true
    → (clear_answer slot_length row ≡ 13) × (cleared slot_length row ≡ row)
unfolding clear_answer cleared
clear_13 slot_length row out = (rw out, rw out)

pub when_cleared : (slot_length : ℕ) (row : List ℕ) → outside slot_length (length row) ≡ false
    → (clear_answer slot_length row ≡ 0) × (cleared slot_length row ≡ replicate (length row) 0)
unfolding clear_answer cleared
when_cleared slot_length row limits = (rw limits, rw limits)

-- ── 32 bits ──
pub slots_fit : (row : List ℕ) (r : Recording) → ((k : ℕ) → get_or row k 0 ≤ most) → (k : ℕ) → get_or (recorded row r) k 0 ≤ most
slots_fit row r fit k = go (ℕ_discrete (record_answer row r) 0) (ℕ_discrete k (slot_of r))
  where
    go : Dec (record_answer row r ≡ 0) → Dec (k ≡ slot_of r) → get_or (recorded row r) k 0 ≤ most
    go (no n) _ = rw (refused_unchanged row r n) (fit k)
    go (yes e) (no n) = rw (others_unchanged row r k n) (fit k)
    go (yes e) (yes q) =
        let a = record_accepted row r e in
        rw (q, slot_gains row r e) (omega (arith, a.sum, slot_in_sum row (slot_of r) a.slot))
