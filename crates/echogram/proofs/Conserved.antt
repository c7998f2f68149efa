-- Recordings one after the other, refused ones included: the sum of the slots is what was recorded.
--     conserved                              the sum after n recordings is the sum before them and their energies
--     cleared_conserved                      from a cleared row on, the sum of the slots is the sum of the energies
--     after_length                           the row keeps its slots
--     stays_below                            a sum of 32 bits stays one
-- Assumes nothing.
use Rattle.std.specs.Prelude.{◌≡◌, refl, List, cond, ℕ, zero, suc, ◌+◌, ◌≤◌, eqb, length}
use Rattle.std.proofs.Common.{◌∙◌, arith, ne_eqb}
use Rattle.std.proofs.Math.Decide.{ℕ_discrete}
use Rattle.laws.specs.Counting.{sum}
use Rattle.echogram.specs.Row.{Recording, sum_of, most, record_answer, recorded, clear_answer, cleared, row_after, answer_at, energy_at}
use Rattle.echogram.proofs.Recorded.{record_accepted, recorded_length, sum_gains, sum_kept, sum_cleared}

-- one recording more
one_more : (row : List ℕ) (r : Recording) → sum_of (recorded row r) ≡ sum_of row + cond (eqb (record_answer row r) 0) r.energy 0
one_more row r = go (ℕ_discrete (record_answer row r) 0)
  where
    go : Dec (record_answer row r ≡ 0) → sum_of (recorded row r) ≡ sum_of row + cond (eqb (record_answer row r) 0) r.energy 0
    go (yes e) = sum_gains row r e ∙ rw e
    go (no n) = sum_kept row r n ∙ rw (ne_eqb (record_answer row r) 0 n) (omega arith)

pub conserved : (row : List ℕ) (rs : ℕ → Recording) (n : ℕ) → sum_of (row_after row rs n) ≡ sum_of row + sum (energy_at row rs) n
conserved row rs zero = omega arith
conserved row rs (suc n) = omega (arith, one_more (row_after row rs n) (rs n), conserved row rs n)

pub cleared_conserved : (slot_length : ℕ) (row : List ℕ) → clear_answer slot_length row ≡ 0 → (rs : ℕ → Recording) (n : ℕ)
    → sum_of (row_after (cleared slot_length row) rs n) ≡ sum (energy_at (cleared slot_length row) rs) n
cleared_conserved slot_length row e rs n = omega (arith, conserved (cleared slot_length row) rs n, sum_cleared slot_length row e)

pub after_length : (row : List ℕ) (rs : ℕ → Recording) (n : ℕ) → length (row_after row rs n) ≡ length row
after_length row rs zero = refl
after_length row rs (suc n) = recorded_length (row_after row rs n) (rs n) ∙ after_length row rs n

pub stays_below : (row : List ℕ) (rs : ℕ → Recording) (n : ℕ) → sum_of row ≤ most → sum_of (row_after row rs n) ≤ most
stays_below row rs zero h = h
stays_below row rs (suc n) h = go (row_after row rs n) (rs n) (ℕ_discrete (answer_at row rs n) 0) (stays_below row rs n h)
  where
    go : (before : List ℕ) (r : Recording) → Dec (record_answer before r ≡ 0) → sum_of before ≤ most → sum_of (recorded before r) ≤ most
    go before r (yes e) rest = omega (arith, (record_accepted before r e).sum, sum_gains before r e)
    go before r (no u) rest = rw (sum_kept before r u) rest
