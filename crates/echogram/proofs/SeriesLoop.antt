-- The loop over a series: what it has made of row and answers after i recordings, with the headroom that the row's sum leaves beside them.
--     along_none         before the first
--     grid_serves        the grid stays the row's
--     next_headroom      the headroom goes on with what is left of it
--     within_headroom    what was recorded was below it
--     along_more         one more
--     along_all          after all of them
-- Assumes nothing.
use Rattle.std.specs.Prelude.{◌≡◌, refl, List, ◌++◌, false, ◌≢◌, ◌⊎◌, ℕ, ◌+◌, ◌-◌, ◌<◌, length, set, drop}
use Rattle.std.proofs.Common.{sym, ap, ◌∙◌, append-nil, inl, inr, add-one, arith, length-set}
use Rattle.std.proofs.Math.Path.{subst⁻¹}
use Rattle.std.proofs.Math.Seq.{drop-length}
use Rattle.laws.specs.Lists.{words_from}
use Rattle.laws.specs.Storing.{words_none, words_more}
use Rattle.echogram.specs.Row.{Recording, outside, record_answer, recorded, row_after, answer_at}
use Rattle.echogram.specs.declared.grid.Grid.{Grid}
use Rattle.echogram.specs.AtSlot.{headroom_of}
use Rattle.echogram.specs.Grid.{grid_of}
use Rattle.echogram.proofs.Recorded.{record_accepted, sum_gains, sum_kept, recorded_length}
use Rattle.echogram.specs.SeriesLoop.{Along}

pub along_none : (row₀ answers₀ : List ℕ) (rs : ℕ → Recording) (free : ℕ) → free ≡ headroom_of row₀ → Along row₀ answers₀ rs 0 row₀ answers₀ free
along_none row₀ answers₀ rs free e =
    record { slots = refl; size = refl; headroom = e; done = refl; answered = words_none (answer_at row₀ rs) answers₀ }

-- the grid of the row serves for what the recordings make of it
pub grid_serves : (g : Grid) (slot_length : ℕ) (row₀ row : List ℕ) → g ≡ grid_of slot_length (length row₀) → length row ≡ length row₀
    → outside slot_length (length row₀) ≡ false → (outside g.samples (length row) ≡ false) × (g ≡ grid_of g.samples (length row))
grid_serves g slot_length row₀ row e slots limits =
    subst⁻¹ (λ (h : Grid). (outside h.samples (length row) ≡ false) × (h ≡ grid_of h.samples (length row))) e
    (ap (outside slot_length) slots ∙ limits, ap (grid_of slot_length) (sym slots))

-- the headroom that the loop goes on with: less the energy, or as it was
pub next_headroom : (row : List ℕ) (r : Recording) (free next answer : ℕ) → free ≡ headroom_of row → answer ≡ record_answer row r
    → ((answer ≡ 0) × (next ≡ free - r.energy)) ⊎ ((answer ≢ 0) × (next ≡ free)) → next ≡ headroom_of (recorded row r)
unfolding headroom_of
next_headroom row r free next answer e a (inl (z, n)) = omega (arith, sum_gains row r (sym a ∙ z))
next_headroom row r free next answer e a (inr (z, n)) = omega (arith, sum_kept row r (λ q. z (a ∙ q)))

-- and an energy that was recorded was below it
pub within_headroom : (row : List ℕ) (r : Recording) → record_answer row r ≡ 0 → r.energy < headroom_of row
unfolding headroom_of
within_headroom row r e = omega (arith, (record_accepted row r e).sum)

pub along_more : {row₀ answers₀ : List ℕ} {rs : ℕ → Recording} {i : ℕ} {row answers : List ℕ} {free : ℕ}
    → Along row₀ answers₀ rs i row answers free → i < length answers₀
    → (answer : ℕ) → answer ≡ record_answer row (rs i)
    → (left : List ℕ) → left ≡ recorded row (rs i)
    → (next : ℕ) → next ≡ headroom_of (recorded row (rs i))
    → Along row₀ answers₀ rs (i + 1) left (set answers i answer) next
along_more {row₀} {answers₀} {rs} {i} {row} {answers} a h answer e left l next n = record {
  slots = ap length l ∙ recorded_length row (rs i) ∙ a.slots;
  size = length-set answers i answer ∙ a.size;
  headroom = n ∙ sym (ap headroom_of l);
  done = l ∙ ap (λ u. recorded u (rs i)) a.done ∙ ap (row_after row₀ rs) (sym (add-one i));
  answered =
      ap (set answers i) (e ∙ ap (λ u. record_answer u (rs i)) a.done)
      ∙ ap (λ u. set u i (answer_at row₀ rs i)) a.answered
      ∙ words_more (answer_at row₀ rs) i answers₀ h;
}

pub along_all : {row₀ answers₀ : List ℕ} {rs : ℕ → Recording} {i : ℕ} {row answers : List ℕ} {free : ℕ} (n : ℕ)
    → Along row₀ answers₀ rs i row answers free → i ≡ n → length answers₀ ≡ n
    → (row ≡ row_after row₀ rs n) × (answers ≡ words_from (answer_at row₀ rs) 0 n)
along_all {row₀} {answers₀} {rs} n a e size = (
  a.done ∙ ap (row_after row₀ rs) e,
  a.answered
      ∙ ap (λ k. words_from (answer_at row₀ rs) 0 k ++ drop k answers₀) e
      ∙ ap (λ k. words_from (answer_at row₀ rs) 0 n ++ drop k answers₀) (sym size)
      ∙ ap (λ (u : List ℕ). words_from (answer_at row₀ rs) 0 n ++ u) (drop-length answers₀)
      ∙ append-nil (words_from (answer_at row₀ rs) 0 n),
)
