-- A row's sum by its slots one after the other.
--     sum_first                  the first slot by itself
--     sum_by_slots               it is the sum of the list
-- Assumes nothing.
use Rattle.std.specs.Prelude.{◌≡◌, refl, List, [], ◌∷◌, ℕ, ◌+◌, length, get_or}
use Rattle.std.specs.List.{sum_by}
use Rattle.std.proofs.Common.{sym, ap, ◌∙◌}
use Rattle.std.proofs.lemmas.List.Sums.{sum_by-cons}
use Rattle.laws.proofs.Counting.{sum_front}
use Rattle.echogram.specs.Row.{sum_of}

pub sum_first : (x : ℕ) (row : List ℕ) → sum_of (x ∷ row) ≡ x + sum_of row
unfolding sum_of
sum_first x row = sum_front (λ k. get_or (x ∷ row) k 0) (length row)

pub sum_by_slots : (row : List ℕ) → sum_by (λ x. x) row ≡ sum_of row
unfolding sum_of
sum_by_slots [] = refl
sum_by_slots (x ∷ row) = sum_by-cons (λ y. y) x row ∙ ap (λ s. x + s) (sum_by_slots row) ∙ sym (sum_first x row)
