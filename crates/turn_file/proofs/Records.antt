-- The records of a turn file, their marks and their sizes.
-- Assumes nothing.
use Rattle.std.specs.Prelude.{ℕ, ◌<◌, ◌≤◌, eqb}
use Rattle.std.proofs.Common.{arith, eqb-true}
use Rattle.laws.specs.Tests.{by_test, by_size}
use Rattle.turn_file.specs.Records.{OP, PU, TA, TU, size_of}

-- What holds of each mark holds of every number that has a size.
pub by_mark : (P : ℕ → Type 0) → P OP → P PU → P TA → P TU → (mark : ℕ) → 0 < size_of mark → P mark
unfolding size_of
by_mark P op pu ta tu mark =
    by_test (λ n. 0 < n → P mark) (eqb mark OP) (λ e _. rw (eqb-true mark OP e) op) (λ _.
    by_test (λ n. 0 < n → P mark) (eqb mark PU) (λ e _. rw (eqb-true mark PU e) pu) (λ _.
    by_test (λ n. 0 < n → P mark) (eqb mark TA) (λ e _. rw (eqb-true mark TA e) ta) (λ _.
    by_test (λ n. 0 < n → P mark) (eqb mark TU) (λ e _. rw (eqb-true mark TU e) tu) (λ _ h. absurd (omega arith)))))

-- A known mark has at least one field byte, and no record is long.
pub size_least : (mark : ℕ) → 0 < size_of mark → 3 ≤ size_of mark
unfolding size_of
size_least = by_mark (λ mark. 3 ≤ size_of mark) (omega arith) (omega arith) (omega arith) (omega arith)

pub size_most : (mark : ℕ) → size_of mark ≤ 12
unfolding size_of
size_most mark =
    by_size 0 (size_of mark)
    (by_mark (λ mark. size_of mark ≤ 12) (omega arith) (omega arith) (omega arith) (omega arith) mark)
    (λ h. omega arith)
