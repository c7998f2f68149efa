-- The first slots at which so little is left: that there are such slots.
--     crosses                                a test holds of a slot and of none before it; so of the first, if it holds where nothing is left
--     early_crosses, square_crosses          so of the slots of early decay and of T20
--     t20_rises                              the slot at which less is left comes no earlier, so that the difference of T20 is never negative
-- Assumes nothing.
use Rattle.std.specs.Prelude.{◌≡◌, List, Bool, true, ℕ, ◌*◌, ◌≤◌, length}
use Rattle.std.proofs.Common.{ap, ◌∙◌, mul-zero, arith, leb-true, le-leb}
use Rattle.laws.specs.Tests.{by_size}
use Rattle.laws.proofs.Searching.{first_holds, first_not_before, first_wider}
use Rattle.decay.specs.Decay.{rest, first, early_fallen, square_fallen}
use Rattle.decay.proofs.Rest.{rest_past}
use Rattle.decay.specs.Crossings.{Crosses}

pub crosses : (row : List ℕ) (test : ℕ → Bool) → ((k : ℕ) → rest row k ≡ 0 → test k ≡ true) → Crosses test (first row test)
crosses row test silence = (
  by_size (first row test) (length row) (first_holds (length row) test) (λ past. silence (first row test) (rest_past row (first row test) past)),
  first_not_before (length row) test,
)

pub early_crosses : (row : List ℕ) → Crosses (early_fallen row) (first row (early_fallen row))
early_crosses row = crosses row (early_fallen row) (λ k z. le-leb (10 * rest row k) (rest row 0) (omega arith))

pub square_crosses : (c : ℕ) (row : List ℕ) → Crosses (square_fallen c row) (first row (square_fallen c row))
square_crosses c row =
    crosses row (square_fallen c row)
    (λ k z. le-leb (c * (rest row k * rest row k)) (rest row 0 * rest row 0)
    (let none : c * (rest row k * rest row k) ≡ 0 = ap (λ x. c * (x * x)) z ∙ mul-zero c in omega arith))

pub t20_rises : (row : List ℕ) → first row (square_fallen 10 row) ≤ first row (square_fallen 100000 row)
t20_rises row =
    first_wider (length row) (square_fallen 10 row) (square_fallen 100000 row)
    (λ k e. le-leb (10 * (rest row k * rest row k)) (rest row 0 * rest row 0)
    (omega (arith, leb-true (100000 * (rest row k * rest row k)) (rest row 0 * rest row 0) e)))
