-- Tests and counts over the numbers below a bound, and properties of a list's elements by their number.
--     every_none, every_step, every_more     of none; of one more
--     every_at, every_all, every_fails       what it tells of each; what tells it; where one fails
--     every_same                             two tests alike below n
--     count_three                            three tests of which exactly one holds share the numbers out
--     sum_more, sum_front                    of one more; the first by itself
--     sum_same, sum_at, sum_most             two functions alike below n; no number is above the sum; a bound on each bounds it
--     tally_none, tally_with                 a sum of zeros; a sum with another at one number
--     sum_set                                the sum of a list with another element
--     each_of                                a property of each element, by its number; of the one at n
-- Assumes nothing.
use Rattle.std.specs.Prelude.{◌≡◌, refl, List, [], ◌∷◌, Bool, true, false, cond, ◌&&◌, ℕ, zero, suc, ◌+◌, ◌*◌, ◌<◌, ◌≤◌, eqb, length, get_or, set}
use Rattle.std.proofs.Common.{sym, ap, ◌∙◌, subst, ⊎_elim, get_or-set_same, get_or-set_other, eq-eqb, ne_eqb, add-zero, add-suc, suc-add}
use Rattle.std.proofs.Common.{le_of_suc-le-suc, not-suc-le-zero, eq-or-lt_of_le, add-one, arith}
use Rattle.std.proofs.Math.Bool.{and-false}
use Rattle.std.proofs.Math.Decide.{ℕ_discrete}
use Rattle.laws.specs.Tests.{left_true, right_true, upd_same, upd_other}
use Rattle.laws.specs.Counting.{every, sum, tally, count, Each}

pub every_none : (f : ℕ → Bool) → every 0 f ≡ true
unfolding every
every_none f = refl

pub every_step : (f : ℕ → Bool) (i : ℕ) → every (i + 1) f ≡ (every i f && f i)
unfolding every
every_step f i = rw add-one

pub every_more : (f : ℕ → Bool) (i : ℕ) → every i f ≡ true → f i ≡ true → every (i + 1) f ≡ true
every_more f i all here = every_step f i ∙ rw (all, here)

pub every_at : (f : ℕ → Bool) (n : ℕ) → every n f ≡ true → (k : ℕ) → k < n → f k ≡ true
unfolding every
every_at f zero e k h = absurd (not-suc-le-zero h)
every_at f (suc n) e k h =
    ⊎_elim (λ q. rw q (right_true (every n f) (f n) e)) (λ l. every_at f n (left_true (every n f) (f n) e) k l)
    (eq-or-lt_of_le (le_of_suc-le-suc h))

pub every_all : (f : ℕ → Bool) (n : ℕ) → ((k : ℕ) → k < n → f k ≡ true) → every n f ≡ true
unfolding every
every_all f zero h = refl
every_all f (suc n) h = rw (every_all f n (λ k l. h k (omega arith)), h n (omega arith))

pub every_fails : (f : ℕ → Bool) (n k : ℕ) → k < n → f k ≡ false → every n f ≡ false
unfolding every
every_fails f zero k h e = absurd (not-suc-le-zero h)
every_fails f (suc n) k h e =
    ⊎_elim (λ q. rw (← q, e) (and-false (every k f))) (λ l. rw (every_fails f n k l e))
    (eq-or-lt_of_le (le_of_suc-le-suc h))

pub every_same : (f g : ℕ → Bool) (n : ℕ) → ((k : ℕ) → k < n → f k ≡ g k) → every n f ≡ every n g
unfolding every
every_same f g zero h = refl
every_same f g (suc n) h = rw (every_same f g n (λ k l. h k (omega arith)), h n (omega arith))

-- three tests of which exactly one holds everywhere share the numbers out
pub count_three : (n : ℕ) (f g h : ℕ → Bool) → ((k : ℕ) → cond (f k) 1 0 + cond (g k) 1 0 + cond (h k) 1 0 ≡ 1) → count n f + count n g + count n h ≡ n
unfolding count
count_three zero f g h one = refl
count_three (suc n) f g h one = omega (arith, one n, count_three n f g h one)

-- ── sums ──
pub sum_more : (g : ℕ → ℕ) (n : ℕ) → sum g (n + 1) ≡ g n + sum g n
sum_more g n = rw add-one

pub sum_front : (g : ℕ → ℕ) (n : ℕ) → sum g (suc n) ≡ g 0 + sum (λ k. g (suc k)) n
sum_front g zero = refl
sum_front g (suc n) = omega (arith, sum_front g n)

pub sum_same : (f g : ℕ → ℕ) (n : ℕ) → ((k : ℕ) → k < n → f k ≡ g k) → sum f n ≡ sum g n
sum_same f g zero h = refl
sum_same f g (suc n) h = omega (arith, h n (omega arith), sum_same f g n (λ k l. h k (omega arith)))

pub sum_at : (g : ℕ → ℕ) (n k : ℕ) → k < n → g k ≤ sum g n
sum_at g zero k h = absurd (not-suc-le-zero h)
sum_at g (suc n) k h = ⊎_elim (λ q. omega (arith, ap g q)) (λ l. omega (arith, sum_at g n k l)) (eq-or-lt_of_le (le_of_suc-le-suc h))

pub sum_most : (g : ℕ → ℕ) (m n : ℕ) → ((k : ℕ) → k < n → g k ≤ m) → sum g n ≤ m * n
sum_most g m zero h = omega arith
sum_most g m (suc n) h = omega (arith, h n (omega arith), sum_most g m n (λ k l. h k (omega arith)))

pub tally_none : {A : Type 0} (f : A → ℕ) (T : ℕ → A) (n : ℕ) → ((j : ℕ) → j < n → f (T j) ≡ 0) → tally f T n ≡ 0
tally_none f T zero h = refl
tally_none f T (suc n) h = omega (arith, h n (omega arith), tally_none f T n (λ j l. h j (omega arith)))

tally_out : {A : Type 0} (f : A → ℕ) (T : ℕ → A) (i : ℕ) (x : A) (n : ℕ) → n ≤ i → tally f (λ j. cond (eqb i j) x (T j)) n ≡ tally f T n
tally_out f T i x zero h = refl
tally_out f T i x (suc n) h = omega (arith, ap f (upd_other i n x (T n) (λ e. omega arith)), tally_out f T i x n (omega arith))

-- with another at i
pub tally_with : {A : Type 0} (f : A → ℕ) (T : ℕ → A) (i : ℕ) (x : A) (n : ℕ) → i < n
    → tally f (λ j. cond (eqb i j) x (T j)) n + f (T i) ≡ tally f T n + f x
tally_with f T i x zero h = absurd (omega arith)
tally_with f T i x (suc n) h = go (ℕ_discrete i n) (tally_with f T i x n)
  where
    go : Dec (i ≡ n) → (i < n → tally f (λ j. cond (eqb i j) x (T j)) n + f (T i) ≡ tally f T n + f x)
        → f (cond (eqb i n) x (T n)) + tally f (λ j. cond (eqb i j) x (T j)) n + f (T i) ≡ f (T n) + tally f T n + f x
    go (yes e) ih = omega (arith, ap f (upd_same i n x (T n) e), tally_out f T i x n (omega arith), ap (λ j. f (T j)) e)
    go (no u) ih = omega (arith, ap f (upd_other i n x (T n) u), ih (omega arith))

pub sum_set : (xs : List ℕ) (i x : ℕ) → i < length xs → sum (λ k. get_or (set xs i x) k 0) (length xs) + get_or xs i 0
    ≡ sum (λ k. get_or xs k 0) (length xs) + x
sum_set xs i x h =
    omega (
      arith,
      sum_same (λ k. get_or (set xs i x) k 0) (λ k. cond (eqb i k) x (get_or xs k 0)) (length xs) (λ k l. at k (ℕ_discrete k i)),
      tally_with (λ v. v) (λ k. get_or xs k 0) i x (length xs) h,
    )
  where
    at : (k : ℕ) → Dec (k ≡ i) → get_or (set xs i x) k 0 ≡ cond (eqb i k) x (get_or xs k 0)
    at k (yes e) = rw (e, eq-eqb i i refl) (get_or-set_same xs i x 0 h)
    at k (no u) = get_or-set_other xs i k x 0 u ∙ rw (ne_eqb i k (λ e. u (sym e)))

each_from : {A : Type 0} (P : ℕ → A → Type 0) (k : ℕ) (xs : List A) (d : A) → Each P k xs → (n : ℕ) → n < length xs → P (k + n) (get_or xs n d)
each_from P k [] d h n l = absurd (omega arith)
each_from P k (x ∷ xs) d h zero l = rw add-zero h.0
each_from P k (x ∷ xs) d h (suc n) l = rw (add-suc, ← suc-add) (each_from P (suc k) xs d h.1 n (omega arith))

pub each_of : {A : Type 0} (P : ℕ → A → Type 0) (xs : List A) (d : A) → Each P 0 xs → (n : ℕ) → n < length xs → P n (get_or xs n d)
each_of P xs d h n l = subst (λ j. P j (get_or xs n d)) (omega arith) (each_from P 0 xs d h n l)
