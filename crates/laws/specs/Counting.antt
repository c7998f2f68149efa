-- Tests and counts over the numbers below a bound, and properties of a list's elements by their number.
--     every                                  a test holds of every number below n
--     sum, tally, count                      a sum over them; of what a function has there; how many a test holds of
--     Each                                   a property of each element, by its number; of the one at n
-- Assumes nothing.
use Rattle.std.specs.Prelude.{List, [], ◌∷◌, Bool, true, cond, ◌&&◌, ℕ, zero, suc, ◌+◌}

-- ── below a bound ──
-- f k for every k below n
unfoldable pub every : ℕ → (ℕ → Bool) → Bool
every zero f = true
every (suc n) f = every n f && f n

-- g k for every k below n, added up; and f of what T has there
abbrev pub sum : (ℕ → ℕ) → ℕ → ℕ
sum g zero = 0
sum g (suc n) = g n + sum g n

abbrev pub tally : {A : Type 0} → (A → ℕ) → (ℕ → A) → ℕ → ℕ
tally f T n = sum (λ k. f (T k)) n

-- how many k below n have f k
unfoldable pub count : ℕ → (ℕ → Bool) → ℕ
count n f = sum (λ k. cond (f k) 1 0) n

-- ── by their number ──
-- a property of each element of a list, by its number from k on
abbrev pub Each : {A : Type 0} → (ℕ → A → Type 0) → ℕ → List A → Type 0
Each P k [] = Unit {0}
Each P k (x ∷ xs) = P k x × Each P (suc k) xs
