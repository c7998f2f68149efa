-- The first number that a test holds of, and the last, within a bound.
--     first_below                     the first number below n; n where there is none
--     last_up_to                       the last number up to n; 0 where there is none
-- Assumes nothing.
use Rattle.std.specs.Prelude.{Bool, cond, ℕ, zero, suc}

-- the first k below n with f k; n where there is none
abbrev pub first_below : ℕ → (ℕ → Bool) → ℕ
first_below zero f = 0
first_below (suc n) f = cond (f 0) 0 (suc (first_below n (λ k. f (suc k))))

-- the last k up to n with f k; 0 where there is none
abbrev pub last_up_to : ℕ → (ℕ → Bool) → ℕ
last_up_to zero f = 0
last_up_to (suc n) f = cond (f (suc n)) (suc n) (last_up_to n f)
