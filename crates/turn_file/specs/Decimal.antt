-- A number in decimal, as ASCII: no leading zeros, and one digit for zero.
-- Assumes nothing.
use Rattle.std.specs.Prelude.{Bool, true, false, List, [], ◌∷◌, ◌++◌, ℕ, zero, suc, ◌+◌, ◌/◌, ◌%◌, ltb}

-- Below ten one digit; else the digits of the tenth part, and the last one. The first number is a bound on the digits,
-- the test whether the second is below ten.
unfoldable pub digits : ℕ → Bool → ℕ → List ℕ
digits zero single x = []
digits (suc bound) true x = (48 + x) ∷ []
digits (suc bound) false x = digits bound (ltb (x / 10) 10) (x / 10) ++ ((48 + x % 10) ∷ [])

unfoldable pub decimal : ℕ → List ℕ
decimal x = digits (suc x) (ltb x 10) x
