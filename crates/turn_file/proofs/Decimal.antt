-- A number in decimal, as ASCII: no leading zeros, and one digit for zero.
-- Assumes nothing.
use Rattle.std.specs.Prelude.{◌≡◌, [], ◌∷◌, ◌++◌, ℕ, zero, suc, ◌+◌, ◌/◌, ◌%◌, ◌^◌, ◌<◌, ◌≤◌, ltb, length}
use Rattle.std.proofs.Math.Nat.{pow-succ'}
use Rattle.std.proofs.Common.{arith, length-append, lt-ltb, le-ltb}
use Rattle.laws.specs.Tests.{by_size}
use Rattle.turn_file.specs.Decimal.{digits, decimal}

-- Any bound above the number gives the same digits.
same_digits : (m n x : ℕ) → x < m → x < n → digits m (ltb x 10) x ≡ digits n (ltb x 10) x
unfolding digits
same_digits zero n x p q = absurd (omega arith)
same_digits (suc m) zero x p q = absurd (omega arith)
same_digits (suc m) (suc n) x p q =
    by_size x 10
    (λ l. rw (lt-ltb x 10))
    (λ l. rw (le-ltb x 10, same_digits m n (x / 10) (omega arith) (omega arith)))

pub decimal_one : (x : ℕ) → x < 10 → decimal x ≡ (48 + x) ∷ []
unfolding decimal digits
decimal_one x h = rw (lt-ltb x 10)

pub decimal_more : (x : ℕ) → 10 ≤ x → decimal x ≡ decimal (x / 10) ++ ((48 + x % 10) ∷ [])
unfolding decimal digits
decimal_more x h = rw (le-ltb x 10, same_digits x (suc (x / 10)) (x / 10) (omega arith) (omega arith))

pub length_one : (x : ℕ) → x < 10 → length (decimal x) ≡ 1
length_one x h = rw (decimal_one x)

pub length_more : (x : ℕ) → 10 ≤ x → length (decimal x) ≡ length (decimal (x / 10)) + 1
length_more x h = rw (decimal_more x) (length-append (decimal (x / 10)) ((48 + x % 10) ∷ []))

pub decimal_least : (x : ℕ) → 1 ≤ length (decimal x)
decimal_least x = by_size x 10 (λ h. omega (arith, length_one x h)) (λ h. omega (arith, length_more x h))

-- A number below a power of ten has at most as many digits as the power has zeros.
pub decimal_most : (k x : ℕ) → x < 10 ^ suc k → length (decimal x) ≤ suc k
decimal_most zero x h = omega (arith, length_one x (omega arith))
decimal_most (suc k) x h =
    by_size x 10
    (λ l. omega (arith, length_one x l))
    (λ l. omega (arith, length_more x l, decimal_most k (x / 10) (omega (arith, pow-succ' 10 (suc k)))))

pub decimal_word : (x : ℕ) → x < 2 ^ 64 → length (decimal x) ≤ 20
decimal_word x h = decimal_most 19 x (omega arith)
