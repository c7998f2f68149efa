-- How many of the lent records count. Assumes nothing.
use Rattle.std.specs.Prelude.{◌≡◌, refl, Bool, true, false, cond, ℕ, ◌≤◌, ltb}
use Rattle.std.proofs.Common.{sym, ◌∙◌, arith, ltb-true, ltb-false, le-ltb}
use Rattle.batch.specs.RecordsCounted.{counted_of}

pub counted_bound : (n : ℕ) → (counted_of n ≤ n) × (counted_of n ≤ 64)
counted_bound n = go (ltb n 64) refl
  where
    go : (b : Bool) → ltb n 64 ≡ b → (cond b n 64 ≤ n) × (cond b n 64 ≤ 64)
    go true e = (omega arith, omega (arith, ltb-true n 64 e))
    go false e = (ltb-false n 64 e, omega arith)

pub counted_again : (n : ℕ) → counted_of (counted_of n) ≡ counted_of n
counted_again n = go (ltb n 64) refl
  where
    go : (b : Bool) → ltb n 64 ≡ b → counted_of (cond b n 64) ≡ cond b n 64
    go true e = rw e
    go false e = refl

-- whether there are enough for w workers is told by those that count
pub count_tells : (n w : ℕ) → w ≤ 64 → ltb n w ≡ ltb (counted_of n) w
count_tells n w small = go (ltb n 64) refl
  where
    go : (b : Bool) → ltb n 64 ≡ b → ltb n w ≡ ltb (cond b n 64) w
    go true e = refl
    go false e = le-ltb n w (omega (arith, ltb-false n 64 e)) ∙ sym (le-ltb 64 w small)

pub counts : (n w : ℕ) → w ≤ n → w ≤ 64 → w ≤ counted_of n
counts n w h l = go (ltb n 64)
  where
    go : (b : Bool) → w ≤ cond b n 64
    go true = h
    go false = l
