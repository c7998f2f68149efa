-- The first number that a test holds of, and the last, within a bound.
--     by_hand                        both among the numbers to 5
--     first_most                     the first is at most n,
--     first_holds                    the test holds of it, unless it is n,
--     first_not_before               and of none before it;
--     first_is                       so it is the only such number
--     first_same                     two tests alike below n
--     first_wider                    where one test implies the other, it comes no earlier
--     last_holds, last_last          the test holds of the last, if of 0; and of none behind it
-- Assumes nothing.
use Rattle.std.specs.Prelude.{◌≡◌, refl, Bool, true, false, cond, ℕ, zero, suc, ◌<◌, ◌≤◌, leb}
use Rattle.std.proofs.Common.{sym, ap, ◌∙◌, arith}
use Rattle.laws.specs.Tests.{never, by_size}
use Rattle.laws.specs.Searching.{first_below, last_up_to}

by_hand :
    (first_below 5 (λ k. leb 3 k) ≡ 3)
    × (first_below 5 (λ k. leb k 3) ≡ 0)
    × (first_below 5 (λ _. false) ≡ 5)
    × (last_up_to 5 (λ k. leb k 3) ≡ 3)
    × (last_up_to 5 (λ k. leb 3 k) ≡ 5)
    × (last_up_to 5 (λ _. false) ≡ 0)
by_hand = (refl, refl, refl, refl, refl, refl)

-- ── the first ──
pub first_most : (n : ℕ) (f : ℕ → Bool) → first_below n f ≤ n
first_most zero f = omega arith
first_most (suc n) f = go (f 0) (first_most n (λ k. f (suc k)))
  where
    go : (b : Bool) → first_below n (λ k. f (suc k)) ≤ n → cond b 0 (suc (first_below n (λ k. f (suc k)))) ≤ suc n
    go true h = omega arith
    go false h = omega arith

pub first_holds : (n : ℕ) (f : ℕ → Bool) → first_below n f < n → f (first_below n f) ≡ true
first_holds zero f h = absurd (omega arith)
first_holds (suc n) f h = go (f 0) refl h (first_holds n (λ k. f (suc k)))
  where
    go : (b : Bool) → f 0 ≡ b → cond b 0 (suc (first_below n (λ k. f (suc k)))) < suc n
        → (first_below n (λ k. f (suc k)) < n → f (suc (first_below n (λ k. f (suc k)))) ≡ true)
        → f (cond b 0 (suc (first_below n (λ k. f (suc k))))) ≡ true
    go true e l rec = e
    go false e l rec = rec (omega arith)

pub first_not_before : (n : ℕ) (f : ℕ → Bool) (j : ℕ) → j < first_below n f → f j ≡ false
first_not_before zero f j h = absurd (omega arith)
first_not_before (suc n) f j h = go (f 0) refl j h (first_not_before n (λ k. f (suc k)))
  where
    go : (b : Bool) → f 0 ≡ b → (j : ℕ) → j < cond b 0 (suc (first_below n (λ k. f (suc k))))
        → ((i : ℕ) → i < first_below n (λ k. f (suc k)) → f (suc i) ≡ false) → f j ≡ false
    go true e j l rec = absurd (omega arith)
    go false e zero l rec = e
    go false e (suc j) l rec = rec j (omega arith)

pub first_is : (n : ℕ) (f : ℕ → Bool) (k : ℕ) → k ≤ n → (k < n → f k ≡ true) → ((j : ℕ) → j < k → f j ≡ false) → k ≡ first_below n f
first_is n f k most here before =
    by_size k (first_below n f)
    (λ l. never (sym (first_not_before n f k l) ∙ here (omega (arith, first_most n f))))
    (λ l. by_size (first_below n f) k (λ m. never (sym (before (first_below n f) m) ∙ first_holds n f (omega arith))) (λ m. omega arith))

pub first_same : (n : ℕ) (f g : ℕ → Bool) → ((k : ℕ) → k < n → f k ≡ g k) → first_below n f ≡ first_below n g
first_same n f g alike =
    first_is n g (first_below n f) (first_most n f)
    (λ l. sym (alike (first_below n f) l) ∙ first_holds n f l)
    (λ j l. sym (alike j (omega (arith, first_most n f))) ∙ first_not_before n f j l)

pub first_wider : (n : ℕ) (f g : ℕ → Bool) → ((k : ℕ) → g k ≡ true → f k ≡ true) → first_below n f ≤ first_below n g
first_wider n f g implies =
    by_size (first_below n g) (first_below n f)
    (λ l. never (sym (first_not_before n f (first_below n g) l) ∙ implies (first_below n g) (first_holds n g (omega (arith, first_most n f)))))
    (λ l. l)

-- ── the last ──
pub last_holds : (n : ℕ) (f : ℕ → Bool) → f 0 ≡ true → f (last_up_to n f) ≡ true
last_holds zero f h = h
last_holds (suc n) f h = go (f (suc n)) refl (last_holds n f h)
  where
    go : (b : Bool) → f (suc n) ≡ b → f (last_up_to n f) ≡ true → f (cond b (suc n) (last_up_to n f)) ≡ true
    go true e rec = e
    go false e rec = rec

pub last_last : (n : ℕ) (f : ℕ → Bool) (j : ℕ) → j ≤ n → f j ≡ true → j ≤ last_up_to n f
last_last zero f j l h = l
last_last (suc n) f j l h = go (f (suc n)) refl (λ m. last_last n f j m h)
  where
    go : (b : Bool) → f (suc n) ≡ b → (j ≤ n → j ≤ last_up_to n f) → j ≤ cond b (suc n) (last_up_to n f)
    go true e rec = l
    go false e rec =
        by_size j (suc n) (λ m. rec (omega arith)) (λ m. let same : j ≡ suc n = omega arith in never (sym e ∙ ap f (sym same) ∙ h))
