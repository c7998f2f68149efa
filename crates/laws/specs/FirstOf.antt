-- The first of some numbered tests that holds, as refusals are answered. Their numbers rise, so it is the lowest.
--     first_of                        the first number whose test holds, 0 where none does
--     Rising, rises, by_numbers      the numbers rise; so by a test; that it holds is computed
--     Applies                        a number is in the list, and its test holds
--     Lowest, lowest_of              what is answered applies, and nothing lower does; so of every list that rises
--     None, first_none               no test holds; so where there is no first
--     first_append                   the first of a list put together from two
--     first_parts                    where there is none, neither of the two has one
--     first_behind                   the second matters only where the first has none
--     first_front                    whatever comes behind, what the first has is the answer
--     first_above                    the answer is above what the numbers rise from
--     first_has                      what holds of 0 and of every number holds of the first
--     lacks, first_lacks             so a number that no test has is never the answer
-- Assumes nothing.
use Rattle.std.specs.Prelude.{◌≡◌, refl, List, [], ◌∷◌, ◌++◌, Bool, true, false, cond, not, ◌&&◌, ◌≢◌, ◌⊎◌, ℕ, ◌<◌, ◌≤◌, eqb, ltb}
use Rattle.std.proofs.Common.{sym, ap, ◌∙◌, append-nil, inl, inr, arith, eqb-true, ltb-true, ne_eqb}
use Rattle.std.proofs.lemmas.Bool.{eqb-false, not-true}
use Rattle.laws.specs.Tests.{never, parts}
use Rattle.laws.specs.Lists.{all}

-- the first number of a list whose test holds, 0 where none does
abbrev pub first_of : List (ℕ × Bool) → ℕ
first_of [] = 0
first_of (x ∷ xs) = cond x.1 x.0 (first_of xs)

-- the numbers rise from above k
abbrev pub Rising : ℕ → List (ℕ × Bool) → Type 0
Rising k [] = Unit {0}
Rising k (x ∷ xs) = (k < x.0) × Rising x.0 xs

abbrev pub rises : ℕ → List (ℕ × Bool) → Bool
rises k [] = true
rises k (x ∷ xs) = ltb k x.0 && rises x.0 xs

pub by_numbers : (k : ℕ) (xs : List (ℕ × Bool)) → rises k xs ≡ true → Rising k xs
by_numbers k [] e = tt
by_numbers k (x ∷ xs) e = let (up, rest) = parts (ltb k x.0) (rises x.0 xs) e in (ltb-true k x.0 up, by_numbers x.0 xs rest)

-- ── the lowest ──
-- number n is in the list, and its test holds
abbrev pub Applies : ℕ → List (ℕ × Bool) → Type 0
Applies n [] = ⊥
Applies n (x ∷ xs) = ((x.0 ≡ n) × (x.1 ≡ true)) ⊎ Applies n xs

first_applies : (xs : List (ℕ × Bool)) → first_of xs ≢ 0 → Applies (first_of xs) xs
first_applies [] h = absurd (h refl)
first_applies (x ∷ xs) h = go x.1 refl (λ n. first_applies xs n)
  where
    go : (b : Bool) → x.1 ≡ b → (first_of xs ≢ 0 → Applies (first_of xs) xs)
        → ((x.0 ≡ cond x.1 x.0 (first_of xs)) × (x.1 ≡ true)) ⊎ Applies (cond x.1 x.0 (first_of xs)) xs
    go true e rest = inl (rw e, e)
    go false e rest = inr (rw e (rest (λ z. h (rw e z))))

first_lowest : (k : ℕ) (xs : List (ℕ × Bool)) → Rising k xs → (n : ℕ) → Applies n xs → (k < first_of xs) × (first_of xs ≤ n)
first_lowest k [] r n a = absurd a
first_lowest k (x ∷ xs) r n a = go x.1 refl a (λ b. first_lowest x.0 xs r.1 n b)
  where
    go : (b : Bool) → x.1 ≡ b → Applies n (x ∷ xs) → (Applies n xs → (x.0 < first_of xs) × (first_of xs ≤ n))
        → (k < cond x.1 x.0 (first_of xs)) × (cond x.1 x.0 (first_of xs) ≤ n)
    go true e (inl (q, t)) rest = rw e (r.0, omega (arith, q))
    go true e (inr b) rest = let (up, most) = rest b in rw e (r.0, omega (arith, up, most))
    go false e (inl (q, t)) rest = never (sym e ∙ t)
    go false e (inr b) rest = let (up, most) = rest b in rw e (omega (arith, r.0, up), most)

-- what is answered applies, and nothing lower does
abbrev pub Lowest : ℕ → List (ℕ × Bool) → Type 0
Lowest k tests = (k ≢ 0 → Applies k tests) × ((n : ℕ) → Applies n tests → (0 < k) × (k ≤ n))

pub lowest_of : (tests : List (ℕ × Bool)) → rises 0 tests ≡ true → Lowest (first_of tests) tests
lowest_of tests up = (first_applies tests, first_lowest 0 tests (by_numbers 0 tests up))

-- ── none ──
-- no test holds
abbrev pub None : List (ℕ × Bool) → Type 0
None [] = Unit {0}
None (x ∷ xs) = (x.1 ≡ false) × None xs

none_of : (k : ℕ) (xs : List (ℕ × Bool)) → Rising k xs → first_of xs ≡ 0 → None xs
none_of k [] r e = tt
none_of k (x ∷ xs) r e = go x.1 refl e (λ z. none_of x.0 xs r.1 z)
  where
    go : (b : Bool) → x.1 ≡ b → cond b x.0 (first_of xs) ≡ 0 → (first_of xs ≡ 0 → None xs) → (x.1 ≡ false) × None xs
    go true t z rest = absurd (omega (arith, r.0))
    go false t z rest = (t, rest z)

pub first_none : (xs : List (ℕ × Bool)) → rises 0 xs ≡ true → first_of xs ≡ 0 → None xs
first_none xs up e = none_of 0 xs (by_numbers 0 xs up) e

-- ── two lists ──
first_of_two : (k : ℕ) (xs ys : List (ℕ × Bool)) → Rising k xs → first_of (xs ++ ys) ≡ cond (eqb (first_of xs) 0) (first_of ys) (first_of xs)
first_of_two k [] ys r = refl
first_of_two k (x ∷ xs) ys r = go x.1 (first_of_two x.0 xs ys r.1)
  where
    go : (b : Bool) → first_of (xs ++ ys) ≡ cond (eqb (first_of xs) 0) (first_of ys) (first_of xs)
        → cond b x.0 (first_of (xs ++ ys)) ≡ cond (eqb (cond b x.0 (first_of xs)) 0) (first_of ys) (cond b x.0 (first_of xs))
    go true rest = rw (ne_eqb x.0 0 (λ e. omega (arith, r.0)))
    go false rest = rest

pub first_append : (xs ys : List (ℕ × Bool)) → rises 0 xs ≡ true → first_of (xs ++ ys) ≡ cond (eqb (first_of xs) 0) (first_of ys) (first_of xs)
first_append xs ys e = first_of_two 0 xs ys (by_numbers 0 xs e)

pub first_parts : (xs ys : List (ℕ × Bool)) → rises 0 xs ≡ true → first_of (xs ++ ys) ≡ 0 → (first_of xs ≡ 0) × (first_of ys ≡ 0)
first_parts xs ys up e = go (eqb (first_of xs) 0) refl (sym (first_append xs ys up) ∙ e)
  where
    go : (b : Bool) → eqb (first_of xs) 0 ≡ b → cond b (first_of ys) (first_of xs) ≡ 0 → (first_of xs ≡ 0) × (first_of ys ≡ 0)
    go true q z = (eqb-true (first_of xs) 0 q, z)
    go false q z = absurd (eqb-false (first_of xs) 0 q z)

pub first_behind : (xs ys zs : List (ℕ × Bool)) → (first_of xs ≡ 0 → first_of ys ≡ first_of zs) → first_of (xs ++ ys) ≡ first_of (xs ++ zs)
first_behind [] ys zs h = h refl
first_behind (x ∷ xs) ys zs h = go x.1 h (first_behind xs ys zs)
  where
    go : (b : Bool) → (cond b x.0 (first_of xs) ≡ 0 → first_of ys ≡ first_of zs)
        → ((first_of xs ≡ 0 → first_of ys ≡ first_of zs) → first_of (xs ++ ys) ≡ first_of (xs ++ zs))
        → cond b x.0 (first_of (xs ++ ys)) ≡ cond b x.0 (first_of (xs ++ zs))
    go true h rest = refl
    go false h rest = rest h

pub first_front : (xs ys : List (ℕ × Bool)) → first_of xs ≢ 0 → first_of (xs ++ ys) ≡ first_of xs
first_front xs ys n = first_behind xs ys [] (λ e. absurd (n e)) ∙ ap first_of (append-nil xs)

-- ── the numbers ──
pub first_above : (k : ℕ) (xs : List (ℕ × Bool)) → Rising k xs → (n : ℕ) → 1 ≤ n → n ≤ k → first_of xs ≢ n
first_above k [] r n lo hi e = omega arith
first_above k (x ∷ xs) r n lo hi e = go x.1 e (first_above x.0 xs r.1 n lo (omega (arith, r.0)))
  where
    go : (b : Bool) → cond b x.0 (first_of xs) ≡ n → first_of xs ≢ n → ⊥
    go true z rest = omega (arith, r.0)
    go false z rest = rest z

pub first_has : (p : ℕ → Bool) (xs : List (ℕ × Bool)) → p 0 ≡ true → all (λ x. p x.0) xs ≡ true → p (first_of xs) ≡ true
first_has p [] zeroth each = zeroth
first_has p (x ∷ xs) zeroth each =
    let (here, rest) = parts (p x.0) (all (λ x. p x.0) xs) each in go x.1 here (first_has p xs zeroth rest)
  where
    go : (b : Bool) → p x.0 ≡ true → p (first_of xs) ≡ true → p (cond b x.0 (first_of xs)) ≡ true
    go true here rest = here
    go false here rest = rest

-- none of the numbers is n
abbrev pub lacks : ℕ → List (ℕ × Bool) → Bool
lacks n xs = all (λ x. not (eqb x.0 n)) xs

pub first_lacks : (n : ℕ) (xs : List (ℕ × Bool)) → n ≢ 0 → lacks n xs ≡ true → first_of xs ≢ n
first_lacks n xs some none =
    eqb-false (first_of xs) n (not-true _ (first_has (λ k. not (eqb k n)) xs (rw (ne_eqb 0 n (λ e. some (omega arith)))) none))
