-- Tests as facts, and proofs by the cases of a test. What the kit has is not here: of one comparison, and of `not`, in borrow.Author.Tests; of `&&` and
-- `||` with a constant in mathlib.Core.Bool.
--     is_yes                             a decision as a test
--     never, is_false, is_true          no test is false and true; one that does not hold is false; one that does not fail is true
--     is_no, not_yes                    it fails where there is a refutation; what its failing tells
--     left_true, right_true, parts      what "both" tells; both, the other way
--     either, neither                   what "one of the two" tells where it holds, and where it does not; or_left, or_right, the other way
--     within                            what "from a to b" tells; inside, the other way
--     isnt, is_not                      a test for another number
--     by_test, by_size                  a proof by the two cases of a test, and of a comparison
--     upd_same, upd_other, upd_cases    a function changed at one number: there, elsewhere, and a property by the two cases
-- Assumes nothing.
use Rattle.std.specs.Prelude.{◌≡◌, refl, ◌≢◌, ◌⊎◌, ℕ, ◌<◌, ◌≤◌, eqb, leb, ltb}
use Rattle.std.proofs.Common.{sym, subst, inl, inr, arith, ltb-true, ltb-false, leb-true, le-leb, eqb-true, eq-eqb, ne_eqb}
use mathlib.Core.Bool.{Bool, true, false, cond, not, ◌&&◌, ◌||◌}
use Rattle.std.proofs.lemmas.Bool.{eqb-false, not-true}

-- a decision as a test
abbrev pub is_yes : {P : Type 0} → Dec P → Bool
is_yes (yes h) = true
is_yes (no n) = false

pub never : {A : Type 0} → false ≡ true → A
never e = let z : ◌≡◌ {A = ℕ} 0 1 = cc in absurd (omega arith)

pub is_false : (t : Bool) → (t ≡ true → ⊥) → t ≡ false
is_false true h = absurd (h refl)
is_false false h = refl

pub is_true : (t : Bool) → (t ≡ false → ⊥) → t ≡ true
is_true true h = refl
is_true false h = absurd (h refl)

pub is_no : {P : Type 0} (d : Dec P) → ¬ P → is_yes d ≡ false
is_no (yes h) n = absurd (n h)
is_no (no m) n = refl

pub not_yes : {P : Type 0} (d : Dec P) → is_yes d ≡ false → ¬ P
not_yes (yes h) e p = never (sym e)
not_yes (no n) e p = n p

-- ── both ──
pub left_true : (a b : Bool) → (a && b) ≡ true → a ≡ true
left_true true b e = refl
left_true false b e = e

pub right_true : (a b : Bool) → (a && b) ≡ true → b ≡ true
right_true true b e = e
right_true false b e = never e

pub parts : (a b : Bool) → (a && b) ≡ true → (a ≡ true) × (b ≡ true)
parts a b e = (left_true a b e, right_true a b e)

pub both : {a b : Bool} → a ≡ true → b ≡ true → (a && b) ≡ true
both {a} {b} p q = rw (p, q)

-- ── one of two ──
pub either : (a b : Bool) → (a || b) ≡ true → (a ≡ true) ⊎ (b ≡ true)
either true b e = inl refl
either false b e = inr e

pub neither : (a b : Bool) → (a || b) ≡ false → (a ≡ false) × (b ≡ false)
neither true b e = never (sym e)
neither false b e = (refl, e)

pub or_left : (a b : Bool) → a ≡ true → (a || b) ≡ true
or_left a b e = rw e

pub or_right : (a b : Bool) → b ≡ true → (a || b) ≡ true
or_right true b e = refl
or_right false b e = e

-- ── numbers ──
pub within : (a b x : ℕ) → (leb a x && leb x b) ≡ true → (a ≤ x) × (x ≤ b)
within a b x e = let (p, q) = parts (leb a x) (leb x b) e in (leb-true a x p, leb-true x b q)

pub inside : (a b x : ℕ) → a ≤ x → x ≤ b → (leb a x && leb x b) ≡ true
inside a b x p q = both (le-leb a x p) (le-leb x b q)

pub isnt : (a b : ℕ) → not (eqb a b) ≡ true → a ≢ b
isnt a b e = eqb-false a b (not-true _ e)

pub is_not : (a b : ℕ) → a ≢ b → not (eqb a b) ≡ true
is_not a b h = rw (ne_eqb a b h)

-- ── by cases ──
pub by_test : {A : Type 0} (P : A → Type 0) (t : Bool) {a b : A} → (t ≡ true → P a) → (t ≡ false → P b) → P (cond t a b)
by_test P true h k = h refl
by_test P false h k = k refl

pub by_size : {P : Type 0} (m n : ℕ) → (m < n → P) → (n ≤ m → P) → P
by_size {P} m n p q =
    by_test {A = Bool} (λ _. P) (ltb m n) {a = true} {b = false} (λ e. p (ltb-true m n e)) (λ e. q (ltb-false m n e))

-- ── a function changed at one number ──
pub upd_same : {A : Type 0} (p q : ℕ) (v x : A) → p ≡ q → cond (eqb p q) v x ≡ v
upd_same p q v x e = rw (eq-eqb p q e)

pub upd_other : {A : Type 0} (p q : ℕ) (v x : A) → p ≢ q → cond (eqb p q) v x ≡ x
upd_other p q v x e = rw (ne_eqb p q e)

pub upd_cases : {A : Type 0} (P : ℕ → A → Type 0) (f : ℕ → A) (b : ℕ) (x : A) → P b x → ((q : ℕ) → q ≢ b → P q (f q))
    → (q : ℕ) → P q (cond (eqb b q) x (f q))
upd_cases {A} P f b x h k q = go (eqb b q) refl
  where
    go : (t : Bool) → eqb b q ≡ t → P q (cond t x (f q))
    go true e = subst (λ j. P j x) (eqb-true b q e) h
    go false e = k q (λ r. eqb-false b q e (sym r))
