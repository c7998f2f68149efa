-- The lexicographic order by a list of components: by the first, where that is equal by the second, and so on.
--     by_hand                             pairs, by their first number and then by their second
--     lower_by_irr, lower_by_trans        it is strict, whatever the components,
--     lower_by_weak                       weak,
--     lower_by_alike                      and total on what differs in a component
--     lower_by_first                      what is lower has no higher first component
-- Assumes nothing.
use Rattle.std.specs.Prelude.{◌≡◌, refl, true, false, ◌&&◌, ◌⊎◌, ℕ, ◌≤◌, ◌<◌, eqb, ltb}
use Rattle.std.proofs.Common.{sym, ◌∙◌, subst, inl, inr, arith, ltb-true, ltb-false, lt-ltb, eqb-true, eq-eqb}
use mathlib.Core.List.Memᴰ
use mathlib.Core.List.{List, [], ◌∷◌, Memᴰ as Mem}
use Rattle.laws.specs.Tests.{never, parts, either, neither, or_left, or_right, both, by_size}
use Rattle.laws.specs.Lexicographic.{lower_by}

by_hand : let pairs = lower_by ((λ (p : ℕ × ℕ). p.0) ∷ (λ (p : ℕ × ℕ). p.1) ∷ []) in
    (pairs (1, 9) (2, 0) ≡ true)
    × (pairs (2, 0) (1, 9) ≡ false)
    × (pairs (1, 3) (1, 4) ≡ true)
    × (pairs (1, 4) (1, 3) ≡ false)
    × (pairs (1, 3) (1, 3) ≡ false)
by_hand = (refl, refl, refl, refl, refl)

module _ {A : Type 0} where
  -- lower in the first component, or equal there and lower by the others
  abbrev Below : (A → ℕ) → List (A → ℕ) → A → A → Type 0
  Below f fs a b = (f a < f b) ⊎ ((f a ≡ f b) × (lower_by fs a b ≡ true))

  below : (f : A → ℕ) (fs : List (A → ℕ)) (a b : A) → lower_by (f ∷ fs) a b ≡ true → Below f fs a b
  below f fs a b h = go (either (ltb (f a) (f b)) (eqb (f a) (f b) && lower_by fs a b) h)
    where
      go : (ltb (f a) (f b) ≡ true) ⊎ ((eqb (f a) (f b) && lower_by fs a b) ≡ true) → Below f fs a b
      go (inl p) = inl (ltb-true (f a) (f b) p)
      go (inr p) = let (e, q) = parts (eqb (f a) (f b)) (lower_by fs a b) p in inr (eqb-true (f a) (f b) e, q)

  lowered : (f : A → ℕ) (fs : List (A → ℕ)) (a b : A) → Below f fs a b → lower_by (f ∷ fs) a b ≡ true
  lowered f fs a b (inl l) = or_left (ltb (f a) (f b)) (eqb (f a) (f b) && lower_by fs a b) (lt-ltb (f a) (f b) l)
  lowered f fs a b (inr (e, h)) = or_right (ltb (f a) (f b)) (eqb (f a) (f b) && lower_by fs a b) (both (eq-eqb (f a) (f b) e) h)

  -- The order is strict,
  pub lower_by_irr : (fs : List (A → ℕ)) (a : A) → lower_by fs a a ≡ true → ⊥
  lower_by_irr [] a h = never h
  lower_by_irr (f ∷ fs) a h = go (below f fs a a h) (lower_by_irr fs a)
    where
      go : Below f fs a a → (lower_by fs a a ≡ true → ⊥) → ⊥
      go (inl l) others = omega arith
      go (inr (e, p)) others = others p

  pub lower_by_trans : (fs : List (A → ℕ)) (a b c : A) → lower_by fs a b ≡ true → lower_by fs b c ≡ true → lower_by fs a c ≡ true
  lower_by_trans [] a b c h k = h
  lower_by_trans (f ∷ fs) a b c h k = lowered f fs a c (go (below f fs a b h) (below f fs b c k) (lower_by_trans fs a b c))
    where
      go : Below f fs a b → Below f fs b c → (lower_by fs a b ≡ true → lower_by fs b c ≡ true → lower_by fs a c ≡ true) → Below f fs a c
      go (inl l) (inl m) others = inl (omega arith)
      go (inl l) (inr (d, q)) others = inl (omega arith)
      go (inr (e, p)) (inl m) others = inl (omega arith)
      go (inr (e, p)) (inr (d, q)) others = inr (e ∙ d, others p q)

  -- weak,
  abbrev Between : List (A → ℕ) → A → A → A → Type 0
  Between fs a b c = (lower_by fs a b ≡ true) ⊎ (lower_by fs b c ≡ true)

  pub lower_by_weak : (fs : List (A → ℕ)) (a b c : A) → lower_by fs a c ≡ true → (lower_by fs a b ≡ true) ⊎ (lower_by fs b c ≡ true)
  lower_by_weak [] a b c h = never h
  lower_by_weak (f ∷ fs) a b c h = go (below f fs a c h) (lower_by_weak fs a b c)
    where
      -- equal in the first component, all three
      equal : f a ≡ f b → f b ≡ f c → Between fs a b c → Between (f ∷ fs) a b c
      equal e d (inl p) = inl (lowered f fs a b (inr (e, p)))
      equal e d (inr q) = inr (lowered f fs b c (inr (d, q)))

      go : Below f fs a c → (lower_by fs a c ≡ true → Between fs a b c) → Between (f ∷ fs) a b c
      go (inl l) others = by_size (f a) (f b) (λ m. inl (lowered f fs a b (inl m))) (λ m. inr (lowered f fs b c (inl (omega arith))))
      go (inr (e, p)) others =
          by_size (f a) (f b) (λ m. inl (lowered f fs a b (inl m)))
          (λ m. by_size (f b) (f c) (λ n. inr (lowered f fs b c (inl n))) (λ n. equal (omega arith) (omega arith) (others p)))

  -- and total on what differs in a component: where neither is lower, each component is equal.
  pub lower_by_alike : (fs : List (A → ℕ)) (a b : A) → lower_by fs a b ≡ false → lower_by fs b a ≡ false → (g : A → ℕ) → Mem g fs → g a ≡ g b
  lower_by_alike [] a b h k g i = absurd (Memᴰ.not-nil i)
  lower_by_alike (f ∷ fs) a b h k g i = go (Memᴰ.cases_cons i) (lower_by_alike fs a b)
    where
      halves : (a b : A) → lower_by (f ∷ fs) a b ≡ false → (ltb (f a) (f b) ≡ false) × ((eqb (f a) (f b) && lower_by fs a b) ≡ false)
      halves a b h = neither (ltb (f a) (f b)) (eqb (f a) (f b) && lower_by fs a b) h

      equal : f a ≡ f b
      equal = omega (arith, ltb-false (f a) (f b) (halves a b h).0, ltb-false (f b) (f a) (halves b a k).0)

      others : (a b : A) → f a ≡ f b → lower_by (f ∷ fs) a b ≡ false → lower_by fs a b ≡ false
      others a b e h = subst (λ t. (t && lower_by fs a b) ≡ false) (eq-eqb (f a) (f b) e) (halves a b h).1

      go : (g ≡ f) ⊎ Mem g fs → (lower_by fs a b ≡ false → lower_by fs b a ≡ false → (g : A → ℕ) → Mem g fs → g a ≡ g b) → g a ≡ g b
      go (inl e) rec = (λ j. e j a) ∙ equal ∙ sym (λ j. e j b)
      go (inr j) rec = rec (others a b equal h) (others b a (sym equal) k) g j

  -- What is lower has no higher first component.
  pub lower_by_first : (fs : List (A → ℕ)) {f : A → ℕ} {others : List (A → ℕ)} → fs ≡ f ∷ others → (a b : A) → lower_by fs a b ≡ true → f a ≤ f b
  lower_by_first fs {f} {others} e a b h = go (below f others a b (subst (λ (gs : List (A → ℕ)). lower_by gs a b ≡ true) e h))
    where
      go : Below f others a b → f a ≤ f b
      go (inl l) = omega arith
      go (inr (e, p)) = omega arith
