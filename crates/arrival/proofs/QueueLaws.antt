-- The sequential queue by its laws: what is lowest, what is left when it is gone, and what takes alone give.
--     lowest_none, lowest_in, lowest_least         none is lowest of none; the lowest is one of them, and no key is lower
--     remove_in, in_remove, remove_less            what is left without a ticket; it is less
--     drained_zero, drained_none, drained_some     nothing, or the lowest and what the others give
--     drained_in, in_drained                       it is what was there, where a ticket tells an item from others
--     drained_lower                                what comes first is lower
-- Assumes nothing.
use Rattle.std.specs.Prelude.{◌≡◌, refl, Bool, true, false, cond, ◌≢◌, ◌⊎◌, ℕ, zero, suc, ◌≤◌, ◌<◌, eqb, length}
use Rattle.std.proofs.Common.{sym, ap, ◌∙◌, subst, inl, inr, arith, eqb-true, eq-eqb, ne_eqb}
use Rattle.std.proofs.Math.Option.{Option, none, some, none-ne-some, some-injective}
use mathlib.Core.List.Memᴰ
use mathlib.Core.List.Memᴰ.{head as here}
use mathlib.Core.List.Memᴰ.{tail as there}
use mathlib.Core.List.{[], ◌∷◌, Memᴰ as Mem}
use Rattle.std.proofs.lemmas.Bool.{eqb-false}
use Rattle.laws.specs.Tests.{never, is_false}
use Rattle.laws.specs.Lists.{sift, sift_in, in_sift, sift_less}
use Rattle.arrival.specs.declared.Item.{Item}
use Rattle.arrival.specs.Keys.{lower}
use Rattle.arrival.proofs.Keys.{lower_irr, lower_trans, lower_weak, lower_total}
use Rattle.arrival.specs.Queue.{Items, lower_of, lowest, remove}
use Rattle.arrival.specs.QueueLaws.{first_and, drained, Told}

-- ── the lowest ──
pub lowest_none : (S : Items) (x : Item) → lowest S ≡ none → Mem x S → ⊥
lowest_none [] x e i = Memᴰ.not-nil i
lowest_none (y ∷ S) x e i = none-ne-some _ (sym e)

-- x is one of them, and no key is lower
abbrev Least : Items → Item → Type 0
Least S x = Mem x S × ((y : Item) → Mem y S → lower y x ≡ false)

least : (S : Items) (x : Item) → lowest S ≡ some x → Least S x
least [] x e = absurd (none-ne-some _ e)
least (z ∷ S) x e = go (lowest S) refl (least S) (some-injective _ _ e)
  where
    self : (a b : Item) → a ≡ b → lower a b ≡ true → ⊥
    self a b p h = lower_irr b (subst (λ (u : Item). lower u b ≡ true) p h)

    -- z alone
    alone : lowest S ≡ none → z ≡ x → (y : Item) → (y ≡ z) ⊎ Mem y S → lower y x ≡ false
    alone f p y (inl q) = is_false (lower y x) (self y x (q ∙ p))
    alone f p y (inr j) = absurd (lowest_none S y f j)

    -- z beside the lowest of the others
    beside : (w : Item) → Least S w → (t : Bool) → lower w z ≡ t → cond t w z ≡ x → Least (z ∷ S) x
    beside w (i, low) true l q = (there (Memᴰ.cast (sym q) i), λ y j. pick y (Memᴰ.cases_cons j))
      where
        pick : (y : Item) → (y ≡ z) ⊎ Mem y S → lower y x ≡ false
        pick y (inl k) =
            is_false (lower y x)
            (λ h. lower_irr w (lower_trans w z w l (subst (λ (u : Item). lower u w ≡ true) k (subst (λ (u : Item). lower y u ≡ true) (sym q) h))))
        pick y (inr j) = subst (λ (u : Item). lower y u ≡ false) q (low y j)
    beside w (i, low) false l q = (here (sym q), λ y j. pick y (Memᴰ.cases_cons j))
      where
        pick : (y : Item) → (y ≡ z) ⊎ Mem y S → lower y x ≡ false
        pick y (inl k) = is_false (lower y x) (self y x (k ∙ q))
        pick y (inr j) = is_false (lower y x) (λ h. apart (lower_weak y w z (subst (λ (u : Item). lower y u ≡ true) (sym q) h)))
          where
            apart : (lower y w ≡ true) ⊎ (lower w z ≡ true) → ⊥
            apart (inl h) = never (sym (low y j) ∙ h)
            apart (inr h) = never (sym l ∙ h)

    go : (o : Option Item) → lowest S ≡ o → ((w : Item) → lowest S ≡ some w → Least S w) → lower_of z o ≡ x → Least (z ∷ S) x
    go none f rec p = (here (sym p), λ y j. alone f p y (Memᴰ.cases_cons j))
    go (some w) f rec p = beside w (rec w f) (lower w z) refl p

pub lowest_in : (S : Items) (x : Item) → lowest S ≡ some x → Mem x S
lowest_in S x e = (least S x e).0

pub lowest_least : (S : Items) (x y : Item) → lowest S ≡ some x → Mem y S → lower y x ≡ false
lowest_least S x y e i = (least S x e).1 y i

-- ── what is left ──
remove_sift : (c : ℕ) (S : Items) → remove c S ≡ sift (λ (x : Item). eqb x.ticket c) S
remove_sift c [] = refl
remove_sift c (x ∷ S) = ap (λ (R : Items). cond (eqb x.ticket c) R (x ∷ R)) (remove_sift c S)

pub remove_in : (c : ℕ) (x : Item) (S : Items) → Mem x (remove c S) → Mem x S × (x.ticket ≢ c)
remove_in c x S i =
    let (j, e) = sift_in (λ (y : Item). eqb y.ticket c) x S (subst (λ (R : Items). Mem x R) (remove_sift c S) i) in (j, eqb-false x.ticket c e)

pub in_remove : (c : ℕ) (x : Item) (S : Items) → Mem x S → x.ticket ≢ c → Mem x (remove c S)
in_remove c x S i h =
    subst (λ (R : Items). Mem x R) (sym (remove_sift c S)) (in_sift (λ (y : Item). eqb y.ticket c) x S i (ne_eqb x.ticket c h))

pub remove_less : (x : Item) (S : Items) → Mem x S → length (remove x.ticket S) < length S
remove_less x S i =
    subst (λ (R : Items). length R < length S) (sym (remove_sift x.ticket S))
    (sift_less (λ (y : Item). eqb y.ticket x.ticket) x S i (eq-eqb x.ticket x.ticket refl))

pub drained_zero : (S : Items) → drained 0 S ≡ []
unfolding drained
drained_zero S = refl

pub drained_none : (n : ℕ) (S : Items) → lowest S ≡ none → drained n S ≡ []
unfolding drained
drained_none zero S e = refl
drained_none (suc n) S e = ap (first_and (drained n) S) e

pub drained_some : (n : ℕ) (S : Items) (x : Item) → lowest S ≡ some x → drained (suc n) S ≡ x ∷ drained n (remove x.ticket S)
unfolding drained
drained_some n S x e = ap (first_and (drained n) S) e

pub drained_in : (n : ℕ) (S : Items) (y : Item) → Mem y (drained n S) → Mem y S
unfolding drained
drained_in zero S y i = absurd (Memᴰ.not-nil i)
drained_in (suc n) S y i = go (lowest S) refl i (drained_in n)
  where
    go : (o : Option Item) → lowest S ≡ o → Mem y (first_and (drained n) S o) → ((R : Items) (y : Item) → Mem y (drained n R) → Mem y R) → Mem y S
    go none e i rec = absurd (Memᴰ.not-nil i)
    go (some x) e i rec = pick (Memᴰ.cases_cons i)
      where
        pick : (y ≡ x) ⊎ Mem y (drained n (remove x.ticket S)) → Mem y S
        pick (inl q) = Memᴰ.cast q (lowest_in S x e)
        pick (inr j) = (remove_in x.ticket y S (rec (remove x.ticket S) y j)).0

told_less : (c : ℕ) (S : Items) → Told S → Told (remove c S)
told_less c S t x y i j e = t x y (remove_in c x S i).0 (remove_in c y S j).0 e

pub in_drained : (n : ℕ) (S : Items) (y : Item) → Told S → length S ≤ n → Mem y S → Mem y (drained n S)
unfolding drained
in_drained zero [] y t l i = absurd (Memᴰ.not-nil i)
in_drained zero (x ∷ S) y t l i = absurd (omega arith)
in_drained (suc n) S y t l i = go (lowest S) refl (in_drained n)
  where
    go : (o : Option Item) → lowest S ≡ o → ((R : Items) (y : Item) → Told R → length R ≤ n → Mem y R → Mem y (drained n R))
        → Mem y (first_and (drained n) S o)
    go none e rec = absurd (lowest_none S y e i)
    go (some x) e rec = pick (eqb y.ticket x.ticket) refl
      where
        pick : (b : Bool) → eqb y.ticket x.ticket ≡ b → Mem y (x ∷ drained n (remove x.ticket S))
        pick true q = here (t y x i (lowest_in S x e) (eqb-true y.ticket x.ticket q))
        pick false q =
            there (rec (remove x.ticket S) y (told_less x.ticket S t) (omega (arith, remove_less x S (lowest_in S x e)))
            (in_remove x.ticket y S i (eqb-false y.ticket x.ticket q)))

-- what comes first is lower than what comes behind
pub drained_lower : (n : ℕ) (S : Items) (x y : Item) → lowest S ≡ some x → Mem y (drained n (remove x.ticket S)) → lower x y ≡ true
drained_lower n S x y e i =
    let (j, apart) = remove_in x.ticket y S (drained_in n (remove x.ticket S) y i) in
    lower_total y x (lowest_least S x y e j) apart
