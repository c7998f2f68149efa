-- Ahead: a node met from another by following links; each change of the links keeps it. Assumes nothing.
use Rattle.std.specs.Prelude.{◌≡◌, refl, List, [], ◌∷◌, Bool, true, false, ◌≢◌, ◌⊎◌, ℕ, ◌+◌, ◌/◌, ◌<◌, eqb}
use Rattle.std.proofs.Common.{sym, ap, ◌∙◌, subst, inl, inr, arith, eqb-true}
use mathlib.Core.List.Memᴰ
use Rattle.std.proofs.lemmas.Bool.{eqb-false}
use Rattle.arrival.specs.declared.Shape.{Shape}
use Rattle.lists.specs.Chain.{In, Runs, Ascends}

module _ (sh : Shape) where
  pub data Reach (c : ℕ → ℕ) (z : ℕ) : ℕ → Type 0 where
    stop : {n : ℕ} → n ≡ z → Reach c z n
    step : {n : ℕ} → n < sh.nodes → Reach c z (c (sh.buckets + n) / 2) → Reach c z n

  cast : {c : ℕ → ℕ} {z n q : ℕ} → n ≡ q → Reach c z n → Reach c z q
  cast {c} {z} e r = subst (Reach c z) e r

  -- a mark
  pub reach_half : (c d : ℕ → ℕ) {z n : ℕ} → ((q : ℕ) → d q / 2 ≡ c q / 2) → Reach c z n → Reach d z n
  reach_half c d h (stop e) = stop e
  reach_half c d h (step {n = n} l r) = step l (cast (sym (h (sh.buckets + n))) (reach_half c d h r))

  -- one cell changes: either the node's own cell is that one, or its successor stays
  pub reach_link : (c d : ℕ → ℕ) (left own : ℕ) {z n : ℕ} → own < sh.nodes → d left / 2 ≡ own → d (sh.buckets + own) / 2 ≡ c left / 2
      → ((q : ℕ) → q ≢ left → d q ≡ c q) → Reach c z n → Reach d z n
  reach_link c d left own small to on frame (stop e) = stop e
  reach_link c d left own {z} small to on frame (step {n = n} l r) = go (eqb (sh.buckets + n) left) refl (reach_link c d left own small to on frame r)
    where
      go : (t : Bool) → eqb (sh.buckets + n) left ≡ t → Reach d z (c (sh.buckets + n) / 2) → Reach d z n
      go true e x = let q = eqb-true (sh.buckets + n) left e in
          step l (cast (sym to ∙ ap (λ y. d y / 2) (sym q)) (step small (cast (ap (λ y. c y / 2) q ∙ sym on) x)))
      go false e x = step l (cast (ap (λ y. y / 2) (sym (frame (sh.buckets + n) (eqb-false (sh.buckets + n) left e)))) x)

  pub reach_unlink : (c d : ℕ → ℕ) (left right : ℕ) {z n : ℕ} → z ≢ right → c left / 2 ≡ right → d left / 2 ≡ c (sh.buckets + right) / 2
      → ((q : ℕ) → q ≢ left → d q ≡ c q) → Reach c z n → Reach d z n
  reach_unlink c d left right other from over frame (stop e) = stop e
  reach_unlink c d left right {z} other from over frame (step {n = n} l (stop e)) = go (eqb (sh.buckets + n) left) refl
    where
      go : (t : Bool) → eqb (sh.buckets + n) left ≡ t → Reach d z n
      go true q = absurd (other (sym e ∙ ap (λ y. c y / 2) (eqb-true (sh.buckets + n) left q) ∙ from))
      go false q = step l (stop (ap (λ y. y / 2) (frame (sh.buckets + n) (eqb-false (sh.buckets + n) left q)) ∙ e))
  reach_unlink c d left right {z} other from over frame (step {n = n} l (step l' r)) =
      go (eqb (sh.buckets + n) left) refl (reach_unlink c d left right other from over frame r) (reach_unlink c d left right other from over frame (step l' r))
    where
      go : (t : Bool) → eqb (sh.buckets + n) left ≡ t → Reach d z (c (sh.buckets + (c (sh.buckets + n) / 2)) / 2) → Reach d z (c (sh.buckets + n) / 2)
          → Reach d z n
      go true e x y = let q = eqb-true (sh.buckets + n) left e in
          step l (cast (ap (λ u. c (sh.buckets + u) / 2) (ap (λ u. c u / 2) q ∙ from) ∙ sym over ∙ ap (λ u. d u / 2) (sym q)) x)
      go false e x y = step l (cast (ap (λ u. u / 2) (sym (frame (sh.buckets + n) (eqb-false (sh.buckets + n) left e)))) y)

  -- links change only outside a set that is closed under successors (4, a private node)
  pub reach_outside : (c d : ℕ → ℕ) (S : ℕ → Type 0) {z n : ℕ} → ((q : ℕ) → S q → d (sh.buckets + q) ≡ c (sh.buckets + q))
      → ((q : ℕ) → S q → (c (sh.buckets + q) / 2 ≡ sh.nodes) ⊎ S (c (sh.buckets + q) / 2)) → z < sh.nodes → S n → Reach c z n → Reach d z n
  reach_outside c d S keep closed zn s (stop e) = stop e
  reach_outside c d S {z} keep closed zn s (step {n = n} l r) = go (closed n s) (λ s'. reach_outside c d S keep closed zn s' r) r
    where
      go : (c (sh.buckets + n) / 2 ≡ sh.nodes) ⊎ S (c (sh.buckets + n) / 2) → (S (c (sh.buckets + n) / 2) → Reach d z (c (sh.buckets + n) / 2))
          → Reach c z (c (sh.buckets + n) / 2) → Reach d z n
      go (inl e) ih (stop q) = absurd (omega arith)
      go (inl e) ih (step k _) = absurd (omega arith)
      go (inr s') ih r = step l (cast (ap (λ u. u / 2) (sym (keep n s))) (ih s'))

  -- from a cell, every node of its run is met
  pub run_reach : (c : ℕ → ℕ) (p z : ℕ) (ns : List ℕ) → Runs sh c p ns → ((m : ℕ) → In m ns → m < sh.nodes) → In z ns → Reach c z (c p / 2)
  run_reach c p z [] run small m = elim m [ ]
  run_reach c p z (n ∷ ns) run small (Memᴰ.head e) = stop (run.0 ∙ sym e)
  run_reach c p z (n ∷ ns) run small (Memᴰ.tail i) =
      cast (sym run.0) (step (small n (Memᴰ.head refl)) (run_reach c (sh.buckets + n) z ns run.1 (λ m j. small m (Memᴰ.tail j)) i))

  -- and from a node of it, every higher one
  pub later_reach : (c : ℕ → ℕ) (lt : ℕ → ℕ → Type 0) (irr : (a b : ℕ) → lt a b → lt b a → ⊥) (p x z : ℕ) (ns : List ℕ) → Runs sh c p ns → Ascends lt ns
      → ((m : ℕ) → In m ns → m < sh.nodes) → In x ns → In z ns → lt x z → Reach c z x
  later_reach c lt irr p x z [] run a small m _ l = elim m [ ]
  later_reach c lt irr p x z (n ∷ ns) run a small (Memᴰ.head e) (Memᴰ.head f) l = stop (e ∙ sym f)
  later_reach c lt irr p x z (n ∷ ns) run a small (Memᴰ.head e) (Memᴰ.tail j) l =
      cast (sym e) (step (small n (Memᴰ.head refl)) (run_reach c (sh.buckets + n) z ns run.1 (λ m i. small m (Memᴰ.tail i)) j))
  later_reach c lt irr p x z (n ∷ ns) run a small (Memᴰ.tail i) (Memᴰ.head f) l = absurd (irr x z l (rw f (a.0 x i)))
  later_reach c lt irr p x z (n ∷ ns) run a small (Memᴰ.tail i) (Memᴰ.tail j) l =
      later_reach c lt irr (sh.buckets + n) x z ns run.1 a.1 (λ m k. small m (Memᴰ.tail k)) i j l
