-- The first free node is a node, free, and the first; where there is none no node is free.
--     after_below                          the node after a node is a node
--     first_free_node, first_free_free     the node handed out is a node, and free
--     none_before, none_free               none before it is free; where there is none, no node is free
-- Assumes nothing.
use Rattle.std.specs.Prelude.{◌≡◌, List, Bool, ◌⊎◌, ◌≢◌, ltb}
use Rattle.std.proofs.Math.Path.{refl}
use Rattle.std.proofs.Math.Bool.{true, false, cond}
use Rattle.std.proofs.Math.Logic.{inl, inr}
use Prim.Native.Nat.{ℕ, zero, suc, ◌+◌, ◌<◌, ◌≤◌}
use Rattle.std.proofs.Common.{arith, ltb-true, ltb-false}
use Rattle.std.proofs.Math.Decide.{dec_lt, ℕ_discrete}
use Rattle.arrival.specs.declared.Shape.{Shape}
use Rattle.arrival.specs.declared.Worker.{Worker}
use Rattle.calendar.specs.rules.Layout.{last_node}
use Rattle.calendar.specs.rules.Reclaim.{is_free_node, node_after, first_free_of, first_free}
use Rattle.calendar.specs.facts.FirstFree.{Before}

pub after_below : (sh : Shape) (n : ℕ) → 0 < sh.nodes → node_after sh n < sh.nodes
after_below sh n h = go (ltb (n + 1) sh.nodes) refl
  where
    go : (t : Bool) → ltb (n + 1) sh.nodes ≡ t → cond t (n + 1) 0 < sh.nodes
    go true e = ltb-true _ _ e
    go false e = omega arith

module _ (sh : Shape) (s : List ℕ) (t : List Worker) where
  first_of : (k n : ℕ) → n < sh.nodes → first_free_of sh s t k n ≢ sh.nodes
      → (first_free_of sh s t k n < sh.nodes) × (is_free_node sh s t (first_free_of sh s t k n) ≡ true)
  unfolding first_free_of
  first_of zero n h e = absurd (e refl)
  first_of (suc k) n h e = go (is_free_node sh s t (node_after sh n)) refl e (first_of k (node_after sh n) (after_below sh n (omega arith)))
    where
      go : (u : Bool) → is_free_node sh s t (node_after sh n) ≡ u → cond u (node_after sh n) (first_free_of sh s t k (node_after sh n)) ≢ sh.nodes
          → (first_free_of sh s t k (node_after sh n) ≢ sh.nodes
          → (first_free_of sh s t k (node_after sh n) < sh.nodes) × (is_free_node sh s t (first_free_of sh s t k (node_after sh n)) ≡ true))
          → (cond u (node_after sh n) (first_free_of sh s t k (node_after sh n)) < sh.nodes)
          × (is_free_node sh s t (cond u (node_after sh n) (first_free_of sh s t k (node_after sh n))) ≡ true)
      go true f q rec = (after_below sh n (omega arith), f)
      go false f q rec = rec q

  pub first_free_node : last_node sh s < sh.nodes → first_free sh s t ≢ sh.nodes → first_free sh s t < sh.nodes
  unfolding first_free
  first_free_node l h = (first_of sh.nodes (last_node sh s) l h).0

  pub first_free_free : last_node sh s < sh.nodes → first_free sh s t ≢ sh.nodes → is_free_node sh s t (first_free sh s t) ≡ true
  unfolding first_free
  first_free_free l h = (first_of sh.nodes (last_node sh s) l h).1

  -- one step on, it still does
  nearer : (n x y : ℕ) → n < sh.nodes → x < sh.nodes → (v : Bool) → ltb (n + 1) sh.nodes ≡ v → x ≢ cond v (n + 1) 0 → Before n x y
      → Before (cond v (n + 1) 0) x y
  nearer n x y hn hx true g d (inl p) = inl (omega arith, omega arith)
  nearer n x y hn hx true g d (inr (p, inl q)) = inr (omega arith, inl (omega arith))
  nearer n x y hn hx true g d (inr (p, inr q)) = inr (omega arith, inr q)
  nearer n x y hn hx false g d (inl p) = absurd (omega (arith, ltb-false (n + 1) sh.nodes g))
  nearer n x y hn hx false g d (inr (p, inl q)) = absurd (omega (arith, ltb-false (n + 1) sh.nodes g))
  nearer n x y hn hx false g d (inr (p, inr q)) = inl (omega arith, omega arith)

  -- nothing comes before the very next
  next_first : (n x : ℕ) → n < sh.nodes → x < sh.nodes → (v : Bool) → ltb (n + 1) sh.nodes ≡ v → Before n x (cond v (n + 1) 0) → ⊥
  next_first n x hn hx true g (inl p) = omega arith
  next_first n x hn hx true g (inr p) = omega arith
  next_first n x hn hx false g (inl p) = omega arith
  next_first n x hn hx false g (inr (p, inl q)) = omega (arith, ltb-false (n + 1) sh.nodes g)
  next_first n x hn hx false g (inr (p, inr q)) = omega arith

  not_before : (k n : ℕ) → n < sh.nodes → first_free_of sh s t k n ≢ sh.nodes → (x : ℕ) → x < sh.nodes → Before n x (first_free_of sh s t k n)
      → is_free_node sh s t x ≡ false
  unfolding first_free_of
  not_before zero n hn e x hx p = absurd (e refl)
  not_before (suc k) n hn e x hx p =
      go (is_free_node sh s t (node_after sh n)) refl e (ℕ_discrete x (node_after sh n)) p
      (λ q r. not_before k (node_after sh n) (after_below sh n (omega arith)) q x hx r)
    where
      go : (u : Bool) → is_free_node sh s t (node_after sh n) ≡ u → cond u (node_after sh n) (first_free_of sh s t k (node_after sh n)) ≢ sh.nodes
          → Dec (x ≡ node_after sh n) → Before n x (cond u (node_after sh n) (first_free_of sh s t k (node_after sh n)))
          → (first_free_of sh s t k (node_after sh n) ≢ sh.nodes → Before (node_after sh n) x (first_free_of sh s t k (node_after sh n))
          → is_free_node sh s t x ≡ false) → is_free_node sh s t x ≡ false
      go true f q d r rec = absurd (next_first n x hn hx (ltb (n + 1) sh.nodes) refl r)
      go false f q (yes d) r rec = rw d f
      go false f q (no d) r rec = rec q (nearer n x _ hn hx (ltb (n + 1) sh.nodes) refl d r)

  -- FIRST MEANS FIRST: no node between word 2 and the one handed out, going round, is free.
  pub none_before : last_node sh s < sh.nodes → first_free sh s t ≢ sh.nodes → (x : ℕ) → x < sh.nodes → Before (last_node sh s) x (first_free sh s t)
      → is_free_node sh s t x ≡ false
  unfolding first_free
  none_before l h = not_before sh.nodes (last_node sh s) l h

  -- x is among the k nodes that follow n
  abbrev Among : ℕ → ℕ → ℕ → Type 0
  Among k n x = ((n < x) × (x ≤ n + k)) ⊎ (x + sh.nodes ≤ n + k)

  -- one step on, x is among one fewer
  closer : (k n x : ℕ) → n < sh.nodes → x < sh.nodes → (v : Bool) → ltb (n + 1) sh.nodes ≡ v → x ≢ cond v (n + 1) 0
      → Among (suc k) n x → Among k (cond v (n + 1) 0) x
  closer k n x hn hx true g d (inl p) = inl (omega arith)
  closer k n x hn hx true g d (inr p) = inr (omega arith)
  closer k n x hn hx false g d (inl p) = absurd (omega (arith, ltb-false (n + 1) sh.nodes g))
  closer k n x hn hx false g d (inr p) = inl (omega (arith, ltb-false (n + 1) sh.nodes g))

  none_of : (k n : ℕ) → n < sh.nodes → first_free_of sh s t k n ≡ sh.nodes → (x : ℕ) → x < sh.nodes → Among k n x → is_free_node sh s t x ≡ false
  unfolding first_free_of
  none_of zero n hn e x hx (inl p) = absurd (omega arith)
  none_of zero n hn e x hx (inr p) = absurd (omega arith)
  none_of (suc k) n hn e x hx p =
      go (is_free_node sh s t (node_after sh n)) refl e (ℕ_discrete x (node_after sh n))
      (λ d q. none_of k (node_after sh n) (after_below sh n (omega arith)) q x hx (closer k n x hn hx (ltb (n + 1) sh.nodes) refl d p))
    where
      go : (u : Bool) → is_free_node sh s t (node_after sh n) ≡ u → cond u (node_after sh n) (first_free_of sh s t k (node_after sh n)) ≡ sh.nodes
          → Dec (x ≡ node_after sh n)
          → (x ≢ node_after sh n → first_free_of sh s t k (node_after sh n) ≡ sh.nodes → is_free_node sh s t x ≡ false) → is_free_node sh s t x ≡ false
      go true f q d rec = absurd (omega (arith, after_below sh n (omega arith)))
      go false f q (yes d) rec = rw d f
      go false f q (no d) rec = rec d q

  -- A put is refused by 12 only where no node is free.
  pub none_free : last_node sh s < sh.nodes → first_free sh s t ≡ sh.nodes → (x : ℕ) → x < sh.nodes → is_free_node sh s t x ≡ false
  unfolding first_free
  none_free l e x hx = none_of sh.nodes (last_node sh s) l e x hx (pick (dec_lt (last_node sh s) x))
    where
      pick : Dec (last_node sh s < x) → Among sh.nodes (last_node sh s) x
      pick (yes p) = inl (omega arith)
      pick (no p) = inr (omega arith)
