-- What a call stands on is safe for it, or its private node: a node that is neither it does not stand on. Assumes nothing.
use Rattle.std.specs.Prelude.{◌≡◌, refl, Bool, true, false, ◌&&◌, ◌||◌, ◌≢◌, ◌⊎◌, ℕ, ◌+◌, ◌≤◌, ◌<◌, eqb, leb}
use Rattle.std.proofs.Common.{inl, inr, arith, eqb-true, leb-true, leb-false}
use Rattle.arrival.specs.declared.Shape.{Shape}
use Rattle.arrival.specs.declared.Worker.{Worker}
use Rattle.laws.specs.Tests.{parts, either, within}
use Rattle.calendar.specs.rules.Layout.{link_cell}
use Rattle.calendar.specs.rules.Ranges.{between}
use Rattle.calendar.specs.rules.Snapshot.{holds}
use Rattle.calendar.specs.facts.Views.{View}
use Rattle.lists.specs.LinkInvariant.{Chains}
use Rattle.lists.specs.Knowledge.{Private, Stands}
use Rattle.lists.specs.AllCalls.{Knows}
use Rattle.lists.specs.Searching.{Left}

module _ (sh : Shape) (v : View) (ch : Chains) (w : Worker) (k : Knows sh v ch w) (x : ℕ) (is_node : x < sh.nodes)
    (stands-off : (b n : ℕ) → w.stage ≢ 0 → Stands sh v ch w.ticket b n → n ≢ x)
    (private-off : w.stage ≢ 0 → Private sh v ch w.ticket w.own → w.own ≢ x) where
  own_off : 1 ≤ w.stage → w.stage ≤ 7 → w.own ≢ x
  own_off a b = go (leb w.stage 5) refl k.kinds
    where
      go : (t : Bool) → leb w.stage 5 ≡ t → (w.kind ≡ 0) ⊎ (w.kind ≡ 1) → w.own ≢ x
      go true t (inl z) = let h = leb-true w.stage 5 t in private-off (λ e. omega arith) ((k.search a h).enqueue_own z h)
      go true t (inr z) = let h = leb-true w.stage 5 t in stands-off _ _ (λ e. omega arith) ((k.search a h).dequeue_own z (k.dequeues z b)).stands
      go false t z = stands-off _ _ (λ e. omega arith) (k.linked (omega (arith, leb-false w.stage 5 t)) b).node

  left_off : 2 ≤ w.stage → w.stage ≤ 5 → w.left ≢ sh.buckets + x
  left_off a b e = go ((k.search (omega arith) b).left a b)
    where
      go : Left sh v ch w → ⊥
      go (inl q) = omega (arith, (k.search (omega arith) b).range)
      go (inr (n, q, st, lt)) = stands-off _ _ (λ u. omega arith) st (omega arith)

  right_off : ((2 ≤ w.stage) × (w.stage ≤ 5)) ⊎ ((10 ≤ w.stage) × (w.stage ≤ 11)) → w.right ≢ x
  right_off (inl (a, b)) e = go ((k.search (omega arith) b).right a b)
    where
      go : (w.right ≡ sh.nodes) ⊎ Stands sh v ch w.ticket w.bucket w.right → ⊥
      go (inl q) = omega arith
      go (inr st) = stands-off _ _ (λ u. omega arith) st e
  right_off (inr (a, b)) e = stands-off _ _ (λ u. omega arith) (k.stand a b) e

  pub not_stood_on : holds sh w x ≡ false
  not_stood_on = go (holds sh w x) refl
    where
      on_right : (between 2 5 w.stage ≡ true) ⊎ (between 10 11 w.stage ≡ true) → w.right ≢ x
      on_right (inl e) = right_off (inl (within 2 5 w.stage e))
      on_right (inr e) = right_off (inr (within 10 11 w.stage e))

      on_left : ((between 1 7 w.stage && eqb w.own x) ≡ true) ⊎ ((between 2 5 w.stage && eqb w.left (link_cell sh x)) ≡ true) → ⊥
      on_left (inl e) = let (p, q) = parts _ _ e in let (a, b) = within 1 7 w.stage p in own_off a b (eqb-true w.own x q)
      on_left (inr e) = let (p, q) = parts _ _ e in let (a, b) = within 2 5 w.stage p in left_off a b (eqb-true w.left (link_cell sh x) q)

      by : ((between 1 7 w.stage && eqb w.own x || between 2 5 w.stage && eqb w.left (link_cell sh x)) ≡ true)
          ⊎ (((between 2 5 w.stage || between 10 11 w.stage) && eqb w.right x) ≡ true) → ⊥
      by (inl e) = on_left (either _ _ e)
      by (inr e) = let (p, q) = parts _ _ e in on_right (either _ _ p) (eqb-true w.right x q)

      go : (t : Bool) → holds sh w x ≡ t → t ≡ false
      go true e = absurd (by (either _ _ e))
      go false e = refl
