-- What is ahead of a walk stays ahead through every change of the links. Assumes nothing.
use Rattle.std.specs.Prelude.{◌≡◌, refl, ◌⊎◌, ℕ, ◌+◌, ◌*◌, ◌/◌, ◌%◌, ◌<◌}
use Rattle.std.proofs.Common.{sym, ap, inl, inr, arith}
use Rattle.arrival.specs.declared.Shape.{Shape}
use Rattle.arrival.proofs.Keys.{lower_trans, lower_irr}
use Rattle.laws.specs.Tests.{upd_same, upd_other}
use Rattle.calendar.specs.rules.Layout.{cell}
use Rattle.calendar.specs.facts.Views.{View, update, item_in, Lt}
use Rattle.lists.specs.Chain.{In}
use Rattle.lists.specs.LinkInvariant.{Chains, Safe, Follows, Lists, Linking, Unlinking, unlinked, own_not_left, safe_next}
use Rattle.lists.specs.Knowledge.{Private, not_private}
use Rattle.lists.specs.LinkPaths.{Reach, reach_link, reach_unlink, reach_outside, run_reach, later_reach}

module _ (sh : Shape) (m : View) (ch : Chains) (Live : ℕ → Type 0) (I : Lists sh m ch Live) (z n : ℕ) (r : Reach sh m.cells z n) where
  pub ahead_link : (b left right own : ℕ) → Linking sh m ch b left right own → Reach sh (update (cell left) (2 * own) m).cells z n
  ahead_link b left right own k =
      reach_link sh m.cells _ left own k.is_node
      (rw (upd_same left left (2 * own) (m.cells left) refl) (omega arith))
      (rw (upd_other left (sh.buckets + own) (2 * own) (m.cells (sh.buckets + own)) (own_not_left sh m ch Live I b left right own k)) (cc (k.was, k.link)))
      (λ q h. upd_other left q (2 * own) (m.cells q) (λ e. h (sym e))) r

  pub ahead_unlink : (b left right seen : ℕ) → Unlinking sh m ch b left right seen → m.cells (sh.buckets + z) % 2 ≡ 0
      → Reach sh (unlinked sh m left right seen).cells z n
  ahead_unlink b left right seen k clean =
      reach_unlink sh m.cells _ left right (λ e. omega (arith, k.link, k.marked, ap (λ y. m.cells (sh.buckets + y)) e)) (omega (arith, k.was))
      (rw (upd_same left left (2 * (seen / 2)) (m.cells left) refl, k.link) (omega arith))
      (λ q h. upd_other left q (2 * (seen / 2)) (m.cells q) (λ e. h (sym e))) r

  pub ahead_private : (c d x v : ℕ) → Live c → n < sh.nodes → z < sh.nodes → Safe sh m ch c n → Private sh m ch d x
      → Reach sh (update (cell (sh.buckets + x)) v m).cells z n
  ahead_private c d x v live nn zn safe p =
      reach_outside sh m.cells _ (λ q. (q < sh.nodes) × Safe sh m ch c q)
      (λ q s. upd_other (sh.buckets + x) (sh.buckets + q) v (m.cells (sh.buckets + q)) (λ e. not_private sh m ch c d x p q s.1 (omega arith)))
      (λ q s. go q (m.cells (sh.buckets + q) / 2) (safe_next sh m ch Live I c q live s.0 s.1)) zn (nn, safe) r
    where
      go : (q y : ℕ) → (y ≡ sh.nodes) ⊎ Follows sh m ch c q y → (y ≡ sh.nodes) ⊎ ((y < sh.nodes) × Safe sh m ch c y)
      go q y (inl e) = inl e
      go q y (inr f) = inr (f.is_node, f.safe)

  -- 10 passing a marked node: what is ahead and unmarked is ahead of its successor
  pub ahead_pass : m.cells (sh.buckets + n) % 2 ≡ 1 → m.cells (sh.buckets + z) % 2 ≡ 0 → Reach sh m.cells z (m.cells (sh.buckets + n) / 2)
  ahead_pass marked clean = go r marked
    where
      go : {n : ℕ} → Reach sh m.cells z n → m.cells (sh.buckets + n) % 2 ≡ 1 → Reach sh m.cells z (m.cells (sh.buckets + n) / 2)
      go (Reach.stop e) h = absurd (omega (arith, ap (λ y. m.cells (sh.buckets + y)) e))
      go (Reach.step l r) h = r

-- 9: all of the chain is ahead of its head; and behind a node of the chain that is ahead, all that is above it
pub ahead_head : (sh : Shape) (m : View) (ch : Chains) (Live : ℕ → Type 0) → Lists sh m ch Live → (b z : ℕ) → b < sh.buckets → In z (ch b)
    → Reach sh m.cells z (m.cells b / 2)
ahead_head sh m ch Live I b z l i = run_reach sh m.cells b z (ch b) (I.runs b l) (λ n j. (I.member b n j).is_node) i

pub ahead_above : (sh : Shape) (m : View) (ch : Chains) (Live : ℕ → Type 0) → Lists sh m ch Live → (b x z : ℕ) → b < sh.buckets → In x (ch b) → In z (ch b)
    → Lt m x z → Reach sh m.cells z x
ahead_above sh m ch Live I b x z l i j lt =
    later_reach sh m.cells (Lt m) (λ p q u v. lower_irr (item_in m p) (lower_trans (item_in m p) (item_in m q) (item_in m p) u v)) b x z (ch b) (I.runs b l)
    (I.ascends b) (λ n k. (I.member b n k).is_node) i j lt
