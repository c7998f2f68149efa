-- Nodes, their tickets, and what lies behind a node on its links. Assumes nothing.
use Rattle.std.specs.Prelude.{◌≡◌, ◌⊎◌, ℕ, ◌+◌, ◌/◌, ◌≤◌, ◌<◌}
use Rattle.std.proofs.Common.{sym, subst, inl, inr, arith}
use Rattle.std.proofs.Math.Decide.{ℕ_discrete}
use Rattle.arrival.specs.declared.Shape.{Shape}
use Rattle.arrival.specs.declared.Worker.{Worker}
use Rattle.arrival.proofs.Keys.{lower_trans}
use Rattle.calendar.specs.facts.Views.{View, item_in, Lt}
use Rattle.lists.specs.LinkInvariant.{Chains, Safe, Follows, Lists, safe_next}
use Rattle.lists.specs.AllCalls.{Inv}
use Rattle.lists.specs.LinkPaths.{Reach}

pub reach_trans : (sh : Shape) (c : ℕ → ℕ) {k n r : ℕ} → Reach sh c k n → Reach sh c n r → Reach sh c k r
reach_trans sh c {k} {n} a (Reach.stop {n = r} e) = subst (λ y. Reach sh c k y) (sym e) a
reach_trans sh c a (Reach.step l r) = Reach.step l (reach_trans sh c a r)

-- what is met from a safe node is that node or above it
pub reach_above : (sh : Shape) (m : View) (ch : Chains) (Live : ℕ → Type 0) → Lists sh m ch Live → (c n : ℕ) {r : ℕ} → Live c → n < sh.nodes → Safe sh m ch c r
    → Reach sh m.cells n r → (r ≡ n) ⊎ Lt m r n
reach_above sh m ch Live I c n v nn s (Reach.stop e) = inl e
reach_above sh m ch Live I c n v nn s (Reach.step {n = r} l rest) =
    go (m.cells (sh.buckets + r) / 2) (safe_next sh m ch Live I c r v l s) rest (λ f. reach_above sh m ch Live I c n v nn f rest)
  where
    go : (q : ℕ) → (q ≡ sh.nodes) ⊎ Follows sh m ch c r q → Reach sh m.cells n q → (Safe sh m ch c q → (q ≡ n) ⊎ Lt m q n) → (r ≡ n) ⊎ Lt m r n
    go q (inl e) (Reach.stop f) ih = absurd (omega arith)
    go q (inl e) (Reach.step k _) ih = absurd (omega arith)
    go q (inr f) _ ih = pick (ih f.safe)
      where
        pick : (q ≡ n) ⊎ Lt m q n → (r ≡ n) ⊎ Lt m r n
        pick (inl e) = inr (subst (λ y. Lt m r y) e f.above)
        pick (inr h) = inr (lower_trans (item_in m r) (item_in m q) (item_in m n) f.above h)

-- two nodes with one ticket are one
pub one_node : (sh : Shape) (m : View) (ch : Chains) (T : ℕ → Worker) → Inv sh m ch T → (a b : ℕ) → a < sh.nodes → b < sh.nodes → 1 ≤ m.ticket a
    → m.ticket a ≡ m.ticket b → a ≡ b
one_node sh m ch T P a b la lb pos e = go (ℕ_discrete a b)
  where
    go : Dec (a ≡ b) → a ≡ b
    go (yes h) = h
    go (no n) = absurd (omega (arith, P.unique a b la lb n e))
