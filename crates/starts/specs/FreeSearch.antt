-- The first free node, found by the least ticket in progress. Assumes nothing.
use Rattle.std.specs.Prelude.{◌≡◌, List, Bool, true, false, ◌≢◌}
use Rattle.std.proofs.Math.Path.{refl}
use Rattle.std.proofs.Common.{◌∙◌}
use Rattle.std.proofs.Math.Bool.{cond}
use Prim.Native.Nat.{ℕ, zero, suc, ◌-◌, ◌<◌}
use native.Mathlib.Omega.{arith}
use Rattle.arrival.specs.declared.Shape.{Shape}
use Rattle.arrival.specs.declared.Worker.{Worker}
use Rattle.calendar.specs.rules.Layout.{field, read, last_node, standing}
use Rattle.calendar.specs.rules.Ranges.{worker}
use Rattle.calendar.proofs.facts.FirstFree.{after_below}
use Rattle.calendar.specs.rules.Reclaim.{node_after, first_free_of, first_free}
use Rattle.starts.specs.LeastTicket.{least_ticket, free_below, free_is}

-- the first free one of the k nodes that follow n; `nodes` where none is
unfoldable pub free_of_below : Shape → List ℕ → ℕ → ℕ → ℕ → ℕ
free_of_below sh s low zero n = sh.nodes
free_of_below sh s low (suc k) n =
    cond (free_below low (standing sh s (node_after sh n))) (node_after sh n) (free_of_below sh s low k (node_after sh n))

unfoldable pub first_free_below : Shape → List ℕ → ℕ → ℕ
first_free_below sh s low = free_of_below sh s low sh.nodes (last_node sh s)

pub next_below : (sh : Shape) (n : ℕ) → n < sh.nodes → node_after sh n < sh.nodes
next_below sh n h = after_below sh n (omega arith)

-- it is a node, or `nodes`
below_node : (sh : Shape) (s : List ℕ) (low k n : ℕ) → 0 < sh.nodes → free_of_below sh s low k n ≢ sh.nodes → free_of_below sh s low k n < sh.nodes
unfolding free_of_below
below_node sh s low zero n some h = absurd (h refl)
below_node sh s low (suc k) n some h = go (free_below low (standing sh s (node_after sh n))) (below_node sh s low k (node_after sh n) some) h
  where
    go : (b : Bool) → (free_of_below sh s low k (node_after sh n) ≢ sh.nodes → free_of_below sh s low k (node_after sh n) < sh.nodes)
        → cond b (node_after sh n) (free_of_below sh s low k (node_after sh n)) ≢ sh.nodes
        → cond b (node_after sh n) (free_of_below sh s low k (node_after sh n)) < sh.nodes
    go true rest h = after_below sh n some
    go false rest h = rest h

pub first_below_node : (sh : Shape) (s : List ℕ) (low : ℕ) → 0 < sh.nodes → first_free_below sh s low ≢ sh.nodes → first_free_below sh s low < sh.nodes
unfolding first_free_below
first_below_node sh s low some = below_node sh s low sh.nodes (last_node sh s) some

pub free_none : (sh : Shape) (s : List ℕ) (low n : ℕ) → free_of_below sh s low 0 n ≡ sh.nodes
unfolding free_of_below
free_none sh s low n = refl

-- one node on, by what the code has read: the next node m, its standing x, the test's outcome
module _ (sh : Shape) (s : List ℕ) (low k n m x : ℕ) (t : Bool) (some : 0 < k) (here : m ≡ node_after sh n) (seen : x ≡ read sh s (field 7 m))
    (test : t ≡ free_below low x) where
  one_on : free_of_below sh s low k n ≡ cond (free_below low (standing sh s (node_after sh n))) (node_after sh n)
      (free_of_below sh s low (k - 1) (node_after sh n))
  unfolding free_of_below
  one_on = go k some
    where
      go : (k : ℕ) → 0 < k → free_of_below sh s low k n ≡ cond (free_below low (standing sh s (node_after sh n))) (node_after sh n)
          (free_of_below sh s low (k - 1) (node_after sh n))
      go zero h = absurd (omega arith)
      go (suc j) h = let e : suc j - 1 ≡ j = omega arith in rw e

  pub free_here : t ≡ true → free_of_below sh s low k n ≡ m
  free_here e = one_on ∙ rw (← here, ← seen, ← test, e)

  pub free_on : t ≡ false → free_of_below sh s low k n ≡ free_of_below sh s low (k - 1) m
  free_on e = one_on ∙ rw (← here, ← seen, ← test, e)

-- With the least ticket of the table it is the first free node.
module _ (sh : Shape) (s : List ℕ) (t : List Worker) (small : (i : ℕ) → i < sh.workers → (worker t i).ticket < 4294967296) where
  same_of : (k n : ℕ) → free_of_below sh s (least_ticket t sh.workers) k n ≡ first_free_of sh s t k n
  unfolding free_of_below first_free_of
  same_of zero n = refl
  same_of (suc k) n = rw (free_is sh t small (standing sh s (node_after sh n)), same_of k (node_after sh n))

  pub first_free_is : first_free_below sh s (least_ticket t sh.workers) ≡ first_free sh s t
  unfolding first_free_below first_free
  first_free_is = same_of sh.nodes (last_node sh s)
