-- A start on one record: which refusals it can get after 1 to 4, and what it does otherwise. Assumes nothing.
use Rattle.std.specs.Prelude.{◌≡◌, refl, Bool, cond, List, ◌≢◌, ℕ, eqb}
use Rattle.std.proofs.Common.{sym, ap, ◌∙◌}
use borrow.Author.Tests.{eq-eqb, ne_eqb}
use Rattle.arrival.specs.declared.Shape.{Shape}
use Rattle.arrival.specs.declared.Arrival.{Arrival}
use Rattle.arrival.specs.declared.Worker.{Worker}
use Rattle.calendar.specs.rules.Layout.{started}
use Rattle.calendar.specs.rules.Refusals.{no_ticket, early_own, late_own, enqueue_own, dequeue_own}
use Rattle.laws.specs.FirstOf.{first_of, first_append}
use Rattle.calendar.specs.rules.Starts.{enqueue_start, dequeue_start}
use Rattle.words.specs.Done.{Done, done, refused, unless_refused}
use Rattle.starts.specs.FreeSearch.{first_free_below}

-- before a node is looked for; word 1 is `started`
abbrev pub early_refusal : Arrival → Worker → ℕ → ℕ
early_refusal a w started = first_of (early_own a w (eqb started 4294967295))

-- whether none is free, by the least ticket in progress
abbrev pub none_below : Shape → ℕ → List ℕ → Bool
none_below sh low s = eqb (first_free_below sh s low) sh.nodes

unfoldable pub local_enqueue : Shape → ℕ → List ℕ → Arrival → Worker → Done
local_enqueue sh low s a w =
    unless_refused (first_of (enqueue_own a w (no_ticket sh s) (none_below sh low s))) s w (done sh s (enqueue_start sh s (first_free_below sh s low) a w))

unfoldable pub local_dequeue : Shape → List ℕ → Worker → Done
local_dequeue sh s w = unless_refused (first_of (dequeue_own w (no_ticket sh s))) s w (done sh s (dequeue_start sh s w))

-- 12 comes last: a node is looked for only where nothing refuses before.
late : (a : Arrival) (w : Worker) (spent none : Bool)
    → first_of (enqueue_own a w spent none) ≡ cond (eqb (first_of (early_own a w spent)) 0) (first_of (late_own none)) (first_of (early_own a w spent))
late a w spent none =
    first_append (early_own a w spent) (late_own none) refl

-- by what the code has read: word 1 is x, the refusal before 12 is k, the node n
module _ (sh : Shape) (low : ℕ) (s : List ℕ) (a : Arrival) (w : Worker) (x k n : ℕ) (word : x ≡ started sh s) (early : k ≡ early_refusal a w x) where
  tested : k ≡ early_refusal a w (started sh s)
  tested = early ∙ ap (early_refusal a w) word

  pub at_early : k ≢ 0 → refused s w k ≡ local_enqueue sh low s a w
  unfolding local_enqueue
  at_early h = rw (late a w (no_ticket sh s) (none_below sh low s), ← tested, ne_eqb k 0 h, ne_eqb k 0 h)

  pub at_full : k ≡ 0 → n ≡ first_free_below sh s low → n ≡ sh.nodes → refused s w 12 ≡ local_enqueue sh low s a w
  unfolding local_enqueue
  at_full z f h = rw (late a w (no_ticket sh s) (none_below sh low s), ← tested, eq-eqb k 0 z, eq-eqb (first_free_below sh s low) sh.nodes (sym f ∙ h))

  pub at_begun : k ≡ 0 → n ≡ first_free_below sh s low → n ≢ sh.nodes → done sh s (enqueue_start sh s n a w) ≡ local_enqueue sh low s a w
  unfolding local_enqueue
  at_begun z f h =
      rw (late a w (no_ticket sh s) (none_below sh low s), ← tested, eq-eqb k 0 z, ne_eqb (first_free_below sh s low) sh.nodes (λ q. h (f ∙ q)), ← f)
