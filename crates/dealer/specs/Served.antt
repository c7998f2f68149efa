-- Whom the dealer serves: the first worker after it that has a call in progress, and none is passed over on the way round.
--     nth_after                   the k-th worker after one, going round
--     Round                          which number that is
--     FirstBusy                  who is served is the first after the dealer: none between the two has a call in progress
--     Ahead                      among the k workers that follow n
-- Assumes nothing.
use Rattle.std.specs.Prelude.{◌≡◌, List, true, false, ◌⊎◌}
use Prim.Native.Nat.{ℕ, zero, suc, ◌+◌, ◌<◌, ◌≤◌}
use Rattle.arrival.specs.declared.Shape.{Shape}
use Rattle.arrival.specs.declared.Worker.{Worker}
use Rattle.calendar.specs.rules.Ranges.{worker}
use Rattle.calendar.specs.rules.Reclaim.{in_progress}
use Rattle.dealer.specs.Dealing.{worker_after}

-- ── none between ──
-- the k-th worker after n, going round
unfoldable pub nth_after : Shape → ℕ → ℕ → ℕ
nth_after sh zero n = n
nth_after sh (suc k) n = nth_after sh k (worker_after sh n)

-- that is n + k, or as many fewer as there are workers
abbrev pub Round : Shape → ℕ → ℕ → ℕ → Type 0
Round sh k n x = ((n + k < sh.workers) × (x ≡ n + k)) ⊎ ((sh.workers ≤ n + k) × (x + sh.workers ≡ n + k))

-- j is the first of the k workers after n that has a call in progress: it is one of them, and those between n and j have none
pub record FirstBusy (sh : Shape) (t : List Worker) (k n j : ℕ) : Type 0 where
  pub place : ℕ
  pub from_1 : 1 ≤ place
  pub to_k : place ≤ k
  pub is : j ≡ nth_after sh place n
  pub busy : in_progress (worker t j) ≡ true
  pub idle_between : (b : ℕ) → 1 ≤ b → b < place → in_progress (worker t (nth_after sh b n)) ≡ false

-- ── on the way round ──
-- x is among the k workers that follow n
abbrev pub Ahead : Shape → ℕ → ℕ → ℕ → Type 0
Ahead sh k n x = ((n < x) × (x ≤ n + k)) ⊎ (x + sh.workers ≤ n + k)
