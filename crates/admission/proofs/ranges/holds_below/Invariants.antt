-- `ranges::holds_below` makes every test: so far all hold, or not. Assumes nothing.
use Rattle.std.proofs.Common.{◌≡◌, ◌<◌, ℕ, Bool}
use Rattle.laws.specs.Counting.{every}
use Rattle.admission.proofs.ranges.holds_below.Given as goal

abbrev pub invariant-loop-k : goal.invariant-loop-k
invariant-loop-k g l = (f : ℕ → Bool) → ((k : ℕ) (r : Bool) → k < l.n → goal.F-post g l.holds k r → r ≡ f k) → l.ok ≡ every l.k f
