-- `ranges::holds_below` makes every test: so far all hold, or not. Assumes nothing.
use Rattle.std.proofs.Common.{sym}
use Rattle.laws.proofs.Counting.{every_none, every_step}
use Rattle.admission.proofs.ranges.holds_below.Goals as goal

pub loop-k-init : goal.loop-k-init
loop-k-init g c = λ f is. sym (every_none f)

pub loop-k-preserved : goal.loop-k-preserved
loop-k-preserved g c = λ f is. rw (every_step, ← c.loop-k.invariant f is, ← is _ _ c.loop-k-test.true c.holds-ok.ensures)
