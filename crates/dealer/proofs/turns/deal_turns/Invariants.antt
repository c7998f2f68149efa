-- `turns::deal_turns` keeps the run sound on the rows as they are, and wants what it wanted at first; with each look it has less to do. Assumes nothing.
use Rattle.std.proofs.Common.{◌≡◌}
use Rattle.dealer.specs.Tour.{Sound, wanted, todo}
use Rattle.dealer.proofs.turns.deal_turns.Given as goal

abbrev pub invariant-loop-run : goal.invariant-loop-run
invariant-loop-run l = Sound l.run l.store l.table × (wanted l.run l.store l.table ≡ wanted l.fn.start l.fn.store l.fn.table)

abbrev pub decreases-loop-run : goal.decreases-loop-run
decreases-loop-run l = todo l.run
