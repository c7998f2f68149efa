-- Before each round the definition was followed so far, and the tickets are the table's.
use Rattle.std.proofs.Common.{◌≡◌, ◌-◌, length}
use Rattle.batch.specs.CodeView.{begins}
use Rattle.batch.specs.Tickets.{tickets_of}
use Rattle.batch.specs.RoundArms.{Round}
use Rattle.batch.proofs.run_batch.Given as goal

abbrev pub invariant-loop-tickets : goal.invariant-loop-tickets
invariant-loop-tickets l = record {
  round : Round l.input (begins l.fn.pool l.initial.store l.initial.at l.initial.out l.initial.to) l.fn.pool.held (length l.store) l.known.records
      (length l.out) l.known.shape l.store l.table l.at l.out l.to l.known.sound l.known.held;
  tickets : l.tickets ≡ tickets_of l.table;
  records : l.known.records ≡ l.fn.pool.records;
}

abbrev pub decreases-loop-tickets : goal.decreases-loop-tickets
decreases-loop-tickets l = length l.input - l.at
