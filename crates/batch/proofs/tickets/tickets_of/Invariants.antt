-- The tickets before `i` are those of the records, the others are 2^32.
use Rattle.std.proofs.Common.{◌≡◌, ◌++◌, take, drop, replicate}
use Rattle.batch.specs.Tickets.{tickets_of}
use Rattle.batch.proofs.tickets.tickets_of.Given as goal

abbrev pub invariant-loop-i : goal.invariant-loop-i
invariant-loop-i l = l.tickets ≡ take l.i (tickets_of l.table) ++ drop l.i (replicate 64 4294967296)
