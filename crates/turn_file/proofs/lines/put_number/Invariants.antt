-- Storing the digits of the rest would finish the number: the loop keeps this, and the last digit is the rest.
use Rattle.std.proofs.Common.{◌≡◌, ◌+◌, ◌≤◌, length}
use Rattle.std.proofs.lemmas.List.Edits.{sets}
use Rattle.turn_file.specs.Decimal.{decimal}
use Rattle.turn_file.proofs.lines.put_number.Given as goal

abbrev pub invariant-loop-rest : goal.invariant-loop-rest
invariant-loop-rest l = record {
  place : l.place ≡ l.at + length (decimal l.rest);
  within : l.place ≤ l.at + l.count;
  stored : sets l.out l.at (decimal l.rest) ≡ sets l.initial.out l.at (decimal l.fn.x);
}

abbrev pub decreases-loop-rest : goal.decreases-loop-rest
decreases-loop-rest l = l.rest
