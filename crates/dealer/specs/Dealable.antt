-- A dealt turn on memory that 1, 2 and 4 do not refuse and that is in range as far as it was looked at.
--     Kept, Dealable             in range, all of it or the three first words; and the lengths and the dealer suffice
--     MayTurn                    what lets the turn be made
--     leaks_of                    whether a look at everything finds something out of range past a turn
-- Assumes nothing.
use Rattle.std.specs.Prelude.{◌≡◌, List, Bool, true, false, ◌&&◌, ◌||◌, ℕ, ◌<◌}
use Rattle.arrival.specs.declared.Shape.{Shape}
use Rattle.arrival.specs.declared.Worker.{Worker}
use Rattle.calendar.specs.rules.Ranges.{record_in_range}
use Rattle.calendar.specs.rules.Operations.{Memory}
use Rattle.calendar.specs.facts.RangeFacts.{WordRanges}
use Rattle.calendar.specs.facts.RangesKept.{leaks}
use Rattle.calendar.specs.facts.Accepted.{Lent}
use Rattle.admission.specs.Watched.{in_range}

-- what is known to be in range
abbrev pub Kept : Bool → Shape → Memory → Type 0
Kept true sh m = in_range sh m ≡ true
Kept false sh m = WordRanges sh m.store

pub record Dealable (whole : Bool) (sh : Shape) (m : Memory) (last : ℕ) : Type 0 where
  pub lent : Lent sh m.store m.table
  pub inside : last < sh.workers
  pub kept : Kept whole sh m

-- nothing but a record can be out of range
abbrev pub MayTurn : Bool → Shape → Worker → Type 0
MayTurn whole sh w = (whole || record_in_range sh w) ≡ true

-- whether a look at everything finds something out of range past the turn of w
abbrev pub leaks_of : Bool → Shape → List ℕ → Worker → Bool
leaks_of whole sh s w = whole && leaks sh s w
