-- A flag in place of refusal 3's look at every field: set by an opening, cleared by the one turn that leaves the ranges.
--     Watched                         what refusal 3 tests; that the flag says it
-- Assumes nothing.
use Rattle.std.specs.Prelude.{◌≡◌, Bool, ◌&&◌}
use Rattle.arrival.specs.declared.Shape.{Shape}
use Rattle.calendar.specs.rules.Ranges.{store_in_range, table_in_range}
use Rattle.calendar.specs.facts.Accepted.{Lent}
use Rattle.calendar.specs.rules.Operations.{Memory}

-- what refusal 3 tests
abbrev pub in_range : Shape → Memory → Bool
in_range sh m = store_in_range sh m.store && table_in_range sh m.table

-- the flag says it, where 1 and 2 do not apply
abbrev pub Watched : Shape → Memory → Bool → Type 0
Watched sh m sound = Lent sh m.store m.table → sound ≡ in_range sh m
