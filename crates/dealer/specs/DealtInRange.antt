-- Where the memory stays in range whatever is done, it does so under dealt turns, and no dealt turn is refused by 3.
--     InRange                        a memory in range; on it no start or turn is refused by 3
--     KeptAfter                      what such a list keeps: in range, and 1, 2 and 4 do not apply
-- Assumes nothing.
use Rattle.std.specs.Prelude.{◌≡◌, true, ℕ}
use Rattle.arrival.specs.declared.Shape.{Shape}
use Rattle.calendar.specs.rules.Ranges.{store_in_range, table_in_range}
use Rattle.calendar.specs.rules.Operations.{Memory}
use Rattle.calendar.specs.facts.HostRun.{StaysInRange}
use Rattle.dealer.specs.DealtTurn.{Able}

abbrev pub InRange : Shape → Memory → Type 0
InRange sh m = (store_in_range sh m.store ≡ true) × (table_in_range sh m.table ≡ true)

abbrev pub KeptAfter : Shape → Memory → ℕ → Type 0
KeptAfter sh m last = StaysInRange sh m × Able sh m last
