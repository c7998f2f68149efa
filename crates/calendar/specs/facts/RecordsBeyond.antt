-- Records beyond the workers are not read: on a longer table an operation does the same, and keeps the rest.
--     longer, keeping                                  records behind the table; a result that keeps them
-- Assumes nothing.
use mathlib.Core.List.{List, ◌++◌}
use Rattle.arrival.specs.declared.Worker.{Worker}
use Rattle.calendar.specs.rules.Operations.{Memory, Result}

abbrev pub longer : Memory → List Worker → Memory
longer m u = record { store = m.store; table = m.table ++ u }

abbrev pub keeping : Result → List Worker → Result
keeping r u = record { memory = longer r.memory u; response = r.response }
