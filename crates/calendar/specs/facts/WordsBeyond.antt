-- Words beyond the layout are not read: on a longer store an operation does the same, and keeps the rest.
--     longer, keeping              words behind the store; a result that keeps them
-- Assumes nothing.
use mathlib.Core.List.{List, ◌++◌}
use Prim.Native.Nat.{ℕ}
use Rattle.calendar.specs.rules.Operations.{Memory, Result}

-- the same memory with words v behind its store
abbrev pub longer : Memory → List ℕ → Memory
longer m v = record { store = m.store ++ v; table = m.table }

abbrev pub keeping : Result → List ℕ → Result
keeping r v = record { memory = longer r.memory v; response = r.response }
