-- An action's refusal in two parts, for all actions at once: the memory's tests, and behind them its own.
--     own_of, tests_of                the tests of its own; all of them
-- Assumes nothing.
use Rattle.std.specs.Prelude.{List, ◌++◌, Bool, ℕ}
use Rattle.arrival.specs.declared.Shape.{Shape}
use Rattle.arrival.specs.declared.Action.{Action}
use Rattle.calendar.specs.rules.Ranges.{worker}
use Rattle.calendar.specs.rules.Refusals.{no_node, memory_of, own_tests}
use Rattle.calendar.specs.rules.Operations.{Memory, actor}

abbrev pub own_of : Shape → Memory → Action → List (ℕ × Bool)
own_of sh m a = own_tests sh m.store (no_node sh m.store m.table) a (worker m.table (actor a))

abbrev pub tests_of : Shape → Memory → Action → List (ℕ × Bool)
tests_of sh m a = memory_of sh m.store m.table (actor a) ++ own_of sh m a
