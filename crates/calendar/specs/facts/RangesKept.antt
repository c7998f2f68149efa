-- Starts and turns keep every field in its range, but for one leak: a turn at 3 that unlinks a node of distance 0.
--     leaks                              the node that 3 unlinks has distance 0
-- Assumes nothing.
use Rattle.std.specs.Prelude.{List, Bool, ◌&&◌, ℕ, eqb}
use Rattle.arrival.specs.declared.Shape.{Shape}
use Rattle.arrival.specs.declared.Worker.{Worker}
use Rattle.calendar.specs.rules.SearchSteps.{left_holds}
use Rattle.calendar.specs.facts.Views.{view}

-- ── a turn ──
-- the leak: the node that 3 unlinks has distance 0
abbrev pub leaks : Shape → List ℕ → Worker → Bool
leaks sh s w = eqb w.stage 3 && left_holds sh s w && eqb ((view sh s).distance w.right) 0
