-- Over every history from an opening: while a call stands on a node, the arrival in it stays, and so does its epoch, but where
-- the call itself prepares it at 4.
--     Throughout, StandsOn, OnlyStandsOn     before each action of a history; on the node; and not preparing it
-- Assumes nothing.
use Rattle.std.specs.Prelude.{◌≡◌, true, ◌≢◌, ℕ}
use mathlib.Core.List.{List, [], ◌∷◌}
use Rattle.arrival.specs.declared.Shape.{Shape}
use Rattle.arrival.specs.declared.Worker.{Worker}
use Rattle.arrival.specs.declared.Action.{Action}
use Rattle.calendar.specs.rules.Ranges.{worker}
use Rattle.calendar.specs.rules.Snapshot.{holds}
use Rattle.calendar.specs.rules.Operations.{Memory, act}

-- ── along a history ──
-- P of worker j's record before each action
abbrev pub Throughout : Shape → (Worker → Type 0) → ℕ → Memory → List Action → Type 0
Throughout sh P j m [] = Unit {0}
Throughout sh P j m (a ∷ h) = P (worker m.table j) × Throughout sh P j (act sh m a).memory h

-- a call stands on x; and it does not prepare x, as a put's turn at 4 does its own node
abbrev pub StandsOn : Shape → ℕ → Worker → Type 0
StandsOn sh x w = holds sh w x ≡ true

abbrev pub OnlyStandsOn : Shape → ℕ → Worker → Type 0
OnlyStandsOn sh x w = StandsOn sh x w × (w.stage ≡ 4 → w.own ≢ x)
