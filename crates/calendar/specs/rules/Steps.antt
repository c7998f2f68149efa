-- The turn by stage: one rule for each of 1 to 13. Assumes nothing.
use Rattle.std.specs.Prelude.{List, [], ◌∷◌, ℕ, get_or}
use Rattle.arrival.specs.declared.Shape.{Shape}
use Rattle.arrival.specs.declared.Worker.{Worker}
use Rattle.calendar.specs.rules.Outcome.{Outcome, on}
use Rattle.calendar.specs.rules.SearchSteps.{step_1, step_2, step_3}
use Rattle.calendar.specs.rules.EnqueueSteps.{step_4, step_5, step_6, step_7}
use Rattle.calendar.specs.rules.DequeueSteps.{step_8, step_9, step_10, step_11, step_12, step_13}

abbrev pub Rule : Type 0
Rule = Shape → List ℕ → Worker → Outcome

-- Stage 0 is idle, and beyond 13 there is no stage: such a turn is refused.
unfoldable pub no_step : Rule
no_step sh s w = on [] w.stage w

abbrev pub rules : List Rule
rules = no_step ∷ step_1 ∷ step_2 ∷ step_3 ∷ step_4 ∷ step_5 ∷ step_6 ∷ step_7 ∷ step_8 ∷ step_9 ∷ step_10 ∷ step_11 ∷ step_12 ∷ step_13 ∷ []

-- the rule of the worker's stage
unfoldable pub step : Rule
step sh s w = get_or rules w.stage no_step sh s w
