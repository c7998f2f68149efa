-- One round of the loop over dealt turns, arm by arm: from what the code has at its end to what the whole run leaves.
--     Round                           what the loop keeps
-- Assumes nothing.
use Rattle.std.specs.Prelude.{◌≡◌, List, Bool, ℕ, ◌-◌, ◌<◌}
use Rattle.arrival.specs.declared.Shape.{Shape}
use Rattle.arrival.specs.declared.Worker.{Worker}
use Rattle.wubraken.specs.Results.{lent}
use Rattle.dealer.specs.Dealing.{Deal, dealt_on}
use Rattle.dealer.specs.Dealable.{Dealable}
use Rattle.dealer.specs.DealLoop.{running}

-- some turns are dealt, and all of them went on: what is left to deal gives `goal`
pub record Round (whole : Bool) (sh : Shape) (turns : ℕ) (goal : Deal) (s : List ℕ) (t : List Worker) (last made : ℕ) : Type 0 where
  pub able : Dealable whole sh (lent s t) last
  pub more : made < turns
  pub same : dealt_on whole sh (turns - made) (running (lent s t) last made) ≡ goal
