-- One dealt turn, on any memory.
--     Able                      1, 2 and 4 do not apply: neither the lengths nor the dealer are refused
-- Assumes nothing.
use Rattle.std.specs.Prelude.{◌≡◌, false, ℕ, ◌<◌}
use Rattle.arrival.specs.declared.Shape.{Shape}
use Rattle.calendar.specs.rules.Refusals.{bad_shape, too_short}
use Rattle.calendar.specs.rules.Operations.{Memory}

-- 1, 2 and 4 do not apply
pub record Able (sh : Shape) (m : Memory) (last : ℕ) : Type 0 where
  pub shape : bad_shape sh ≡ false
  pub long : too_short sh m.store m.table ≡ false
  pub exists : last < sh.workers
