-- A narrow call of several turns is its starts and turns one by one, and keeps what each of them keeps.
--     all_go_on, OneByOne                                      it is a start or turn and some turns of its worker, all but the last going on
-- Assumes nothing.
use Rattle.std.specs.Prelude.{◌≡◌, List, [], ◌∷◌, ◌++◌, Bool, true, false, ◌&&◌, ℕ, suc, ◌<◌, ◌≤◌, replicate, take}
use Rattle.arrival.specs.declared.Shape.{Shape}
use Rattle.arrival.specs.declared.Action.{Action}
use Rattle.arrival.specs.declared.Action.TheVariants.{Step}
use Rattle.arrival.specs.declared.Response.{Response}
use Rattle.arrival.specs.declared.Response.TheVariants.{Refused}
use Rattle.calendar.specs.rules.Operations.{Memory, actor}
use Rattle.calendar.specs.rules.NarrowCalls.{goes_on, narrow_call, narrow_made, narrow_run, narrow_responses}

-- ── one by one ──
abbrev pub all_go_on : List Response → Bool
all_go_on [] = true
all_go_on (r ∷ rs) = goes_on r && all_go_on rs

pub record OneByOne (sh : Shape) (m : Memory) (a : Action) (n : ℕ) : Type 0 where
  -- how many turns come behind a, and what is answered in front of the last
  pub turns : ℕ
  pub before : List Response
  pub at_most : turns ≤ n
  pub made : narrow_made sh m a n ≡ a ∷ replicate turns (Step (actor a))
  pub memory : (narrow_call sh m a n).memory ≡ narrow_run sh m (narrow_made sh m a n)
  pub responses : narrow_responses sh m (narrow_made sh m a n) ≡ before ++ (narrow_call sh m a n).response ∷ []
  pub go_on : all_go_on before ≡ true
  -- it stops before the limit only where nothing goes on
  pub stops : turns < n → goes_on (narrow_call sh m a n).response ≡ false
  -- a refusal leaves what those before it left
  pub refused : (k : ℕ) → (narrow_call sh m a n).response ≡ Refused (suc k)
      → (narrow_call sh m a n).memory ≡ narrow_run sh m (take turns (narrow_made sh m a n))
