-- A run is dealt turns one by one.
--     run_moves, RunMoves                          the turns to be dealt in a run; it leaves what they leave, and all but the last go on
-- Assumes nothing.
use Rattle.std.specs.Prelude.{◌≡◌, List, [], ◌∷◌, ◌++◌, Bool, true, false, cond, ◌≢◌, ℕ, zero, suc, ◌<◌, ◌≤◌, length, take}
use Rattle.arrival.specs.declared.Shape.{Shape}
use Rattle.arrival.specs.declared.Response.{Response}
use Rattle.arrival.specs.declared.Response.TheVariants.{Refused}
use Rattle.calendar.specs.rules.Operations.{Memory}
use Rattle.calendar.specs.rules.NarrowCalls.{goes_on}
use Rattle.calendar.specs.facts.NarrowTurns.{all_go_on}
use Rattle.dealer.specs.Dealing.{dealt, dealt_run}
use Rattle.dealer.specs.DealtHistory.{Move, deals, memory_after, dealer_after, answers_to, served_in}

-- ── the turns to be dealt ──
unfoldable pub run_moves : Bool → Shape → ℕ → Memory → ℕ → List Move
run_moves whole sh zero m last = []
run_moves whole sh (suc n) m last =
    let r = dealt whole sh m last in deals whole ∷ cond (goes_on r.response) (run_moves whole sh n r.memory r.dealer) []

pub record RunMoves (whole : Bool) (sh : Shape) (n : ℕ) (m : Memory) (last : ℕ) : Type 0 where
  pub memory : memory_after sh m last (run_moves whole sh n m last) ≡ (dealt_run whole sh n m last).memory
  pub dealer : dealer_after sh m last (run_moves whole sh n m last) ≡ (dealt_run whole sh n m last).dealer
  pub turns : length (served_in sh m last (run_moves whole sh n m last)) ≡ (dealt_run whole sh n m last).turns
  -- what is answered in front of the last
  pub before : List Response
  pub answers : n ≢ 0 → answers_to sh m last (run_moves whole sh n m last) ≡ before ++ (dealt_run whole sh n m last).response ∷ []
  pub go_on : all_go_on before ≡ true
  -- it stops before the limit only where nothing goes on
  pub at_most : (dealt_run whole sh n m last).turns ≤ n
  pub stops : (dealt_run whole sh n m last).turns < n → goes_on (dealt_run whole sh n m last).response ≡ false
  -- a refusal leaves what those before it left
  pub refused : (k : ℕ) → (dealt_run whole sh n m last).response ≡ Refused (suc k)
      → (dealt_run whole sh n m last).memory ≡ memory_after sh m last (take (length before) (run_moves whole sh n m last))
