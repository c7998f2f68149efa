-- Requests and dealt turns in two lists one behind the other; and so a run among them.
--     run_amid, RunBetween                a run between two lists
-- Assumes nothing.
use Rattle.std.specs.Prelude.{◌≡◌, Bool, ℕ}
use mathlib.Core.List.{List, ◌++◌}
use Rattle.arrival.specs.declared.Shape.{Shape}
use Rattle.calendar.specs.rules.Operations.{Memory}
use Rattle.dealer.specs.Dealing.{dealt_run}
use Rattle.dealer.specs.DealtHistory.{Move, memory_after, dealer_after, answers_to, served_in}
use Rattle.dealer.specs.DealtRuns.{run_moves}

-- ── a run between two lists ──
-- xs, then the turns to be dealt in a run, then ys
abbrev pub run_amid : Bool → Shape → ℕ → Memory → ℕ → List Move → List Move → List Move
run_amid whole sh n m last xs ys = xs ++ (run_moves whole sh n (memory_after sh m last xs) (dealer_after sh m last xs) ++ ys)

-- k and d are what xs leaves, and r what the run leaves of them
pub record RunBetween (whole : Bool) (sh : Shape) (n : ℕ) (m : Memory) (last : ℕ) (xs ys : List Move) : Type 0 where
  pub memory : let k = memory_after sh m last xs in let d = dealer_after sh m last xs in let r = dealt_run whole sh n k d in
      memory_after sh m last (run_amid whole sh n m last xs ys) ≡ memory_after sh r.memory r.dealer ys
  pub dealer : let k = memory_after sh m last xs in let d = dealer_after sh m last xs in let r = dealt_run whole sh n k d in
      dealer_after sh m last (run_amid whole sh n m last xs ys) ≡ dealer_after sh r.memory r.dealer ys
  pub answers : let k = memory_after sh m last xs in let d = dealer_after sh m last xs in let r = dealt_run whole sh n k d in
      answers_to sh m last (run_amid whole sh n m last xs ys)
      ≡ answers_to sh m last xs ++ (answers_to sh k d (run_moves whole sh n k d) ++ answers_to sh r.memory r.dealer ys)
  pub served : let k = memory_after sh m last xs in let d = dealer_after sh m last xs in let r = dealt_run whole sh n k d in
      served_in sh m last (run_amid whole sh n m last xs ys)
      ≡ served_in sh m last xs ++ (served_in sh k d (run_moves whole sh n k d) ++ served_in sh r.memory r.dealer ys)
