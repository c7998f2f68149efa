-- Requests and dealt turns in two lists one behind the other; and so a run among them.
--     memory_append, dealer_append       what the second list leaves is left behind what the first one left
--     answers_append, served_append      so it is answered, and so workers are served
--     run_between                        it is its turns there, and the second list finds what the run left
-- Assumes nothing.
use Rattle.std.specs.Prelude.{◌≡◌, Bool, true, false, cond, ℕ, eqb}
use Rattle.std.proofs.Math.Path.{refl, ap}
use Rattle.std.proofs.Common.{◌∙◌}
use mathlib.Core.List.{List, [], ◌∷◌, ◌++◌}
use Rattle.arrival.specs.declared.Shape.{Shape}
use Rattle.calendar.specs.rules.Operations.{Memory}
use Rattle.dealer.specs.DealtHistory.{Move, moved, memory_after, dealer_after, answers_to, served_in}
use Rattle.dealer.specs.DealtRuns.{run_moves}
use Rattle.dealer.proofs.DealtRuns.{run_moves_lem}
use Rattle.dealer.specs.DealtRunLists.{RunBetween}

-- ── one behind the other ──
-- with one more in front, or not
served_or_not : (t : Bool) (j : ℕ) (all front back : List ℕ) → all ≡ front ++ back → cond t all (j ∷ all) ≡ cond t front (j ∷ front) ++ back
served_or_not true j all front back e = e
served_or_not false j all front back e = ap (λ (js : List ℕ). j ∷ js) e

module _ (sh : Shape) (ys : List Move) where
  pub memory_append : (xs : List Move) (m : Memory) (last : ℕ)
      → memory_after sh m last (xs ++ ys) ≡ memory_after sh (memory_after sh m last xs) (dealer_after sh m last xs) ys
  unfolding memory_after dealer_after
  memory_append [] m last = refl
  memory_append (x ∷ xs) m last = let r = moved sh m last x in memory_append xs r.memory r.dealer

  pub dealer_append : (xs : List Move) (m : Memory) (last : ℕ)
      → dealer_after sh m last (xs ++ ys) ≡ dealer_after sh (memory_after sh m last xs) (dealer_after sh m last xs) ys
  unfolding memory_after dealer_after
  dealer_append [] m last = refl
  dealer_append (x ∷ xs) m last = let r = moved sh m last x in dealer_append xs r.memory r.dealer

  pub answers_append : (xs : List Move) (m : Memory) (last : ℕ)
      → answers_to sh m last (xs ++ ys) ≡ answers_to sh m last xs ++ answers_to sh (memory_after sh m last xs) (dealer_after sh m last xs) ys
  unfolding memory_after dealer_after answers_to
  answers_append [] m last = refl
  answers_append (x ∷ xs) m last = let r = moved sh m last x in ap (λ rs. r.response ∷ rs) (answers_append xs r.memory r.dealer)

  pub served_append : (xs : List Move) (m : Memory) (last : ℕ)
      → served_in sh m last (xs ++ ys) ≡ served_in sh m last xs ++ served_in sh (memory_after sh m last xs) (dealer_after sh m last xs) ys
  unfolding memory_after dealer_after served_in
  served_append [] m last = refl
  served_append (x ∷ xs) m last =
      let r = moved sh m last x in
      served_or_not (eqb r.turns 0) r.dealer (served_in sh r.memory r.dealer (xs ++ ys)) (served_in sh r.memory r.dealer xs)
      (served_in sh (memory_after sh r.memory r.dealer xs) (dealer_after sh r.memory r.dealer xs) ys) (served_append xs r.memory r.dealer)

pub run_between : (whole : Bool) (sh : Shape) (n : ℕ) (m : Memory) (last : ℕ) (xs ys : List Move) → RunBetween whole sh n m last xs ys
run_between whole sh n m last xs ys =
    let k = memory_after sh m last xs in
    let d = dealer_after sh m last xs in
    let zs = run_moves whole sh n k d in
    let R = run_moves_lem whole sh n k d in
    record {
      memory = memory_append sh (zs ++ ys) xs m last ∙ memory_append sh ys zs k d ∙ rw (R.memory, R.dealer);
      dealer = dealer_append sh (zs ++ ys) xs m last ∙ dealer_append sh ys zs k d ∙ rw (R.memory, R.dealer);
      answers =
          answers_append sh (zs ++ ys) xs m last
          ∙ ap (λ rs. answers_to sh m last xs ++ rs) (answers_append sh ys zs k d ∙ rw (R.memory, R.dealer));
      served =
          served_append sh (zs ++ ys) xs m last
          ∙ ap (λ js. served_in sh m last xs ++ js) (served_append sh ys zs k d ∙ rw (R.memory, R.dealer));
    }
