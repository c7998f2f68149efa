-- The turn of one record: which refusals it can get by itself, and what it does otherwise. Assumes nothing.
use Rattle.std.specs.Prelude.{◌≡◌, Bool, not, ◌&&◌, List, ◌∷◌, ◌≢◌, ℕ, ◌+◌, ◌≤◌, eqb, leb, get_or}
use Rattle.std.proofs.Math.Path.{refl}
use Rattle.std.proofs.Common.{sym, ap, ◌∙◌, zero-le, arith}
use Rattle.std.proofs.lemmas.Bool.Decides.{nat_tests}
use Rattle.std.proofs.Math.Bool.{true, false, cond}
use borrow.Author.Tests.{eq-eqb, ne_eqb, le-leb, lt-leb}
use Rattle.arrival.specs.declared.Shape.{Shape}
use Rattle.arrival.specs.declared.Worker.{Worker}
use Rattle.calendar.specs.rules.Layout.{epoch_in}
use Rattle.calendar.specs.rules.EnqueueSteps.{current_holds, step_7}
use Rattle.calendar.specs.rules.Steps.{rules, no_step, step}
use Rattle.calendar.specs.rules.Refusals.{step_own}
use Rattle.laws.specs.FirstOf.{first_of}
use Rattle.calendar.proofs.facts.Changes.{step_at}
use Rattle.words.specs.Done.{Done, done, refused, unless_refused}

-- a stage that there is none comes before a turn's own refusals
abbrev pub local_refusal : Shape → List ℕ → Worker → ℕ
local_refusal sh s w = first_of ((3, leb 14 w.stage) ∷ step_own sh s w)

unfoldable pub local_step : Shape → List ℕ → Worker → Done
local_step sh s w = unless_refused (local_refusal sh s w) s w (done sh s (step sh s w))

-- Stage 7: 11 where the swap would succeed and the epoch is 2^32 − 1.
abbrev pub last_epoch : Shape → List ℕ → Worker → Bool
last_epoch sh s w = current_holds sh s w && eqb (epoch_in w.current) 4294967295

abbrev pub local_step_7 : Shape → List ℕ → Worker → Done
local_step_7 sh s w = cond (last_epoch sh s w) (refused s w 11) (done sh s (step_7 sh s w))

module _ (sh : Shape) (s : List ℕ) (w : Worker) where
  pub at_idle : w.stage ≡ 0 → refused s w 10 ≡ local_step sh s w
  unfolding local_step
  at_idle e = rw (lt-leb 14 w.stage (omega arith), eq-eqb w.stage 0 e)

  pub at_stage : (k : ℕ) → w.stage ≡ k → 1 ≤ k → k ≤ 13 → k ≢ 7 → done sh s (get_or rules k no_step sh s w) ≡ local_step sh s w
  unfolding local_step
  at_stage k e some most other =
      rw (lt-leb 14 w.stage (omega arith), ne_eqb w.stage 0 (λ z. omega arith), ne_eqb w.stage 7 (λ z. other (sym e ∙ z)))
      (ap (done sh s) (sym (step_at sh s w k e)))

  -- what is left by the rule of stage k, which is not 7
  pub left_at : (d : Done) (k : ℕ) → w.stage ≡ k → (leb 1 k && leb k 13 && not (eqb k 7)) ≡ true → d ≡ done sh s (get_or rules k no_step sh s w)
      → d ≡ local_step sh s w
  left_at d k e ok h = h ∙ at_stage k e (grind (arith, nat_tests)) (grind (arith, nat_tests)) (grind (arith, nat_tests))

  pub at_seven : w.stage ≡ 7 → local_step_7 sh s w ≡ local_step sh s w
  unfolding local_step
  at_seven e =
      rw (lt-leb 14 w.stage (omega arith), ne_eqb w.stage 0 (λ z. omega arith), eq-eqb w.stage 7 e, step_at sh s w 7 e)
      (go (last_epoch sh s w))
    where
      go : (t : Bool) → cond t (refused s w 11) (done sh s (step_7 sh s w)) ≡ unless_refused (cond t 11 0) s w (done sh s (step_7 sh s w))
      go true = refl
      go false = refl

  pub at_none : 14 ≤ w.stage → refused s w 3 ≡ local_step sh s w
  unfolding local_step
  at_none h = rw (le-leb 14 w.stage h)

-- a number that is none of the first fourteen
five : (k a : ℕ) → a ≤ k → k ≢ a → k ≢ a + 1 → k ≢ a + 2 → k ≢ a + 3 → k ≢ a + 4 → a + 5 ≤ k
five k a h n0 n1 n2 n3 n4 = omega arith

four : (k : ℕ) → 10 ≤ k → k ≢ 10 → k ≢ 11 → k ≢ 12 → k ≢ 13 → 14 ≤ k
four k h a b c d = omega arith

pub beyond : (k : ℕ) → k ≢ 0 → k ≢ 1 → k ≢ 2 → k ≢ 3 → k ≢ 4 → k ≢ 5 → k ≢ 6 → k ≢ 7 → k ≢ 8 → k ≢ 9 → k ≢ 10 → k ≢ 11 → k ≢ 12 → k ≢ 13 → 14 ≤ k
beyond k n0 n1 n2 n3 n4 n5 n6 n7 n8 n9 n10 n11 n12 n13 =
    four k (five k 5 (five k 0 zero-le n0 n1 n2 n3 n4) n5 n6 n7 n8 n9) n10 n11 n12 n13
