-- Every node is free, retired or in use, and only one of the three. Assumes nothing.
use Rattle.std.specs.Prelude.{◌≡◌, refl, List, Bool, true, false, cond, not, ◌&&◌, ◌||◌, ℕ, ◌+◌, ◌-◌, eqb, leb}
use Rattle.std.proofs.Common.{arith, eqb-true, leb-true, leb-false}
use Rattle.std.proofs.lemmas.Bool.{eqb-false}
use Rattle.arrival.specs.declared.Shape.{Shape}
use Rattle.arrival.specs.declared.Worker.{Worker}
use Rattle.laws.specs.Counting.{every, count}
use Rattle.laws.proofs.Counting.{count_three}
use Rattle.calendar.specs.rules.Layout.{standing}
use Rattle.calendar.specs.rules.Ranges.{worker}
use Rattle.calendar.specs.rules.Reclaim.{started_by, is_free, is_retired, is_in_use}

one_of_three : (sh : Shape) (t : List Worker) (x : ℕ) → cond (is_free sh t x) 1 0 + cond (is_retired sh t x) 1 0 + cond (is_in_use x) 1 0 ≡ 1
unfolding is_free
one_of_three sh t x = go (eqb x 0) refl (leb 2 x) refl (eqb x 1) refl (every sh.workers (λ i. not (started_by (x - 2) (worker t i))))
  where
    go : (a : Bool) → eqb x 0 ≡ a → (b : Bool) → leb 2 x ≡ b → (c : Bool) → eqb x 1 ≡ c → (d : Bool)
        → cond (a || (b && d)) 1 0 + cond (b && not (a || (b && d))) 1 0 + cond c 1 0 ≡ 1
    go true p true q c r d = absurd (omega (arith, eqb-true x 0 p, leb-true 2 x q))
    go true p false q true r d = absurd (omega (arith, eqb-true x 0 p, eqb-true x 1 r))
    go true p false q false r d = refl
    go false p true q true r d = absurd (omega (arith, leb-true 2 x q, eqb-true x 1 r))
    go false p true q false r true = refl
    go false p true q false r false = refl
    go false p false q true r d = refl
    go false p false q false r d = absurd (omega (arith, eqb-false x 0 p, leb-false 2 x q, eqb-false x 1 r))

-- FREE + RETIRED + IN USE = NODES
pub nodes_shared_out : (sh : Shape) (s : List ℕ) (t : List Worker)
    → count sh.nodes (λ n. is_free sh t (standing sh s n)) + count sh.nodes (λ n. is_retired sh t (standing sh s n))
    + count sh.nodes (λ n. is_in_use (standing sh s n)) ≡ sh.nodes
nodes_shared_out sh s t =
    count_three sh.nodes (λ n. is_free sh t (standing sh s n)) (λ n. is_retired sh t (standing sh s n)) (λ n. is_in_use (standing sh s n))
    (λ n. one_of_three sh t (standing sh s n))
