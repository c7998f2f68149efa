-- What a call stands on, stage by stage, as a table: a guard of `holds`; that a turn looks into no other node; and where a take that has marked stands.
-- Assumes nothing.
use Rattle.std.specs.Prelude.{◌≡◌, refl, List, [], ◌∷◌, true, cond, ◌||◌, ◌⊎◌, ℕ, zero, suc, ◌≤◌, eqb}
use Rattle.std.proofs.Math.Bool.{or-true}
use Rattle.std.proofs.Common.{inl, inr, arith, eqb-true, eq-eqb, le-leb}
use Rattle.arrival.specs.declared.Shape.{Shape}
use Rattle.arrival.specs.declared.Worker.{Worker}
use Rattle.laws.specs.Tests.{parts, within}
use Rattle.calendar.specs.rules.Layout.{link_cell}
use Rattle.calendar.specs.rules.Snapshot.{holds, has_marked}

pub shape : Shape
shape = record { workers = 1; nodes = 4; buckets = 2; width = 10 }

-- own node 0, left node 1 or a head, right node 2
pub at_stage : ℕ → ℕ → Worker
at_stage left k = record { stage = k; kind = 0; own = 0; bucket = 0; left = left; right = 2; seen = 0; current = 0; ticket = 1 }

-- the nodes below n that a call stands on, the highest first
pub stood_on : Worker → ℕ → List ℕ
stood_on w zero = []
stood_on w (suc n) = cond (holds shape w n) (n ∷ stood_on w n) (stood_on w n)

pub behind_node : ℕ → List ℕ
behind_node k = stood_on (at_stage (link_cell shape 1) k) 4

pub behind_head : ℕ → List ℕ
behind_head k = stood_on (at_stage 1 k) 4

-- own at 1 to 7, left at 2 to 5, right at 2 to 5, 10 and 11
pub stood_on_lem :
    (behind_node 0 ≡ [])
    × (behind_node 1 ≡ 0 ∷ [])
    × (behind_node 2 ≡ 2 ∷ 1 ∷ 0 ∷ [])
    × (behind_node 3 ≡ 2 ∷ 1 ∷ 0 ∷ [])
    × (behind_node 4 ≡ 2 ∷ 1 ∷ 0 ∷ [])
    × (behind_node 5 ≡ 2 ∷ 1 ∷ 0 ∷ [])
    × (behind_node 6 ≡ 0 ∷ [])
    × (behind_node 7 ≡ 0 ∷ [])
    × (behind_node 8 ≡ [])
    × (behind_node 9 ≡ [])
    × (behind_node 10 ≡ 2 ∷ [])
    × (behind_node 11 ≡ 2 ∷ [])
    × (behind_node 12 ≡ [])
    × (behind_node 13 ≡ [])
    × (behind_head 2 ≡ 2 ∷ 0 ∷ [])
    × (behind_head 5 ≡ 2 ∷ 0 ∷ [])
unfolding behind_node behind_head stood_on at_stage shape
stood_on_lem = (refl, refl, refl, refl, refl, refl, refl, refl, refl, refl, refl, refl, refl, refl, refl, refl)

-- the nodes whose arrival or epoch a turn looks at (OneWord) are among them
module _ (sh : Shape) (w : Worker) where
  pub own_stood_on : 1 ≤ w.stage → w.stage ≤ 3 → holds sh w w.own ≡ true
  own_stood_on lo hi = rw (le-leb 1 w.stage lo, le-leb w.stage 7 (omega arith), eq-eqb w.own w.own refl)

  pub right_stood_on : (w.stage ≡ 2) ⊎ (w.stage ≡ 10) → holds sh w w.right ≡ true
  right_stood_on (inl q) = rw (q, eq-eqb w.right w.right refl) (or-true (eqb w.own w.right || eqb w.left (link_cell sh w.right)))
  right_stood_on (inr q) = rw (q, eq-eqb w.right w.right refl)

-- a take that has marked is at 1 to 3
pub marked_stage : (w : Worker) → has_marked w ≡ true → (w.kind ≡ 1) × (1 ≤ w.stage) × (w.stage ≤ 3)
marked_stage w e =
    let (kind, stage) = parts (eqb w.kind 1) _ e in
    let (lo, hi) = within 1 3 w.stage stage in
    (eqb-true w.kind 1 kind, lo, hi)
