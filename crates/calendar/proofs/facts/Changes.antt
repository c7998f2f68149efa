-- The turn as data: what a turn did and what its tests found. One match on it serves every property of turns.
--     Found, Settled, Walked     a search at its end; right set in a search, and in a take's walk
--     Change                     what a turn did, stage by stage
--     by_stage, step_is          a property of every rule; every turn is one of the changes
--     step_at                    at a known stage the turn is that stage's rule
-- Assumes nothing.
use Rattle.std.specs.Prelude.{◌≡◌, refl, List, [], ◌∷◌, true, false, ◌≢◌, ℕ, ◌+◌, ◌≤◌, eqb, get_or}
use Rattle.std.proofs.Common.{ap, arith}
use borrow.Author.Tests.{eqb-true, eqb-false}
use Rattle.arrival.specs.declared.Shape.{Shape}
use Rattle.arrival.specs.declared.Worker.{Worker}
use Rattle.arrival.specs.declared.Response.TheVariants.{Stored, Empty}
use Rattle.laws.specs.Tests.{by_test}
use Rattle.laws.specs.Counting.{Each}
use Rattle.laws.proofs.Counting.{each_of}
use Rattle.calendar.specs.rules.Layout.{Write, ◌≔◌, word, head, link, link_cell, current, successor, bucket_in}
use Rattle.calendar.specs.rules.Outcome.{Outcome, on, answer, with_own, with_bucket, with_left, with_right, with_seen, with_current}
use Rattle.calendar.specs.rules.SearchSteps.{answered, found, settle, right_is_marked, right_is_lower, left_holds, unlink, step_1, step_2, step_3}
use Rattle.calendar.specs.rules.EnqueueSteps.{prepare, link_own, current_is_lower, current_holds, renew_current, step_4, step_5, step_6, step_7}
use Rattle.calendar.specs.rules.DequeueSteps.{more_buckets, walk, node_is_marked, node_is_newer, link_holds, mark_node, next_current, advances, still_current}
use Rattle.calendar.specs.rules.DequeueSteps.{step_8, step_9, step_10, step_11, step_12, step_13}
use Rattle.calendar.specs.rules.Steps.{Rule, rules, no_step, step}

module _ (sh : Shape) (s : List ℕ) where
  -- the end of a search
  pub data Found (ws : List Write) (v : Worker) : Outcome → Type 0 where
    put_found : v.kind ≡ 0 → Found ws v (on ws 4 v)
    take_ends : v.kind ≢ 0 → Found ws v (answer ws v (answered sh s v))

  -- right has been set in a search
  pub data Settled (ws : List Write) (v : Worker) : Outcome → Type 0 where
    at_end : {o : Outcome} → v.right ≡ sh.nodes → Found ws v o → Settled ws v o
    still_on : v.right ≢ sh.nodes → Settled ws v (on ws 2 v)

  -- right has been set in a take's walk
  pub data Walked (v : Worker) : Outcome → Type 0 where
    out : v.right ≡ sh.nodes → more_buckets sh v ≡ true → Walked v (on [] 12 v)
    out_last : v.right ≡ sh.nodes → more_buckets sh v ≡ false → Walked v (on [] 13 v)
    meets : v.right ≢ sh.nodes → Walked v (on [] 10 v)

  pub data Change (w : Worker) : Outcome → Type 0 where
    head_read : {o : Outcome} → w.stage ≡ 1 → Settled [] (with_left w.bucket (with_right (successor (head sh s w.bucket)) w)) o → Change w o
    mark_seen : w.stage ≡ 2 → right_is_marked sh s w ≡ true → Change w (on [] 3 (with_seen (link sh s w.right) w))
    passed : {o : Outcome} → w.stage ≡ 2 → right_is_marked sh s w ≡ false → right_is_lower sh s w ≡ true
        → Settled [] (with_left (link_cell sh w.right) (with_right (successor (link sh s w.right)) (with_seen (link sh s w.right) w))) o → Change w o
    stopped : {o : Outcome} → w.stage ≡ 2 → right_is_marked sh s w ≡ false → right_is_lower sh s w ≡ false → Found [] (with_seen (link sh s w.right) w) o
        → Change w o
    unlinked : {o : Outcome} → w.stage ≡ 3 → left_holds sh s w ≡ true → Settled (unlink sh s w) (with_right (successor w.seen) w) o → Change w o
    again_3 : w.stage ≡ 3 → left_holds sh s w ≡ false → Change w (on [] 1 w)
    prepared : w.stage ≡ 4 → Change w (on (prepare sh s w) 5 (with_current (current sh s) w))
    linked : w.stage ≡ 5 → left_holds sh s w ≡ true → Change w (on (link_own w) 6 w)
    again_5 : w.stage ≡ 5 → left_holds sh s w ≡ false → Change w (on [] 1 w)
    stored_6 : w.stage ≡ 6 → current_is_lower sh s w ≡ true → Change w (answer [] (with_current (current sh s) w) (Stored w.ticket))
    on_7 : w.stage ≡ 6 → current_is_lower sh s w ≡ false → Change w (on [] 7 (with_current (current sh s) w))
    stored_7 : w.stage ≡ 7 → current_holds sh s w ≡ true → Change w (answer (renew_current w) w (Stored w.ticket))
    back_6 : w.stage ≡ 7 → current_holds sh s w ≡ false → Change w (on [] 6 w)
    current_read : w.stage ≡ 8 → Change w (on [] 9 (with_bucket (bucket_in (current sh s)) (with_current (current sh s) w)))
    first_read : {o : Outcome} → w.stage ≡ 9 → Walked (with_right (successor (head sh s w.bucket)) w) o → Change w o
    mark_passed : {o : Outcome} → w.stage ≡ 10 → node_is_marked sh s w ≡ true
        → Walked (with_right (successor (link sh s w.right)) (with_seen (link sh s w.right) w)) o → Change w o
    newer : w.stage ≡ 10 → node_is_marked sh s w ≡ false → node_is_newer sh s w ≡ true → Change w (on [] 8 (with_seen (link sh s w.right) w))
    on_11 : w.stage ≡ 10 → node_is_marked sh s w ≡ false → node_is_newer sh s w ≡ false → Change w (on [] 11 (with_seen (link sh s w.right) w))
    marked : w.stage ≡ 11 → link_holds sh s w ≡ true → Change w (on (mark_node sh w) 1 (with_own w.right w))
    back_10 : w.stage ≡ 11 → link_holds sh s w ≡ false → Change w (on [] 10 w)
    advanced : w.stage ≡ 12 → advances sh s w ≡ true
        → Change w (on ((word 0 ≔ next_current w) ∷ []) 9 (with_bucket (w.bucket + 1) (with_current (next_current w) w)))
    back_12 : w.stage ≡ 12 → advances sh s w ≡ false → Change w (on [] 8 w)
    emptied : w.stage ≡ 13 → still_current sh s w ≡ true → Change w (answer [] w Empty)
    back_13 : w.stage ≡ 13 → still_current sh s w ≡ false → Change w (on [] 8 w)

  found_is : (ws : List Write) (v : Worker) → Found ws v (found sh s ws v)
  unfolding found
  found_is ws v = by_test (Found ws v) (eqb v.kind 0) (λ e. put_found (eqb-true v.kind 0 e)) (λ e. take_ends (eqb-false v.kind 0 e))

  settled_is : (ws : List Write) (v : Worker) → Settled ws v (settle sh s ws v)
  unfolding settle
  settled_is ws v =
      by_test (Settled ws v) (eqb v.right sh.nodes) (λ e. at_end (eqb-true v.right sh.nodes e) (found_is ws v))
      (λ e. still_on (eqb-false v.right sh.nodes e))

  walked_is : (v : Worker) → Walked v (walk sh v)
  unfolding walk
  walked_is v =
      by_test (Walked v) (eqb v.right sh.nodes)
      (λ e. let end = eqb-true v.right sh.nodes e in by_test (Walked v) (more_buckets sh v) (out end) (out_last end))
      (λ e. meets (eqb-false v.right sh.nodes e))

-- a property of every rule, by its stage
pub by_stage : (P : ℕ → Rule → Type 0) → Each P 0 rules → (n : ℕ) → n ≤ 13 → P n (get_or rules n no_step)
by_stage P h n l = each_of P rules no_step h n (omega arith)

-- EVERY TURN IS ONE OF THE CHANGES
pub step_is : (sh : Shape) (s : List ℕ) (w : Worker) → w.stage ≢ 0 → w.stage ≤ 13 → Change sh s w (step sh s w)
unfolding step step_1 step_2 step_3 step_4 step_5 step_6 step_7 step_8 step_9 step_10 step_11 step_12 step_13
step_is sh s w busy l =
    by_stage (λ j r. w.stage ≡ j → C (r sh s w)) (
      λ q. absurd (busy q),
      (
        λ q. head_read q (settled_is sh s _ _),
        (
          λ q. by_test C (right_is_marked sh s w) (mark_seen q)
              (λ e. by_test C (right_is_lower sh s w) (λ f. passed q e f (settled_is sh s _ _)) (λ f. stopped q e f (found_is sh s _ _))),
          (
            λ q. by_test C (left_holds sh s w) (λ e. unlinked q e (settled_is sh s _ _)) (again_3 q),
            (
              λ q. prepared q,
              (
                λ q. by_test C (left_holds sh s w) (linked q) (again_5 q),
                (
                  λ q. by_test C (current_is_lower sh s w) (stored_6 q) (on_7 q),
                  (
                    λ q. by_test C (current_holds sh s w) (stored_7 q) (back_6 q),
                    (
                      λ q. current_read q,
                      (
                        λ q. first_read q (walked_is sh s _),
                        (
                          λ q. by_test C (node_is_marked sh s w) (λ e. mark_passed q e (walked_is sh s _))
                              (λ e. by_test C (node_is_newer sh s w) (newer q e) (on_11 q e)),
                          (
                            λ q. by_test C (link_holds sh s w) (marked q) (back_10 q),
                            (
                              λ q. by_test C (advances sh s w) (advanced q) (back_12 q),
                              (
                                λ q. by_test C (still_current sh s w) (emptied q) (back_13 q),
                                tt,
                              ),
                            ),
                          ),
                        ),
                      ),
                    ),
                  ),
                ),
              ),
            ),
          ),
        ),
      ),
    )
    w.stage l refl
  where
    C : Outcome → Type 0
    C o = Change sh s w o

-- At a known stage the turn is that stage's rule.
pub step_at : (sh : Shape) (s : List ℕ) (w : Worker) (k : ℕ) → w.stage ≡ k → step sh s w ≡ get_or rules k no_step sh s w
unfolding step
step_at sh s w k e = ap (λ (i : ℕ). get_or rules i no_step sh s w) e
