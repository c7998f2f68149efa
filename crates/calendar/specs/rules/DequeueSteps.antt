-- Stages 8 to 13: a take. Assumes nothing.
use Rattle.std.specs.Prelude.{List, [], ◌∷◌, Bool, cond, ℕ, ◌+◌, eqb, ltb}
use Rattle.arrival.specs.declared.Shape.{Shape}
use Rattle.arrival.specs.declared.Worker.{Worker}
use Rattle.arrival.specs.declared.Response.TheVariants.{Empty}
use Rattle.calendar.specs.rules.Layout.{Write, ◌≔◌, word, cell, current, head, link, link_cell, epoch_at, successor, is_marked, marked, bucket_in, epoch_in}
use Rattle.calendar.specs.rules.Layout.{current_word}
use Rattle.calendar.specs.rules.Outcome.{Outcome, on, answer, with_own, with_bucket, with_right, with_seen, with_current}

-- 8: read current as (b, e).
unfoldable pub step_8 : Shape → List ℕ → Worker → Outcome
step_8 sh s w = on [] 9 (with_bucket (bucket_in (current sh s)) (with_current (current sh s) w))

-- b is not the last bucket
abbrev pub more_buckets : Shape → Worker → Bool
more_buckets sh w = ltb (w.bucket + 1) sh.buckets

-- When 9 or 10 makes right the end, that same turn goes to 12 if b is not the last bucket, otherwise to 13.
unfoldable pub walk : Shape → Worker → Outcome
walk sh w = cond (eqb w.right sh.nodes) (cond (more_buckets sh w) (on [] 12 w) (on [] 13 w)) (on [] 10 w)

-- 9: read the head of b.
unfoldable pub step_9 : Shape → List ℕ → Worker → Outcome
step_9 sh s w = walk sh (with_right (successor (head sh s w.bucket)) w)

abbrev pub node_is_marked : Shape → List ℕ → Worker → Bool
node_is_marked sh s w = is_marked (link sh s w.right)

-- the node's epoch is above e
abbrev pub node_is_newer : Shape → List ℕ → Worker → Bool
node_is_newer sh s w = ltb (epoch_in w.current) (epoch_at sh s w.right)

-- 10: read the node's link: marked, move to its successor; unmarked with node epoch above e, go to 8; otherwise 11.
unfoldable pub step_10 : Shape → List ℕ → Worker → Outcome
step_10 sh s w =
    let x = link sh s w.right in
    let v = with_seen x w in
    cond (node_is_marked sh s w) (walk sh (with_right (successor x) v))
    (cond (node_is_newer sh s w) (on [] 8 v) (on [] 11 v))

-- the node's link is still the word seen
abbrev pub link_holds : Shape → List ℕ → Worker → Bool
link_holds sh s w = eqb (link sh s w.right) w.seen

-- the node's link takes the marked form of the word seen
abbrev pub mark_node : Shape → Worker → List Write
mark_node sh w = (cell (link_cell sh w.right) ≔ marked w.seen) ∷ []

-- 11: swap the node's link; success makes it the own node and starts the search, failure returns to 10 on the same node.
unfoldable pub step_11 : Shape → List ℕ → Worker → Outcome
step_11 sh s w = cond (link_holds sh s w) (on (mark_node sh w) 1 (with_own w.right w)) (on [] 10 w)

-- (b, e), and (b + 1, e)
abbrev pub this_current : Worker → ℕ
this_current w = current_word w.bucket (epoch_in w.current)

abbrev pub next_current : Worker → ℕ
next_current w = current_word (w.bucket + 1) (epoch_in w.current)

-- what the swap of 12 compares
abbrev pub advances : Shape → List ℕ → Worker → Bool
advances sh s w = eqb (current sh s) (this_current w)

-- 12: swap current from (b, e) to (b + 1, e); success goes to 9 in bucket b + 1, failure to 8.
unfoldable pub step_12 : Shape → List ℕ → Worker → Outcome
step_12 sh s w =
    cond (advances sh s w) (on ((word 0 ≔ next_current w) ∷ []) 9 (with_bucket (w.bucket + 1) (with_current (next_current w) w))) (on [] 8 w)

-- what 13 compares
abbrev pub still_current : Shape → List ℕ → Worker → Bool
still_current sh s w = eqb (current sh s) (this_current w)

-- 13: read current; still (b, e) answers empty, else 8.
unfoldable pub step_13 : Shape → List ℕ → Worker → Outcome
step_13 sh s w = cond (still_current sh s w) (answer [] w Empty) (on [] 8 w)
