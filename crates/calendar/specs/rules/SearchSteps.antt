-- Stages 1 to 3: the search for own node's key. Assumes nothing.
use Rattle.std.specs.Prelude.{List, [], ◌∷◌, Bool, cond, ℕ, eqb}
use Rattle.arrival.specs.declared.Shape.{Shape}
use Rattle.arrival.specs.declared.Worker.{Worker}
use Rattle.arrival.specs.declared.Response.{Response}
use Rattle.arrival.specs.Keys.{lower}
use Rattle.arrival.specs.Queue.{taken}
use Rattle.calendar.specs.rules.Layout.{Write, ◌≔◌, cell, field, read, started, head, link, link_cell, item_at, successor, is_marked, unmarked, unlinked_at}
use Rattle.calendar.specs.rules.Outcome.{Outcome, on, answer, with_left, with_right, with_seen}

-- what a take answers: the arrival in its own node
abbrev pub answered : Shape → List ℕ → Worker → Response
answered sh s w = taken (item_at sh s w.own)

-- At the search's end a put goes to 4, and a take answers.
unfoldable pub found : Shape → List ℕ → List Write → Worker → Outcome
found sh s ws w = cond (eqb w.kind 0) (on ws 4 w) (answer ws w (answered sh s w))

-- Whenever right becomes end, the search ends in that same turn; otherwise 2.
unfoldable pub settle : Shape → List ℕ → List Write → Worker → Outcome
settle sh s ws w = cond (eqb w.right sh.nodes) (found sh s ws w) (on ws 2 w)

-- 1: read the head of its bucket; right is its successor; left is the head.
unfoldable pub step_1 : Shape → List ℕ → Worker → Outcome
step_1 sh s w = settle sh s [] (with_left w.bucket (with_right (successor (head sh s w.bucket)) w))

abbrev pub right_is_marked : Shape → List ℕ → Worker → Bool
right_is_marked sh s w = is_marked (link sh s w.right)

abbrev pub right_is_lower : Shape → List ℕ → Worker → Bool
right_is_lower sh s w = lower (item_at sh s w.right) (item_at sh s w.own)

-- 2: read right's link. Marked: 3. Right's key lower: one node on, and 2 again. Otherwise the search ends.
unfoldable pub step_2 : Shape → List ℕ → Worker → Outcome
step_2 sh s w =
    let x = link sh s w.right in
    let v = with_seen x w in
    cond (right_is_marked sh s w) (on [] 3 v)
    (cond (right_is_lower sh s w) (settle sh s [] (with_left (link_cell sh w.right) (with_right (successor x) v)))
    (found sh s [] v))

-- the left word still holds unmarked right: what the swaps of 3 and 5 compare
abbrev pub left_holds : Shape → List ℕ → Worker → Bool
left_holds sh s w = eqb (read sh s (cell w.left)) (unmarked w.right)

-- the standing of a node that is unlinked: 2 + word 1
abbrev pub retirement : Shape → List ℕ → ℕ
retirement sh s = unlinked_at (started sh s)

-- left's successor becomes the one in the link word seen, unmarked, and right gets that standing
abbrev pub unlink : Shape → List ℕ → Worker → List Write
unlink sh s w = (cell w.left ≔ unmarked (successor w.seen)) ∷ (field 7 w.right ≔ retirement sh s) ∷ []

-- 3: swap the left word; on success right is the successor in the link word seen, back to 2; on failure 1.
unfoldable pub step_3 : Shape → List ℕ → Worker → Outcome
step_3 sh s w = cond (left_holds sh s w) (settle sh s (unlink sh s w) (with_right (successor w.seen) w)) (on [] 1 w)
