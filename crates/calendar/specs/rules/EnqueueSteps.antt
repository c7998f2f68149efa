-- Stages 4 to 7: a put after its search. Assumes nothing.
use Rattle.std.specs.Prelude.{List, [], ◌∷◌, Bool, cond, ℕ, ◌+◌, eqb, ltb}
use Rattle.arrival.specs.declared.Shape.{Shape}
use Rattle.arrival.specs.declared.Worker.{Worker}
use Rattle.arrival.specs.declared.Response.TheVariants.{Stored}
use Rattle.calendar.specs.rules.Layout.{Write, ◌≔◌, word, cell, field, current, link_cell, unmarked, bucket_in, epoch_in, current_word}
use Rattle.calendar.specs.rules.Outcome.{Outcome, on, answer, with_current}
use Rattle.calendar.specs.rules.SearchSteps.{left_holds}

-- the epoch that goes into own node: current's
abbrev pub own_epoch : Shape → List ℕ → ℕ
own_epoch sh s = epoch_in (current sh s)

-- own node gets it, and its link becomes unmarked right
abbrev pub prepare : Shape → List ℕ → Worker → List Write
prepare sh s w = (field 6 w.own ≔ own_epoch sh s) ∷ (cell (link_cell sh w.own) ≔ unmarked w.right) ∷ []

-- 4: read current, and prepare own node.
unfoldable pub step_4 : Shape → List ℕ → Worker → Outcome
step_4 sh s w = on (prepare sh s w) 5 (with_current (current sh s) w)

-- own node is linked in behind left
abbrev pub link_own : Worker → List Write
link_own w = (cell w.left ≔ unmarked w.own) ∷ []

-- 5: swap the left word from unmarked right to unmarked own node; on failure, 1.
unfoldable pub step_5 : Shape → List ℕ → Worker → Outcome
step_5 sh s w = cond (left_holds sh s w) (on (link_own w) 6 w) (on [] 1 w)

-- current's bucket is lower than the arrival's
abbrev pub current_is_lower : Shape → List ℕ → Worker → Bool
current_is_lower sh s w = ltb (bucket_in (current sh s)) w.bucket

-- 6: read current; if its bucket is lower than the arrival's, answer stored; otherwise 7.
unfoldable pub step_6 : Shape → List ℕ → Worker → Outcome
step_6 sh s w =
    let v = with_current (current sh s) w in
    cond (current_is_lower sh s w) (answer [] v (Stored w.ticket)) (on [] 7 v)

-- current is still the word seen
abbrev pub current_holds : Shape → List ℕ → Worker → Bool
current_holds sh s w = eqb (current sh s) w.current

-- the arrival's bucket with epoch e + 1
abbrev pub renewed : Worker → ℕ
renewed w = current_word w.bucket (epoch_in w.current + 1)

abbrev pub renew_current : Worker → List Write
renew_current w = (word 0 ≔ renewed w) ∷ []

-- 7: swap current; success answers stored, failure returns to 6.
unfoldable pub step_7 : Shape → List ℕ → Worker → Outcome
step_7 sh s w = cond (current_holds sh s w) (answer (renew_current w) w (Stored w.ticket)) (on [] 6 w)
