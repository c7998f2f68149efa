-- Every word that a start or turn writes lies in the layout, and none of them answers a refusal.
--     enqueue_inside, dequeue_inside                  what starts write lies in the layout
--     found_writes, settled_writes, walked_writes     what the ends of a search and of a walk write
--     change_inside                                   what turns write lies in the layout
--     change_said                                     no turn answers a refusal
--     length_write_all                                 writing keeps the length
-- Assumes nothing.
use Rattle.std.specs.Prelude.{◌≡◌, refl, List, [], ◌∷◌, ◌≢◌, ℕ, ◌+◌, ◌<◌, length}
use Rattle.std.proofs.Common.{◌∙◌, arith, lit<}
use Rattle.arrival.specs.declared.Shape.{Shape}
use Rattle.arrival.specs.declared.Arrival.{Arrival}
use Rattle.arrival.specs.declared.Worker.{Worker}
use Rattle.arrival.specs.Responses.{said}
use Rattle.calendar.specs.rules.Layout.{field, Write, ◌≔◌, write_all, write, address, layout}
use Rattle.calendar.specs.rules.Outcome.{Outcome}
use Rattle.calendar.specs.rules.Starts.{enqueue_start, dequeue_start}
use Rattle.calendar.proofs.facts.Places.{length_write, word_inside, cell_inside, field_inside}
use Rattle.calendar.specs.facts.Views.{AllInside}
use Rattle.calendar.specs.facts.RangeFacts.{RecordRanges}
use Rattle.calendar.proofs.facts.Changes.{Found, put_found, take_ends, Settled, at_end, still_on, Walked, out, out_last, meets, Change, head_read}
use Rattle.calendar.proofs.facts.Changes.{mark_seen, passed, stopped, unlinked, again_3, prepared, linked, again_5, stored_6, on_7, stored_7, back_6}
use Rattle.calendar.proofs.facts.Changes.{current_read, first_read, mark_passed, newer, on_11, marked, back_10, advanced, back_12, emptied, back_13}

-- ── the starts ──
pub enqueue_inside : (sh : Shape) (s : List ℕ) (n : ℕ) (a : Arrival) (w : Worker) → n < sh.nodes → AllInside sh (enqueue_start sh s n a w).writes
unfolding enqueue_start
enqueue_inside sh s n a w h = (
  refl,
  word_inside sh 1 (lit< tt),
  (
    refl,
    word_inside sh 2 (lit< tt),
    (refl, at 1 (lit< tt), (refl, at 2 (lit< tt), (refl, at 3 (lit< tt), (refl, at 4 (lit< tt), (refl, at 5 (lit< tt), (refl, at 7 (lit< tt), tt)))))),
  ),
)
  where
    at : (f : ℕ) → f < 8 → address sh (field f n) < layout sh
    at f l = field_inside sh f n l h

pub dequeue_inside : (sh : Shape) (s : List ℕ) (w : Worker) → AllInside sh (dequeue_start sh s w).writes
unfolding dequeue_start
dequeue_inside sh s w = (refl, word_inside sh 1 (lit< tt), tt)

-- ── a turn ──
module _ (sh : Shape) (s : List ℕ) where
  pub found_writes : {ws : List Write} {v : Worker} {o : Outcome} → Found sh s ws v o → o.writes ≡ ws
  found_writes (put_found e) = refl
  found_writes (take_ends e) = refl

  pub settled_writes : {ws : List Write} {v : Worker} {o : Outcome} → Settled sh s ws v o → o.writes ≡ ws
  settled_writes (at_end e f) = found_writes f
  settled_writes (still_on e) = refl

  pub walked_writes : {v : Worker} {o : Outcome} → Walked sh s v o → o.writes ≡ []
  walked_writes (out e f) = refl
  walked_writes (out_last e f) = refl
  walked_writes (meets e) = refl

  none : {ws : List Write} → ws ≡ [] → AllInside sh ws
  none e = rw e tt

  module _ (w : Worker) (r : RecordRanges sh w) where
    right_node : w.right ≢ sh.nodes → w.right < sh.nodes
    right_node n = omega (arith, r.right)

    pub change_inside : {o : Outcome} → Change sh s w o → AllInside sh o.writes
    change_inside (head_read a b) = none (settled_writes b)
    change_inside (mark_seen a b) = tt
    change_inside (passed a b c d) = none (settled_writes d)
    change_inside (stopped a b c d) = none (found_writes d)
    change_inside (unlinked a b c) = rw (settled_writes c)
        (refl, cell_inside sh w.left r.left, (refl, field_inside sh 7 w.right (lit< tt) (right_node (r.searches (omega arith) (omega arith))), tt))
    change_inside (again_3 a b) = tt
    change_inside (prepared a) =
        (refl, field_inside sh 6 w.own (lit< tt) r.own, (refl, cell_inside sh (sh.buckets + w.own) (omega (arith, r.own)), tt))
    change_inside (linked a b) = (refl, cell_inside sh w.left r.left, tt)
    change_inside (again_5 a b) = tt
    change_inside (stored_6 a b) = tt
    change_inside (on_7 a b) = tt
    change_inside (stored_7 a b) = (refl, word_inside sh 0 (lit< tt), tt)
    change_inside (back_6 a b) = tt
    change_inside (current_read a) = tt
    change_inside (first_read a b) = none (walked_writes b)
    change_inside (mark_passed a b c) = none (walked_writes c)
    change_inside (newer a b c) = tt
    change_inside (on_11 a b c) = tt
    change_inside (marked a b) = (refl, cell_inside sh (sh.buckets + w.right) (omega (arith, right_node (r.walks (omega arith) (omega arith)))), tt)
    change_inside (back_10 a b) = tt
    change_inside (advanced a b) = (refl, word_inside sh 0 (lit< tt), tt)
    change_inside (back_12 a b) = tt
    change_inside (emptied a b) = tt
    change_inside (back_13 a b) = tt

  found_said : {ws : List Write} {v : Worker} {o : Outcome} → Found sh s ws v o → (said o.response).number ≡ 0
  found_said (put_found e) = refl
  found_said (take_ends e) = refl

  settled_said : {ws : List Write} {v : Worker} {o : Outcome} → Settled sh s ws v o → (said o.response).number ≡ 0
  settled_said (at_end e f) = found_said f
  settled_said (still_on e) = refl

  walked_said : {v : Worker} {o : Outcome} → Walked sh s v o → (said o.response).number ≡ 0
  walked_said (out e f) = refl
  walked_said (out_last e f) = refl
  walked_said (meets e) = refl

  pub change_said : {w : Worker} {o : Outcome} → Change sh s w o → (said o.response).number ≡ 0
  change_said (head_read a b) = settled_said b
  change_said (mark_seen a b) = refl
  change_said (passed a b c d) = settled_said d
  change_said (stopped a b c d) = found_said d
  change_said (unlinked a b c) = settled_said c
  change_said (again_3 a b) = refl
  change_said (prepared a) = refl
  change_said (linked a b) = refl
  change_said (again_5 a b) = refl
  change_said (stored_6 a b) = refl
  change_said (on_7 a b) = refl
  change_said (stored_7 a b) = refl
  change_said (back_6 a b) = refl
  change_said (current_read a) = refl
  change_said (first_read a b) = walked_said b
  change_said (mark_passed a b c) = walked_said c
  change_said (newer a b c) = refl
  change_said (on_11 a b c) = refl
  change_said (marked a b) = refl
  change_said (back_10 a b) = refl
  change_said (advanced a b) = refl
  change_said (back_12 a b) = refl
  change_said (emptied a b) = refl
  change_said (back_13 a b) = refl

pub length_write_all : (sh : Shape) (s : List ℕ) (ws : List Write) → length (write_all sh s ws) ≡ length s
length_write_all sh s [] = refl
length_write_all sh s ((p ≔ v) ∷ ws) = length_write_all sh (write sh s p v) ws ∙ length_write sh s p v
