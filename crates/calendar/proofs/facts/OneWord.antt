-- One shared word a turn: the word that each stage reads or changes, that a turn depends on no other shared word, and that it
-- writes to no other.
--     one_shared_word                                    two stores that agree on it; a turn does the same on both
--     one_word_written                                   it writes nothing else
-- Assumes nothing.
use Rattle.std.specs.Prelude.{◌≡◌, Bool, ◌≢◌, ltb, get_or}
use Rattle.std.proofs.Math.Path.{refl, ap}
use Rattle.std.proofs.Common.{sym, ◌∙◌, subst, inl, inr, arith}
use mathlib.Core.List.{List, [], ◌∷◌, Memᴰ}
use Rattle.std.proofs.Math.Bool.{true, false, cond}
use Prim.Native.Nat.{ℕ, ◌+◌, ◌≤◌}
use Rattle.std.proofs.Math.Dec.{eqb}
use Rattle.std.proofs.lemmas.Bool.{eqb-false}
use Rattle.arrival.specs.declared.Shape.{Shape}
use Rattle.arrival.specs.declared.Item.{Item}
use Rattle.arrival.specs.declared.Worker.{Worker}
use Rattle.arrival.specs.declared.Response.TheVariants.{Stored, Empty}
use Rattle.arrival.proofs.Keys.{lower_by_key}
use Rattle.arrival.specs.Queue.{taken}
use Rattle.calendar.specs.rules.Layout.{Place, word, cell, field, Write, ◌≔◌, read, link_cell, item_at, successor, is_marked, unmarked}
use Rattle.calendar.specs.rules.Layout.{unlinked_at, bucket_in, epoch_in}
use Rattle.calendar.specs.rules.Outcome.{Outcome, on, answer, with_own, with_bucket, with_left, with_right, with_seen, with_current}
use Rattle.calendar.specs.rules.SearchSteps.{found, settle, right_is_lower, unlink, step_1, step_2, step_3}
use Rattle.calendar.specs.rules.EnqueueSteps.{link_own, renew_current, step_4, step_5, step_6, step_7}
use Rattle.calendar.specs.rules.DequeueSteps.{walk, mark_node, this_current, next_current, step_8, step_9, step_10, step_11, step_12, step_13}
use Rattle.calendar.specs.rules.Steps.{Rule, no_step, step}
use Rattle.calendar.proofs.facts.Changes.{Change, head_read, mark_seen, passed, stopped, unlinked, again_3, prepared, linked, again_5, stored_6, on_7}
use Rattle.calendar.proofs.facts.Changes.{stored_7, back_6, current_read, first_read, mark_passed, newer, on_11, marked, back_10, advanced, back_12}
use Rattle.calendar.proofs.facts.Changes.{emptied, back_13, by_stage, step_is}
use Rattle.calendar.proofs.facts.Inside.{found_writes, settled_writes, walked_writes}
use Rattle.calendar.specs.facts.OneWord.{current_word_lem, left_word, right_link, shared_words, SameSeen, bookkeeping_at, OneWord, AllTo}

-- ── what a turn depends on ──
module _ (sh : Shape) (s s' : List ℕ) where
  found_same : (ws : List Write) (v : Worker) → (v.kind ≢ 0 → item_at sh s' v.own ≡ item_at sh s v.own) → found sh s' ws v ≡ found sh s ws v
  unfolding found
  found_same ws v e = go (eqb v.kind 0) refl
    where
      go : (b : Bool) → eqb v.kind 0 ≡ b
          → cond b (on ws 4 v) (answer ws v (taken (item_at sh s' v.own))) ≡ cond b (on ws 4 v) (answer ws v (taken (item_at sh s v.own)))
      go true q = refl
      go false q = ap (λ (x : Item). answer ws v (taken x)) (e (eqb-false v.kind 0 q))

  settle_same : (ws : List Write) (v : Worker) → (v.kind ≢ 0 → item_at sh s' v.own ≡ item_at sh s v.own) → settle sh s' ws v ≡ settle sh s ws v
  unfolding settle
  settle_same ws v e = ap (λ (o : Outcome). cond (eqb v.right sh.nodes) o (on ws 2 v)) (found_same ws v e)

  module _ (w : Worker) where
    abbrev Same : ℕ → Rule → Type 0
    Same k rule = w.stage ≡ k → SameSeen sh w s s' → rule sh s' w ≡ rule sh s w

    -- the shared word at a known stage
    shared_at : (k : ℕ) → w.stage ≡ k → SameSeen sh w s s'
        → read sh s' (get_or (shared_words sh w) k current_word_lem) ≡ read sh s (get_or (shared_words sh w) k current_word_lem)
    shared_at k q h = rw (← q) h.shared

    same_0 : Same 0 no_step
    unfolding no_step
    same_0 q h = refl

    same_1 : Same 1 step_1
    unfolding step_1
    same_1 q h =
        ap (λ x. settle sh s' [] (with_left w.bucket (with_right (successor x) w))) (shared_at 1 q h)
        ∙ settle_same [] _ (h.answer (omega arith) (omega arith))

    same_2 : Same 2 step_2
    unfolding step_2
    same_2 q h = λ j.
        cond (is_marked (x j)) (on [] 3 (with_seen (x j) w))
        (cond (compared j) (passes j) (stops j))
      where
        compared : right_is_lower sh s' w ≡ right_is_lower sh s w
        compared = lower_by_key (item_at sh s' w.right) (item_at sh s w.right) (item_at sh s' w.own) (item_at sh s w.own) (h.right q) (h.own q)

        x : read sh s' (right_link sh w) ≡ read sh s (right_link sh w)
        x = shared_at 2 q h

        on_from : ℕ → Worker
        on_from y = with_left (link_cell sh w.right) (with_right (successor y) (with_seen y w))

        passes : settle sh s' [] (on_from (read sh s' (right_link sh w))) ≡ settle sh s [] (on_from (read sh s (right_link sh w)))
        passes = ap (λ y. settle sh s' [] (on_from y)) x ∙ settle_same [] _ (h.answer (omega arith) (omega arith))

        stops : found sh s' [] (with_seen (read sh s' (right_link sh w)) w) ≡ found sh s [] (with_seen (read sh s (right_link sh w)) w)
        stops = ap (λ y. found sh s' [] (with_seen y w)) x ∙ found_same [] _ (h.answer (omega arith) (omega arith))

    same_3 : Same 3 step_3
    unfolding step_3
    same_3 q h = λ j. cond (eqb (shared_at 3 q h j) (unmarked w.right)) (unlinks j) (on [] 1 w)
      where
        writes : ℕ → List Write
        writes n = (left_word w ≔ unmarked (successor w.seen)) ∷ (field 7 w.right ≔ unlinked_at n) ∷ []

        unlinks : settle sh s' (unlink sh s' w) (with_right (successor w.seen) w) ≡ settle sh s (unlink sh s w) (with_right (successor w.seen) w)
        unlinks = ap (λ n. settle sh s' (writes n) (with_right (successor w.seen) w)) (h.calls q) ∙ settle_same _ _ (h.answer (omega arith) (omega arith))

    same_4 : Same 4 step_4
    unfolding step_4
    same_4 q h = ap (λ x. on ((field 6 w.own ≔ epoch_in x) ∷ (cell (link_cell sh w.own) ≔ unmarked w.right) ∷ []) 5 (with_current x w)) (shared_at 4 q h)

    same_5 : Same 5 step_5
    unfolding step_5
    same_5 q h = ap (λ x. cond (eqb x (unmarked w.right)) (on (link_own w) 6 w) (on [] 1 w)) (shared_at 5 q h)

    same_6 : Same 6 step_6
    unfolding step_6
    same_6 q h = ap (λ x. cond (ltb (bucket_in x) w.bucket) (answer [] (with_current x w) (Stored w.ticket)) (on [] 7 (with_current x w))) (shared_at 6 q h)

    same_7 : Same 7 step_7
    unfolding step_7
    same_7 q h = ap (λ x. cond (eqb x w.current) (answer (renew_current w) w (Stored w.ticket)) (on [] 6 w)) (shared_at 7 q h)

    same_8 : Same 8 step_8
    unfolding step_8
    same_8 q h = ap (λ x. on [] 9 (with_bucket (bucket_in x) (with_current x w))) (shared_at 8 q h)

    same_9 : Same 9 step_9
    unfolding step_9
    same_9 q h = ap (λ x. walk sh (with_right (successor x) w)) (shared_at 9 q h)

    same_10 : Same 10 step_10
    unfolding step_10
    same_10 q h = let x = shared_at 10 q h in λ j.
        cond (is_marked (x j)) (walk sh (with_right (successor (x j)) (with_seen (x j) w)))
        (cond (ltb (epoch_in w.current) (h.epoch q j)) (on [] 8 (with_seen (x j) w)) (on [] 11 (with_seen (x j) w)))

    same_11 : Same 11 step_11
    unfolding step_11
    same_11 q h = ap (λ x. cond (eqb x w.seen) (on (mark_node sh w) 1 (with_own w.right w)) (on [] 10 w)) (shared_at 11 q h)

    same_12 : Same 12 step_12
    unfolding step_12
    same_12 q h =
        ap (λ x. cond (eqb x (this_current w)) (on ((word 0 ≔ next_current w) ∷ []) 9 (with_bucket (w.bucket + 1) (with_current (next_current w) w)))
        (on [] 8 w))
        (shared_at 12 q h)

    same_13 : Same 13 step_13
    unfolding step_13
    same_13 q h = ap (λ x. cond (eqb x (this_current w)) (answer [] w Empty) (on [] 8 w)) (shared_at 13 q h)

    -- A TURN DEPENDS ON ONE SHARED WORD: record, response and writes are the same in two stores that agree on it.
    pub one_shared_word : w.stage ≤ 13 → SameSeen sh w s s' → step sh s' w ≡ step sh s w
    unfolding step
    one_shared_word l h =
        by_stage Same (
          same_0,
          (same_1, (same_2, (same_3, (same_4, (same_5, (same_6, (same_7, (same_8, (same_9, (same_10, (same_11, (same_12, (same_13, tt))))))))))))),
        ) w.stage l refl h

module _ (sh : Shape) (s : List ℕ) (w : Worker) where
  the_word : (k : ℕ) → w.stage ≡ k → OneWord sh w (get_or (shared_words sh w) k current_word_lem)
  the_word k q = inl (ap (λ (n : ℕ). get_or (shared_words sh w) n current_word_lem) (sym q))

  kept : (k : ℕ) (p : Place) → w.stage ≡ k → Memᴰ p (bookkeeping_at k sh w) → OneWord sh w p
  kept k p q i = inr (subst (λ n. Memᴰ p (bookkeeping_at n sh w)) (sym q) i)

  none : {ws : List Write} → ws ≡ [] → AllTo (OneWord sh w) ws
  none e = rw e tt

  changed_there : {o : Outcome} → Change sh s w o → AllTo (OneWord sh w) o.writes
  changed_there (head_read a b) = none (settled_writes sh s b)
  changed_there (mark_seen a b) = tt
  changed_there (passed a b c d) = none (settled_writes sh s d)
  changed_there (stopped a b c d) = none (found_writes sh s d)
  changed_there (unlinked q b c) = rw (settled_writes sh s c) (the_word 3 q, (kept 3 (field 7 w.right) q (Memᴰ.head refl), tt))
  changed_there (again_3 a b) = tt
  changed_there (prepared q) =
      (kept 4 (field 6 w.own) q (Memᴰ.head refl), (kept 4 (cell (link_cell sh w.own)) q (Memᴰ.tail (Memᴰ.head refl)), tt))
  changed_there (linked q b) = (the_word 5 q, tt)
  changed_there (again_5 a b) = tt
  changed_there (stored_6 a b) = tt
  changed_there (on_7 a b) = tt
  changed_there (stored_7 q b) = (the_word 7 q, tt)
  changed_there (back_6 a b) = tt
  changed_there (current_read a) = tt
  changed_there (first_read a b) = none (walked_writes sh s b)
  changed_there (mark_passed a b c) = none (walked_writes sh s c)
  changed_there (newer a b c) = tt
  changed_there (on_11 a b c) = tt
  changed_there (marked q b) = (the_word 11 q, tt)
  changed_there (back_10 a b) = tt
  changed_there (advanced q b) = (the_word 12 q, tt)
  changed_there (back_12 a b) = tt
  changed_there (emptied a b) = tt
  changed_there (back_13 a b) = tt

  -- A TURN CHANGES NO OTHER SHARED WORD
  pub one_word_written : w.stage ≢ 0 → w.stage ≤ 13 → AllTo (OneWord sh w) (step sh s w).writes
  one_word_written busy l = changed_there (step_is sh s w busy l)
