-- A start or turn that is answered On leaves its worker's call in progress, with its ticket. Assumes nothing.
--     change_ticket            a turn keeps the ticket, whatever it did
--     turn_on, action_on       where the response is On, the ticket among those in progress is the one that it was
--     kept_ticket              a record stored whose ticket is that of the record before it: the list stays
use Rattle.std.specs.Prelude.{◌≡◌, refl, List, Bool, true, false, cond, ◌≢◌, ℕ, ◌≤◌, eqb, set}
use Rattle.std.proofs.Common.{sym, ap, ◌∙◌, eqb-true, ne_eqb}
use Rattle.std.proofs.lemmas.List.{set-get_or}
use Rattle.arrival.specs.declared.Shape.{Shape}
use Rattle.arrival.specs.declared.Worker.{Worker}
use Rattle.arrival.specs.declared.Action.{Action}
use Rattle.arrival.specs.declared.Action.TheVariants.{Enqueue, Dequeue, Step}
use Rattle.arrival.specs.declared.Response.TheVariants.{On}
use Rattle.laws.specs.FirstOf.{first_of}
use Rattle.calendar.specs.rules.Layout.{Write}
use Rattle.calendar.specs.rules.Ranges.{blank, worker}
use Rattle.calendar.specs.rules.Outcome.{Outcome}
use Rattle.calendar.specs.rules.Starts.{enqueue_start, dequeue_start}
use Rattle.calendar.specs.rules.NarrowCalls.{goes_on}
use Rattle.calendar.specs.rules.Operations.{outcome_of}
use Rattle.calendar.specs.rules.Refusals.{own_tests}
use Rattle.calendar.specs.rules.Steps.{step}
use Rattle.calendar.specs.facts.RangeFacts.{RecordRanges}
use Rattle.calendar.proofs.facts.Accepted.{step_passed}
use Rattle.calendar.proofs.facts.GoesOn.{change_goes}
use Rattle.calendar.proofs.facts.Changes.{Found, put_found, take_ends, Settled, at_end, still_on, Walked, out, out_last, meets, Change, head_read}
use Rattle.calendar.proofs.facts.Changes.{mark_seen, passed, stopped, unlinked, again_3, prepared, linked, again_5, stored_6, on_7, stored_7, back_6}
use Rattle.calendar.proofs.facts.Changes.{current_read, first_read, mark_passed, newer, on_11, marked, back_10, advanced, back_12, emptied, back_13}
use Rattle.calendar.proofs.facts.Changes.{step_is}
use Rattle.words.specs.declared.replies.Reply.{Reply}
use Rattle.words.specs.Done.{Done, done, gives, refused}
use Rattle.starts.specs.FreeSearch.{first_free_below}
use Rattle.starts.specs.LocalStart.{none_below}
use Rattle.operation.specs.LocalAct.{local_act, Admitted}
use Rattle.batch.specs.Tickets.{ticket_of, tickets_of, low_for}
use Rattle.batch.specs.ActHeld.{held_act}
use Rattle.batch.proofs.TicketLaws.{tickets_set}

module _ (sh : Shape) (s : List ℕ) where
  found_ticket : {ws : List Write} {v : Worker} {o : Outcome} → Found sh s ws v o → o.worker.ticket ≡ v.ticket
  found_ticket (put_found e) = refl
  found_ticket (take_ends e) = refl

  settled_ticket : {ws : List Write} {v : Worker} {o : Outcome} → Settled sh s ws v o → o.worker.ticket ≡ v.ticket
  settled_ticket (at_end e f) = found_ticket f
  settled_ticket (still_on e) = refl

  walked_ticket : {v : Worker} {o : Outcome} → Walked sh s v o → o.worker.ticket ≡ v.ticket
  walked_ticket (out e f) = refl
  walked_ticket (out_last e f) = refl
  walked_ticket (meets e) = refl

  change_ticket : {w : Worker} {o : Outcome} → Change sh s w o → o.worker.ticket ≡ w.ticket
  change_ticket (head_read a b) = settled_ticket b
  change_ticket (mark_seen a b) = refl
  change_ticket (passed a b c d) = settled_ticket d
  change_ticket (stopped a b c d) = found_ticket d
  change_ticket (unlinked a b c) = settled_ticket c
  change_ticket (again_3 a b) = refl
  change_ticket (prepared a) = refl
  change_ticket (linked a b) = refl
  change_ticket (again_5 a b) = refl
  change_ticket (stored_6 a b) = refl
  change_ticket (on_7 a b) = refl
  change_ticket (stored_7 a b) = refl
  change_ticket (back_6 a b) = refl
  change_ticket (current_read a) = refl
  change_ticket (first_read a b) = walked_ticket b
  change_ticket (mark_passed a b c) = walked_ticket c
  change_ticket (newer a b c) = refl
  change_ticket (on_11 a b c) = refl
  change_ticket (marked a b) = refl
  change_ticket (back_10 a b) = refl
  change_ticket (advanced a b) = refl
  change_ticket (back_12 a b) = refl
  change_ticket (emptied a b) = refl
  change_ticket (back_13 a b) = refl

  turn_on : (w : Worker) → w.stage ≢ 0 → w.stage ≤ 13 → (step sh s w).response ≡ On → ticket_of (step sh s w).worker ≡ ticket_of w
  turn_on w busy most on =
      let c = step_is sh s w busy most in
      rw (sym (change_goes sh s c) ∙ ap goes_on on, change_ticket c, ne_eqb w.stage 0 busy) refl

  -- let in, and not refused by its own tests
  outcome_on : (none : Bool) (free : ℕ) (a : Action) (w : Worker) → RecordRanges sh w → first_of (own_tests sh s none a w) ≡ 0
      → (outcome_of sh s free a w).response ≡ On → ticket_of (outcome_of sh s free a w).worker ≡ ticket_of w
  unfolding enqueue_start dequeue_start
  outcome_on none free (Enqueue i x) w r e on = cc
  outcome_on none free (Dequeue i) w r e on = cc
  outcome_on none free (Step i) w r e on = turn_on w (step_passed sh s w e).0 r.stage on

  -- of what `Known::act` leaves; a refusal leaves w as it is
  pub action_on : (k : ℕ) (a : Action) (w : Worker) (ts : List ℕ) → (k ≡ 0 → Admitted sh s w) → (s' : List ℕ) (r : Reply)
      → gives s' r ≡ held_act k sh a w ts s → r.response ≡ On → ticket_of r.worker ≡ ticket_of w
  unfolding local_act
  action_on k a w ts admits s' r is on = gate (eqb k 0) refl is
    where
      low : ℕ
      low = low_for a ts sh.workers

      none : Bool
      none = none_below sh low s

      own : ℕ
      own = first_of (own_tests sh s none a w)

      free : ℕ
      free = first_free_below sh s low

      passes : RecordRanges sh w → (b : Bool) → eqb own 0 ≡ b → gives s' r ≡ cond b (done sh s (outcome_of sh s free a w)) (refused s w own)
          → ticket_of r.worker ≡ ticket_of w
      passes ranges true e d =
          ap (λ (x : Done). ticket_of x.worker) d ∙ outcome_on none free a w ranges (eqb-true own 0 e) (sym (ap (λ (x : Done). x.response) d) ∙ on)
      passes ranges false e d = ap (λ (x : Done). ticket_of x.worker) d

      gate : (b : Bool) → eqb k 0 ≡ b → gives s' r ≡ cond b (local_act sh low s a w) (refused s w k) → ticket_of r.worker ≡ ticket_of w
      gate true z d = passes (admits (eqb-true k 0 z)).worker (eqb own 0) refl d
      gate false n d = ap (λ (x : Done). ticket_of x.worker) d

pub kept_ticket : (t : List Worker) (i : ℕ) (w : Worker) {ts : List ℕ} → ts ≡ tickets_of t → ticket_of w ≡ ticket_of (worker t i)
    → ts ≡ tickets_of (set t i w)
kept_ticket t i w is e =
    is
    ∙ ap tickets_of (sym (set-get_or t i blank))
    ∙ tickets_set t i (worker t i)
    ∙ ap (set (tickets_of t) i) (sym e)
    ∙ sym (tickets_set t i w)
