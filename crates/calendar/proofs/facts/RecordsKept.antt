-- What starts and turns leave of a record's ranges and of the three first words, on any store. Of a turn's record only what it has read from elsewhere, `right`
-- and `seen`, can be out of range.
--     Fields                              the ranges that no stage narrows; a record at a stage
--     enqueue_record, dequeue_record      a start's record is in range
--     turn_record                         so is a turn's, if `right` and `seen` are
--     turn_tests                            their test is then the test of the whole record
--     enqueue_words .. turn_words         the three first words stay in range
-- Assumes nothing.
use Rattle.std.specs.Prelude.{◌≡◌, refl, List, [], Bool, true, false, ◌≢◌, ℕ, ◌+◌, ◌-◌, ◌/◌, ◌%◌, ◌≤◌, ◌<◌, length}
use Rattle.std.proofs.Common.{sym, ◌∙◌, subst, arith, ltb-true, leb-true, le-leb, eq-eqb}
use Rattle.arrival.specs.declared.Shape.{Shape}
use Rattle.arrival.specs.declared.Arrival.{Arrival}
use Rattle.arrival.specs.declared.Worker.{Worker}
use Rattle.arrival.proofs.Keys.{bucket_below}
use Rattle.laws.specs.Tests.{never, parts, both}
use Rattle.calendar.specs.rules.Layout.{Write, write_all, layout, link, started, current}
use Rattle.calendar.specs.rules.Ranges.{record_in_range}
use Rattle.calendar.specs.rules.Outcome.{Outcome, with_stage, with_seen, with_own, with_bucket, with_current}
use Rattle.calendar.specs.rules.Starts.{enqueue_start, dequeue_start}
use Rattle.calendar.specs.rules.EnqueueSteps.{current_holds}
use Rattle.calendar.specs.rules.DequeueSteps.{next_current}
use Rattle.calendar.specs.rules.Refusals.{no_epoch}
use Rattle.calendar.specs.facts.Views.{View, view, updates, AllInside}
use Rattle.calendar.proofs.facts.Views.{view_write_all}
use Rattle.calendar.specs.facts.RangeFacts.{WordRanges, RecordRanges}
use Rattle.calendar.proofs.facts.RangeFacts.{record_ranges, record_tests_lem}
use Rattle.calendar.proofs.facts.Inside.{found_writes, settled_writes, walked_writes, enqueue_inside, dequeue_inside, change_inside}
use Rattle.calendar.proofs.facts.Changes.{Found, put_found, take_ends, Settled, at_end, still_on, Walked, out, out_last, meets, Change, head_read}
use Rattle.calendar.proofs.facts.Changes.{mark_seen, passed, stopped, unlinked, again_3, prepared, linked, again_5, stored_6, on_7, stored_7, back_6}
use Rattle.calendar.proofs.facts.Changes.{current_read, first_read, mark_passed, newer, on_11, marked, back_10, advanced, back_12, emptied, back_13}
use Rattle.calendar.specs.facts.RecordsKept.{Same, links_in_range}

-- the ranges of a record's fields that no stage narrows
abbrev Fields : Shape → Worker → Type 0
Fields sh w = record {
  kind : w.kind ≤ 1;
  own : w.own < sh.nodes;
  bucket : w.bucket < sh.buckets;
  left : w.left < sh.buckets + sh.nodes;
  right : w.right ≤ sh.nodes;
  seen : w.seen / 2 ≤ sh.nodes;
  current : w.current / 4294967296 < sh.buckets;
  ticket : w.ticket < 4294967296;
}

fields : (sh : Shape) (w : Worker) → RecordRanges sh w → Fields sh w
fields sh w r =
    record { kind = r.kind; own = r.own; bucket = r.bucket; left = r.left; right = r.right; seen = r.seen; current = r.current; ticket = r.ticket }

-- such a record at a stage, with what the stage asks
at_stage : (sh : Shape) (w : Worker) (k : ℕ) → Fields sh w → k ≤ 13 → (4 ≤ k → k ≤ 7 → w.kind ≡ 0) → (8 ≤ k → k ≤ 13 → w.kind ≡ 1)
    → (k ≡ 12 → w.bucket ≢ sh.buckets - 1)
    → (2 ≤ k → k ≤ 3 → w.right ≢ sh.nodes) → (10 ≤ k → k ≤ 11 → w.right ≢ sh.nodes) → RecordRanges sh (with_stage k w)
at_stage sh w k r stage enq deq further searches walks = record {
  stage = stage;
  kind = r.kind;
  enqueues = enq;
  dequeues = deq;
  own = r.own;
  bucket = r.bucket;
  further = further;
  left = r.left;
  right = r.right;
  searches = searches;
  walks = walks;
  seen = r.seen;
  current = r.current;
  ticket = r.ticket;
}

-- at stages 0 and 1 nothing more is asked
free_stage : (sh : Shape) (w : Worker) (k : ℕ) → Fields sh w → k ≤ 1 → RecordRanges sh (with_stage k w)
free_stage sh w k r h =
    at_stage sh w k r (omega arith) (λ p q. absurd (omega arith)) (λ p q. absurd (omega arith)) (λ p. absurd (omega arith)) (λ p q. absurd (omega arith))
    (λ p q. absurd (omega arith))

-- at 8, 9 and 13 only that it is a take
take_stage : (sh : Shape) (w : Worker) (k : ℕ) → Fields sh w → 8 ≤ k → k ≤ 13 → k ≢ 12 → (10 ≤ k → k ≤ 11 → w.right ≢ sh.nodes) → w.kind ≡ 1
    → RecordRanges sh (with_stage k w)
take_stage sh w k r lo hi other walks z =
    at_stage sh w k r hi (λ p q. absurd (omega arith)) (λ p q. z) (λ p. absurd (other p)) (λ p q. absurd (omega arith)) walks

-- at 4 to 7 only that it is a put
put_stage : (sh : Shape) (w : Worker) (k : ℕ) → Fields sh w → 4 ≤ k → k ≤ 7 → w.kind ≡ 0 → RecordRanges sh (with_stage k w)
put_stage sh w k r lo hi z =
    at_stage sh w k r (omega arith) (λ p q. z) (λ p q. absurd (omega arith)) (λ p. absurd (omega arith)) (λ p q. absurd (omega arith))
    (λ p q. absurd (omega arith))

-- ── a start ──
pub enqueue_record : (sh : Shape) (s : List ℕ) (n : ℕ) (a : Arrival) (w : Worker) → RecordRanges sh w → n < sh.nodes → 1 ≤ sh.buckets
    → started sh s < 4294967295 → RecordRanges sh (enqueue_start sh s n a w).worker
unfolding enqueue_start
enqueue_record sh s n a w r is_node some few = record {
  stage = omega arith;
  kind = omega arith;
  enqueues = λ p q. absurd (omega arith);
  dequeues = λ p q. absurd (omega arith);
  own = is_node;
  bucket = bucket_below sh a.time some;
  further = λ p. absurd (omega arith);
  left = r.left;
  right = r.right;
  searches = λ p q. absurd (omega arith);
  walks = λ p q. absurd (omega arith);
  seen = r.seen;
  current = r.current;
  ticket = omega arith;
}

pub dequeue_record : (sh : Shape) (s : List ℕ) (w : Worker) → RecordRanges sh w → started sh s < 4294967295 → RecordRanges sh (dequeue_start sh s w).worker
unfolding dequeue_start
dequeue_record sh s w r few = record {
  stage = omega arith;
  kind = omega arith;
  enqueues = λ p q. absurd (omega arith);
  dequeues = λ p q. refl;
  own = r.own;
  bucket = r.bucket;
  further = λ p. absurd (omega arith);
  left = r.left;
  right = r.right;
  searches = λ p q. absurd (omega arith);
  walks = λ p q. absurd (omega arith);
  seen = r.seen;
  current = r.current;
  ticket = omega arith;
}

module _ (sh : Shape) (s : List ℕ) where
  pub found_same : {ws : List Write} {v : Worker} {o : Outcome} → Found sh s ws v o → Same v o.worker
  found_same (put_found z) = (refl, refl)
  found_same (take_ends z) = (refl, refl)

  pub settled_same : {ws : List Write} {v : Worker} {o : Outcome} → Settled sh s ws v o → Same v o.worker
  settled_same (at_end q f) = found_same f
  settled_same (still_on n) = (refl, refl)

  pub walked_same : {v : Worker} {o : Outcome} → Walked sh s v o → Same v o.worker
  walked_same (out e more) = (refl, refl)
  walked_same (out_last e more) = (refl, refl)
  walked_same (meets n) = (refl, refl)

  found_ranged : {ws : List Write} {v : Worker} {o : Outcome} → Found sh s ws v o → Fields sh v → RecordRanges sh o.worker
  found_ranged {v} (put_found z) r = put_stage sh v 4 r (omega arith) (omega arith) z
  found_ranged {v} (take_ends z) r = free_stage sh v 0 r (omega arith)

  settled_ranged : {ws : List Write} {v : Worker} {o : Outcome} → Settled sh s ws v o → Fields sh v → RecordRanges sh o.worker
  settled_ranged (at_end q f) r = found_ranged f r
  settled_ranged {v} (still_on n) r =
      at_stage sh v 2 r (omega arith) (λ p q. absurd (omega arith)) (λ p q. absurd (omega arith)) (λ p. absurd (omega arith)) (λ p q. n)
      (λ p q. absurd (omega arith))

  walked_ranged : {v : Worker} {o : Outcome} → Walked sh s v o → Fields sh v → v.kind ≡ 1 → RecordRanges sh o.worker
  walked_ranged {v} (out e more) r z =
      at_stage sh v 12 r (omega arith) (λ p q. absurd (omega arith)) (λ p q. z) (λ p e. omega (arith, ltb-true (v.bucket + 1) sh.buckets more))
      (λ p q. absurd (omega arith)) (λ p q. absurd (omega arith))
  walked_ranged {v} (out_last e more) r z = take_stage sh v 13 r (omega arith) (omega arith) (λ p. omega arith) (λ p q. absurd (omega arith)) z
  walked_ranged {v} (meets n) r z = take_stage sh v 10 r (omega arith) (omega arith) (λ p. omega arith) (λ p q. n) z

  module _ (w : Worker) (I : WordRanges sh s) (r : RecordRanges sh w) where
    F : Fields sh w
    F = fields sh w r

    right_node : w.right ≢ sh.nodes → w.right < sh.nodes
    right_node n = omega (arith, r.right)

    with_seen_lem : link sh s w.right / 2 ≤ sh.nodes → Fields sh (with_seen (link sh s w.right) w)
    with_seen_lem h =
        record { kind = F.kind; own = F.own; bucket = F.bucket; left = F.left; right = F.right; seen = h; current = F.current; ticket = F.ticket }

    with_current_lem : Fields sh (with_current (current sh s) w)
    with_current_lem =
        record { kind = F.kind; own = F.own; bucket = F.bucket; left = F.left; right = F.right; seen = F.seen; current = I.current; ticket = F.ticket }

    take : 8 ≤ w.stage → w.kind ≡ 1
    take h = r.dequeues h r.stage

    record_kept : {o : Outcome} → Change sh s w o → o.worker.right ≤ sh.nodes → o.worker.seen / 2 ≤ sh.nodes → RecordRanges sh o.worker
    record_kept (head_read q set) rt sn =
        settled_ranged set (record {
          kind = F.kind;
          own = F.own;
          bucket = F.bucket;
          left = omega (arith, F.bucket);
          right = omega (arith, (settled_same set).0);
          seen = F.seen;
          current = F.current;
          ticket = F.ticket;
        })
    record_kept (mark_seen q h) rt sn = let n = r.searches (omega arith) (omega arith) in
        at_stage sh (with_seen (link sh s w.right) w) 3 (with_seen_lem sn) (omega arith) (λ a b. absurd (omega arith)) (λ a b. absurd (omega arith))
        (λ a. absurd (omega arith)) (λ a b. n) (λ a b. absurd (omega arith))
    record_kept (passed q h lt set) rt sn = let n = r.searches (omega arith) (omega arith) in
        settled_ranged set (record {
          kind = F.kind;
          own = F.own;
          bucket = F.bucket;
          left = omega (arith, right_node n);
          right = omega (arith, (settled_same set).0);
          seen = omega (arith, (settled_same set).1);
          current = F.current;
          ticket = F.ticket;
        })
    record_kept (stopped q h lt f) rt sn = found_ranged f (with_seen_lem (omega (arith, (found_same f).1)))
    record_kept (unlinked q h set) rt sn =
        settled_ranged set (record {
          kind = F.kind;
          own = F.own;
          bucket = F.bucket;
          left = F.left;
          right = F.seen;
          seen = F.seen;
          current = F.current;
          ticket = F.ticket;
        })
    record_kept (again_3 q h) rt sn = free_stage sh w 1 F (omega arith)
    record_kept (prepared q) rt sn = put_stage sh (with_current (current sh s) w) 5 with_current_lem (omega arith) (omega arith)
        (r.enqueues (omega arith) (omega arith))
    record_kept (linked q h) rt sn = put_stage sh w 6 F (omega arith) (omega arith) (r.enqueues (omega arith) (omega arith))
    record_kept (again_5 q h) rt sn = free_stage sh w 1 F (omega arith)
    record_kept (stored_6 q h) rt sn = free_stage sh (with_current (current sh s) w) 0 with_current_lem (omega arith)
    record_kept (on_7 q h) rt sn = put_stage sh (with_current (current sh s) w) 7 with_current_lem (omega arith) (omega arith)
        (r.enqueues (omega arith) (omega arith))
    record_kept (stored_7 q h) rt sn = free_stage sh w 0 F (omega arith)
    record_kept (back_6 q h) rt sn = put_stage sh w 6 F (omega arith) (omega arith) (r.enqueues (omega arith) (omega arith))
    record_kept (current_read q) rt sn =
        take_stage sh (with_bucket (current sh s / 4294967296) (with_current (current sh s) w)) 9 (record {
          kind = F.kind;
          own = F.own;
          bucket = I.current;
          left = F.left;
          right = F.right;
          seen = F.seen;
          current = I.current;
          ticket = F.ticket;
        }) (omega arith) (omega arith) (λ p. omega arith) (λ a b. absurd (omega arith)) (take (omega arith))
    record_kept (first_read q wk) rt sn =
        walked_ranged wk (record {
          kind = F.kind;
          own = F.own;
          bucket = F.bucket;
          left = F.left;
          right = omega (arith, (walked_same wk).0);
          seen = F.seen;
          current = F.current;
          ticket = F.ticket;
        }) (take (omega arith))
    record_kept (mark_passed q h wk) rt sn =
        walked_ranged wk (record {
          kind = F.kind;
          own = F.own;
          bucket = F.bucket;
          left = F.left;
          right = omega (arith, (walked_same wk).0);
          seen = omega (arith, (walked_same wk).1);
          current = F.current;
          ticket = F.ticket;
        }) (take (omega arith))
    record_kept (newer q h n) rt sn =
        take_stage sh (with_seen (link sh s w.right) w) 8 (with_seen_lem sn) (omega arith) (omega arith) (λ p. omega arith)
        (λ a b. absurd (omega arith)) (take (omega arith))
    record_kept (on_11 q h n) rt sn =
        let u = r.walks (omega arith) (omega arith) in
        take_stage sh (with_seen (link sh s w.right) w) 11 (with_seen_lem sn) (omega arith) (omega arith) (λ p. omega arith) (λ a b. u) (take (omega arith))
    record_kept (marked q h) rt sn =
        free_stage sh (with_own w.right w) 1 (record {
          kind = F.kind;
          own = right_node (r.walks (omega arith) (omega arith));
          bucket = F.bucket;
          left = F.left;
          right = F.right;
          seen = F.seen;
          current = F.current;
          ticket = F.ticket;
        }) (omega arith)
    record_kept (back_10 q h) rt sn =
        take_stage sh w 10 F (omega arith) (omega arith) (λ p. omega arith) (λ a b. r.walks (omega arith) (omega arith)) (take (omega arith))
    record_kept (advanced q h) rt sn =
        take_stage sh (with_bucket (w.bucket + 1) (with_current (next_current w) w)) 9 (record {
          kind = F.kind;
          own = F.own;
          bucket = omega (arith, F.bucket, r.further q);
          left = F.left;
          right = F.right;
          seen = F.seen;
          current = omega (arith, F.bucket, r.further q);
          ticket = F.ticket;
        }) (omega arith) (omega arith) (λ p. omega arith) (λ a b. absurd (omega arith)) (take (omega arith))
    record_kept (back_12 q h) rt sn = take_stage sh w 8 F (omega arith) (omega arith) (λ p. omega arith) (λ a b. absurd (omega arith)) (take (omega arith))
    record_kept (emptied q h) rt sn = free_stage sh w 0 F (omega arith)
    record_kept (back_13 q h) rt sn = take_stage sh w 8 F (omega arith) (omega arith) (λ p. omega arith) (λ a b. absurd (omega arith)) (take (omega arith))

pub turn_record : (sh : Shape) (s : List ℕ) (w : Worker) → WordRanges sh s → RecordRanges sh w → {o : Outcome} → Change sh s w o
    → o.worker.right ≤ sh.nodes → o.worker.seen / 2 ≤ sh.nodes → RecordRanges sh o.worker
turn_record sh s w I r c = record_kept sh s w I r c

pub turn_tests : (sh : Shape) (s : List ℕ) (w : Worker) → WordRanges sh s → RecordRanges sh w → {o : Outcome} → Change sh s w o
    → record_in_range sh o.worker ≡ links_in_range sh o.worker
turn_tests sh s w I r {o} c = go (links_in_range sh o.worker) refl (record_in_range sh o.worker) refl
  where
    go : (a : Bool) → links_in_range sh o.worker ≡ a → (b : Bool) → record_in_range sh o.worker ≡ b → b ≡ a
    go true e b f =
        let (right, seen) = parts _ _ e in
        sym f ∙ record_tests_lem sh o.worker (turn_record sh s w I r c (leb-true _ _ right) (leb-true _ _ seen))
    go false e true f =
        let q = record_ranges sh o.worker f in
        never (sym e ∙ both (le-leb o.worker.right sh.nodes q.right) (le-leb (o.worker.seen / 2) sh.nodes q.seen))
    go false e false f = refl

-- ── the three first words ──
-- of a view, which tells them of the store that was written
abbrev Words : Shape → View → Type 0
Words sh m = (m.current / 4294967296 < sh.buckets) × (m.started < 4294967296) × (m.last < sh.nodes)

written : (sh : Shape) (s : List ℕ) (ws : List Write) → layout sh ≤ length s → AllInside sh ws → Words sh (updates ws (view sh s)) → WordRanges sh
    (write_all sh s ws)
written sh s ws fits inside h =
    let (c, k, n) = subst (Words sh) (sym (view_write_all sh s ws fits inside)) h in
    record { current = c; started = k; last = n }

pub enqueue_words : (sh : Shape) (s : List ℕ) (n : ℕ) (a : Arrival) (w : Worker) → layout sh ≤ length s → WordRanges sh s → n < sh.nodes
    → started sh s < 4294967295 → WordRanges sh (write_all sh s (enqueue_start sh s n a w).writes)
unfolding enqueue_start
enqueue_words sh s n a w fits I is_node few =
    written sh s (enqueue_start sh s n a w).writes fits (enqueue_inside sh s n a w is_node) (I.current, omega arith, is_node)

pub dequeue_words : (sh : Shape) (s : List ℕ) (w : Worker) → layout sh ≤ length s → WordRanges sh s → started sh s < 4294967295
    → WordRanges sh (write_all sh s (dequeue_start sh s w).writes)
unfolding dequeue_start
dequeue_words sh s w fits I few = written sh s (dequeue_start sh s w).writes fits (dequeue_inside sh s w) (I.current, omega arith, I.last)

module _ (sh : Shape) (s : List ℕ) (w : Worker) (I : WordRanges sh s) (r : RecordRanges sh w) (fits : no_epoch sh s w ≡ false) where
  as_they_were : Words sh (view sh s)
  as_they_were = (I.current, I.started, I.last)

  none : {ws : List Write} → ws ≡ [] → Words sh (updates ws (view sh s))
  none e = rw e as_they_were

  -- 7 leaves an epoch below 2^32
  pub epoch_fits : w.stage ≡ 7 → current_holds sh s w ≡ true → w.current % 4294967296 ≢ 4294967295
  epoch_fits e h q = never (sym fits ∙ all)
    where
      all : no_epoch sh s w ≡ true
      all = rw (eq-eqb w.stage 7 e, h, eq-eqb (w.current % 4294967296) 4294967295 q)

  words_kept : {o : Outcome} → Change sh s w o → Words sh (updates o.writes (view sh s))
  words_kept (head_read q set) = none (settled_writes sh s set)
  words_kept (mark_seen q h) = as_they_were
  words_kept (passed q h lt set) = none (settled_writes sh s set)
  words_kept (stopped q h lt f) = none (found_writes sh s f)
  words_kept (unlinked q h set) = subst (λ (ws : List Write). Words sh (updates ws (view sh s))) (sym (settled_writes sh s set)) as_they_were
  words_kept (again_3 q h) = as_they_were
  words_kept (prepared q) = as_they_were
  words_kept (linked q h) = as_they_were
  words_kept (again_5 q h) = as_they_were
  words_kept (stored_6 q h) = as_they_were
  words_kept (on_7 q h) = as_they_were
  words_kept (stored_7 q h) = (omega (arith, r.bucket, epoch_fits q h), I.started, I.last)
  words_kept (back_6 q h) = as_they_were
  words_kept (current_read q) = as_they_were
  words_kept (first_read q wk) = none (walked_writes sh s wk)
  words_kept (mark_passed q h wk) = none (walked_writes sh s wk)
  words_kept (newer q h n) = as_they_were
  words_kept (on_11 q h n) = as_they_were
  words_kept (marked q h) = as_they_were
  words_kept (back_10 q h) = as_they_were
  words_kept (advanced q h) = (omega (arith, r.bucket, r.further q), I.started, I.last)
  words_kept (back_12 q h) = as_they_were
  words_kept (emptied q h) = as_they_were
  words_kept (back_13 q h) = as_they_were

  pub turn_words : layout sh ≤ length s → {o : Outcome} → Change sh s w o → WordRanges sh (write_all sh s o.writes)
  turn_words long {o} c = written sh s o.writes long (change_inside sh s w r c) (words_kept c)
