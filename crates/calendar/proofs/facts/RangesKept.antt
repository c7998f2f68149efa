-- Starts and turns keep every field in its range, but for one leak: a turn at 3 that unlinks a node of distance 0.
--     enqueue_ranged, dequeue_ranged     starts keep every field in its range
--     step_ranged                        a turn keeps the ranges, but for that leak
-- Assumes nothing.
use Rattle.std.specs.Prelude.{◌≡◌, refl, List, [], Bool, true, false, cond, ◌≢◌, ℕ, ◌+◌, ◌*◌, ◌/◌, ◌%◌, ◌≤◌, ◌<◌, eqb}
use Rattle.std.proofs.Common.{sym, ◌∙◌, subst, inl, arith, eq-eqb}
use Rattle.std.proofs.lemmas.Bool.{eqb-false}
use Rattle.arrival.specs.declared.Shape.{Shape}
use Rattle.arrival.specs.declared.Arrival.{Arrival}
use Rattle.arrival.specs.declared.Worker.{Worker}
use Rattle.laws.specs.Tests.{never, upd_cases}
use Rattle.calendar.specs.rules.Layout.{Write, word, cell, field, link, started}
use Rattle.calendar.specs.rules.Ranges.{worker}
use Rattle.calendar.specs.rules.Outcome.{Outcome}
use Rattle.calendar.specs.rules.Starts.{enqueue_start, dequeue_start}
use Rattle.calendar.specs.rules.SearchSteps.{retirement}
use Rattle.calendar.specs.rules.EnqueueSteps.{own_epoch, renewed}
use Rattle.calendar.specs.rules.DequeueSteps.{next_current}
use Rattle.calendar.specs.rules.Reclaim.{first_free}
use Rattle.calendar.specs.facts.Views.{View, view, update, updates}
use Rattle.calendar.specs.facts.RangeFacts.{NodeWords, WordRanges, StoreRanges, RecordRanges}
use Rattle.calendar.proofs.facts.FirstFree.{first_free_node}
use Rattle.calendar.proofs.facts.RecordsKept.{enqueue_record, dequeue_record, found_same, settled_same, walked_same, turn_record, epoch_fits}
use Rattle.calendar.specs.facts.Accepted.{EnqueueAccepted, DequeueAccepted, StepAccepted}
use Rattle.calendar.proofs.facts.Inside.{found_writes, settled_writes, walked_writes}
use Rattle.calendar.proofs.facts.Changes.{Change, head_read}
use Rattle.calendar.proofs.facts.Changes.{mark_seen, passed, stopped, unlinked, again_3, prepared, linked, again_5, stored_6, on_7, stored_7, back_6}
use Rattle.calendar.proofs.facts.Changes.{current_read, first_read, mark_passed, newer, on_11, marked, back_10, advanced, back_12, emptied, back_13}
use Rattle.calendar.specs.facts.RangesKept.{leaks}

-- ── the store ──
module _ (sh : Shape) (m : View) (I : StoreRanges sh m) where
  set_current : (v : ℕ) → v / 4294967296 < sh.buckets → StoreRanges sh (update (word 0) v m)
  set_current v h = record { current = h; started = I.started; last = I.last; heads = I.heads; nodes = I.nodes }

  set_started : (v : ℕ) → v < 4294967296 → StoreRanges sh (update (word 1) v m)
  set_started v h = record { current = I.current; started = h; last = I.last; heads = I.heads; nodes = I.nodes }

  set_cell : (p v : ℕ) → (p < sh.buckets → v % 2 ≡ 0) → v / 2 ≤ sh.nodes → StoreRanges sh (update (cell p) v m)
  set_cell p v even h = record {
    current = I.current;
    started = I.started;
    last = I.last;
    heads = upd_cases (λ b x. b < sh.buckets → (x % 2 ≡ 0) × (x / 2 ≤ sh.nodes)) m.cells p v (λ l. (even l, h)) (λ b u. I.heads b);
    nodes = λ n l. let r = I.nodes n l in
        record {
          next = upd_cases (λ q x. q ≡ sh.buckets + n → x / 2 ≤ sh.nodes) m.cells p v (λ e. h) (λ q u e. rw e r.next) (sh.buckets + n) refl;
          time = r.time;
          ticket = r.ticket;
          path = r.path;
          order = r.order;
          far = r.far;
          distance = r.distance;
          epoch = r.epoch;
          standing = r.standing;
        };
  }

  set_epoch : (x v : ℕ) → v < 4294967296 → StoreRanges sh (update (field 6 x) v m)
  set_epoch x v h = record {
    current = I.current;
    started = I.started;
    last = I.last;
    heads = I.heads;
    nodes = λ n l. let r = I.nodes n l in
        record {
          next = r.next;
          time = r.time;
          ticket = r.ticket;
          path = r.path;
          order = r.order;
          far = r.far;
          distance = r.distance;
          epoch = upd_cases (λ q y. q ≡ n → y < 4294967296) m.epoch x v (λ e. h) (λ q u e. rw e r.epoch) n refl;
          standing = r.standing;
        };
  }

  set_standing : (x v : ℕ) → v < 4294967298 → 1 ≤ m.distance x → StoreRanges sh (update (field 7 x) v m)
  set_standing x v h far = record {
    current = I.current;
    started = I.started;
    last = I.last;
    heads = I.heads;
    nodes =
        upd_cases (λ n y. n < sh.nodes
        → NodeWords sh (m.cells (sh.buckets + n)) (m.time n) (m.ticket n) (m.path n) (m.order n) (m.distance n) (m.epoch n) y) m.standing x v
        (λ l. let r = I.nodes x l in
        record {
          next = r.next;
          time = r.time;
          ticket = r.ticket;
          path = r.path;
          order = r.order;
          far = inl far;
          distance = r.distance;
          epoch = r.epoch;
          standing = h;
        })
        (λ n u. I.nodes n);
  }

-- ── a start ──
pub enqueue_ranged : (sh : Shape) (s : List ℕ) (t : List Worker) (i : ℕ) (a : Arrival) → EnqueueAccepted sh s t i a
    → StoreRanges sh (updates (enqueue_start sh s (first_free sh s t) a (worker t i)).writes (view sh s))
    × RecordRanges sh (enqueue_start sh s (first_free sh s t) a (worker t i)).worker
unfolding enqueue_start
enqueue_ranged sh s t i a A = (
  record { current = I.current; started = omega (arith, A.ticket, I.started); last = is_node; heads = I.heads; nodes = λ n l. go n l (eqb x n) refl },
  enqueue_record sh s x a (worker t i) r is_node A.usable.lent.limits.some_bucket (omega (arith, A.ticket, I.started)),
)
  where
    x : ℕ
    x = first_free sh s t

    m : View
    m = view sh s

    I : StoreRanges sh (view sh s)
    I = A.usable.store

    r : RecordRanges sh (worker t i)
    r = A.usable.table i A.usable.exists

    is_node : first_free sh s t < sh.nodes
    is_node = first_free_node sh s t I.last A.node

    go : (n : ℕ) → n < sh.nodes → (b : Bool) → eqb (first_free sh s t) n ≡ b
        → NodeWords sh ((view sh s).cells (sh.buckets + n)) (cond b a.time ((view sh s).time n)) (cond b (started sh s + 1) ((view sh s).ticket n))
        (cond b a.path ((view sh s).path n)) (cond b a.order ((view sh s).order n)) (cond b a.distance ((view sh s).distance n)) ((view sh s).epoch n)
        (cond b 1 ((view sh s).standing n))
    go n l true e = let o = I.nodes n l in
        record {
          next = o.next;
          time = A.time;
          ticket = omega (arith, A.ticket, I.started);
          path = A.path;
          order = A.order;
          far = inl A.some_distance;
          distance = A.distance;
          epoch = o.epoch;
          standing = omega arith;
        }
    go n l false e = I.nodes n l

pub dequeue_ranged : (sh : Shape) (s : List ℕ) (t : List Worker) (i : ℕ) → DequeueAccepted sh s t i
    → StoreRanges sh (updates (dequeue_start sh s (worker t i)).writes (view sh s)) × RecordRanges sh (dequeue_start sh s (worker t i)).worker
unfolding dequeue_start
dequeue_ranged sh s t i A =
    let I = A.usable.store in
    let r = A.usable.table i A.usable.exists in (
      set_started sh (view sh s) I (started sh s + 1) (omega (arith, A.ticket)),
      dequeue_record sh s (worker t i) r (omega (arith, A.ticket, I.started)),
    )

module _ (sh : Shape) (s : List ℕ) where
  module _ (t : List Worker) (i : ℕ) (A : StepAccepted sh s t i) where
    abbrev w : Worker
    w = worker t i

    abbrev m : View
    m = view sh s

    I : StoreRanges sh (view sh s)
    I = A.usable.store

    words : WordRanges sh s
    words = record { current = I.current; started = I.started; last = I.last }

    r : RecordRanges sh (worker t i)
    r = A.usable.table i A.usable.exists

    -- right's link, as the word seen and as the next right
    right_link : (worker t i).right ≢ sh.nodes → link sh s (worker t i).right / 2 ≤ sh.nodes
    right_link n = (I.nodes w.right (omega (arith, r.right))).next

    head_link : (view sh s).cells (worker t i).bucket / 2 ≤ sh.nodes
    head_link = (I.heads w.bucket r.bucket).1

    abbrev Links : Outcome → Type 0
    Links o = (o.worker.right ≤ sh.nodes) × (o.worker.seen / 2 ≤ sh.nodes)

    -- what is read in a store in range is in range
    links_kept : {o : Outcome} → Change sh s (worker t i) o → Links o
    links_kept (head_read q set) = let e = settled_same sh s set in let h = head_link in (omega (arith, e.0), omega (arith, e.1, r.seen))
    links_kept (mark_seen q h) = (r.right, right_link (r.searches (omega arith) (omega arith)))
    links_kept (passed q h lt set) =
        let e = settled_same sh s set in
        let l = right_link (r.searches (omega arith) (omega arith)) in
        (omega (arith, e.0), omega (arith, e.1))
    links_kept (stopped q h lt f) =
        let e = found_same sh s f in
        let l = right_link (r.searches (omega arith) (omega arith)) in
        (omega (arith, e.0, r.right), omega (arith, e.1))
    links_kept (unlinked q h set) = let e = settled_same sh s set in (omega (arith, e.0, r.seen), omega (arith, e.1, r.seen))
    links_kept (again_3 q h) = (r.right, r.seen)
    links_kept (prepared q) = (r.right, r.seen)
    links_kept (linked q h) = (r.right, r.seen)
    links_kept (again_5 q h) = (r.right, r.seen)
    links_kept (stored_6 q h) = (r.right, r.seen)
    links_kept (on_7 q h) = (r.right, r.seen)
    links_kept (stored_7 q h) = (r.right, r.seen)
    links_kept (back_6 q h) = (r.right, r.seen)
    links_kept (current_read q) = (r.right, r.seen)
    links_kept (first_read q wk) = let e = walked_same sh s wk in let h = head_link in (omega (arith, e.0), omega (arith, e.1, r.seen))
    links_kept (mark_passed q h wk) =
        let e = walked_same sh s wk in
        let l = right_link (r.walks (omega arith) (omega arith)) in
        (omega (arith, e.0), omega (arith, e.1))
    links_kept (newer q h n) = (r.right, right_link (r.walks (omega arith) (omega arith)))
    links_kept (on_11 q h n) = (r.right, right_link (r.walks (omega arith) (omega arith)))
    links_kept (marked q h) = (r.right, r.seen)
    links_kept (back_10 q h) = (r.right, r.seen)
    links_kept (advanced q h) = (r.right, r.seen)
    links_kept (back_12 q h) = (r.right, r.seen)
    links_kept (emptied q h) = (r.right, r.seen)
    links_kept (back_13 q h) = (r.right, r.seen)

    none : {ws : List Write} → ws ≡ [] → StoreRanges sh (updates ws (view sh s))
    none e = rw e I

    store_kept : {o : Outcome} → leaks sh s (worker t i) ≡ false → Change sh s (worker t i) o → StoreRanges sh (updates o.writes (view sh s))
    store_kept {o} tight (unlinked q h set) = subst (λ ws. StoreRanges sh (updates ws m)) (sym (settled_writes sh s set))
        (set_standing sh (update (cell w.left) (2 * (w.seen / 2)) m) (set_cell sh m I w.left (2 * (w.seen / 2)) (λ l. omega arith)
        (omega (arith, r.seen))) w.right (retirement sh s) (omega (arith, I.started)) far)
      where
        far : 1 ≤ (view sh s).distance (worker t i).right
        far = go (eqb ((view sh s).distance w.right) 0) refl
          where
            go : (b : Bool) → eqb ((view sh s).distance (worker t i).right) 0 ≡ b → 1 ≤ (view sh s).distance (worker t i).right
            go true e = never (sym tight ∙ rw (eq-eqb w.stage 3 q, h, e))
            go false e = omega (arith, eqb-false ((view sh s).distance w.right) 0 e)
    store_kept tight (head_read q set) = none (settled_writes sh s set)
    store_kept tight (mark_seen q h) = I
    store_kept tight (passed q h lt set) = none (settled_writes sh s set)
    store_kept tight (stopped q h lt f) = none (found_writes sh s f)
    store_kept tight (again_3 q h) = I
    store_kept tight (prepared q) =
        set_cell sh (update (field 6 w.own) (own_epoch sh s) m) (set_epoch sh m I w.own (own_epoch sh s) (omega arith)) (sh.buckets + w.own)
        (2 * w.right) (λ l. omega arith) (omega (arith, r.right))
    store_kept tight (linked q h) = set_cell sh m I w.left (2 * w.own) (λ l. omega arith) (omega (arith, r.own))
    store_kept tight (again_5 q h) = I
    store_kept tight (stored_6 q h) = I
    store_kept tight (on_7 q h) = I
    store_kept tight (stored_7 q h) = set_current sh m I (renewed w) (omega (arith, r.bucket, epoch_fits sh s (worker t i) words r A.epoch q h))
    store_kept tight (back_6 q h) = I
    store_kept tight (current_read q) = I
    store_kept tight (first_read q wk) = none (walked_writes sh s wk)
    store_kept tight (mark_passed q h wk) = none (walked_writes sh s wk)
    store_kept tight (newer q h n) = I
    store_kept tight (on_11 q h n) = I
    store_kept tight (marked q h) = set_cell sh m I (sh.buckets + w.right) (2 * (w.seen / 2) + 1) (λ l. absurd (omega arith)) (omega (arith, r.seen))
    store_kept tight (back_10 q h) = I
    store_kept tight (advanced q h) = set_current sh m I (next_current w) (omega (arith, r.bucket, r.further q))
    store_kept tight (back_12 q h) = I
    store_kept tight (emptied q h) = I
    store_kept tight (back_13 q h) = I

-- A TURN KEEPS THE RANGES, BUT FOR THE LEAK
pub step_ranged : (sh : Shape) (s : List ℕ) (t : List Worker) (i : ℕ) → StepAccepted sh s t i → {o : Outcome} → Change sh s (worker t i) o
    → RecordRanges sh o.worker × (leaks sh s (worker t i) ≡ false → StoreRanges sh (updates o.writes (view sh s)))
step_ranged sh s t i A c =
    let (right, seen) = links_kept sh s t i A c in
    (turn_record sh s (worker t i) (words sh s t i A) (r sh s t i A) c right seen, λ tight. store_kept sh s t i A tight c)
