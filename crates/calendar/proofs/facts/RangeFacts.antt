-- The range tests as facts on numbers, in both directions.
--     limits                                             the shape
--     store_ranges, store_tests                          its test tells the facts; the facts tell the test
--     word_ranges, word_tests                            the three first words alone, both ways
--     record_ranges, record_tests_lem                        a record, both ways
--     table_ranges, table_tests                          the table, both ways
-- Assumes nothing.
use Rattle.std.specs.Prelude.{◌≡◌, refl, List, Bool, true, false, ◌||◌, not, ◌⊎◌, ◌≢◌, ℕ, ◌+◌, ◌-◌, ◌/◌, ◌%◌, ◌<◌, ◌≤◌, eqb, leb}
use Rattle.std.proofs.Common.{inl, inr, eqb-true, leb-true, ltb-true, le-leb, lt-ltb, eq-eqb}
use Rattle.arrival.specs.declared.Shape.{Shape}
use Rattle.arrival.specs.declared.Worker.{Worker}
use Rattle.laws.specs.Tests.{parts, never, both, either, or_left, or_right, inside, within, isnt, is_not}
use Rattle.laws.proofs.Counting.{every_at, every_all}
use Rattle.calendar.specs.rules.Layout.{current, started, last_node, head, link, time_at, ticket_at, path_at, order_at, distance_at, epoch_at, standing}
use Rattle.calendar.specs.rules.Layout.{bucket_in}
use Rattle.calendar.specs.rules.Ranges.{shape_in_range, head_in_range, node_in_range, store_in_range, table_in_range, worker, implies, between}
use Rattle.calendar.specs.rules.Ranges.{call_in_range, place_in_range, words_held_in_range, record_in_range}
use Rattle.calendar.specs.rules.Ranges.{words_in_range}
use Rattle.calendar.specs.facts.Views.{view}
use Rattle.calendar.specs.facts.RangeFacts.{Limits, NodeRanges, HeadRanges, StoreRanges, WordRanges, RecordRanges}

-- ── tests joined by "implies" ──
follows : (a b : Bool) → implies a b ≡ true → a ≡ true → b ≡ true
follows true b e h = e
follows false b e h = never h

implied : (a b : Bool) → (a ≡ true → b ≡ true) → implies a b ≡ true
implied true b f = f refl
implied false b f = refl

pub limits : (sh : Shape) → shape_in_range sh ≡ true → Limits sh
limits sh e =
    let (e, width) = parts _ _ e in
    let (e, some_width) = parts _ _ e in
    let (e, buckets) = parts _ _ e in
    let (e, some_bucket) = parts _ _ e in
    let (e, nodes) = parts _ _ e in
    let (e, some_node) = parts _ _ e in
    let (some_worker, workers) = parts _ _ e in
    record {
      some_worker = leb-true _ _ some_worker;
      workers = leb-true _ _ workers;
      some_node = leb-true _ _ some_node;
      nodes = leb-true _ _ nodes;
      some_bucket = leb-true _ _ some_bucket;
      buckets = leb-true _ _ buckets;
      some_width = leb-true _ _ some_width;
      width = leb-true _ _ width;
    }

head_ranges : (sh : Shape) (s : List ℕ) (b : ℕ) → head_in_range sh s b ≡ true → HeadRanges sh (view sh s) b
head_ranges sh s b e = let (p, q) = parts _ _ e in (eqb-true _ _ p, leb-true _ _ q)

head_tests : (sh : Shape) (s : List ℕ) (b : ℕ) → HeadRanges sh (view sh s) b → head_in_range sh s b ≡ true
head_tests sh s b r = rw (eq-eqb (head sh s b % 2) 0 r.0, le-leb (head sh s b / 2) sh.nodes r.1)

one_of : (d k : ℕ) → (leb 1 d ≡ true) ⊎ (eqb k 0 ≡ true) → (1 ≤ d) ⊎ (k ≡ 0)
one_of d k (inl p) = inl (leb-true _ _ p)
one_of d k (inr p) = inr (eqb-true _ _ p)

of_one : (d k : ℕ) → (1 ≤ d) ⊎ (k ≡ 0) → (leb 1 d || eqb k 0) ≡ true
of_one d k (inl p) = or_left (leb 1 d) (eqb k 0) (le-leb 1 d p)
of_one d k (inr p) = or_right (leb 1 d) (eqb k 0) (eq-eqb k 0 p)

node_ranges : (sh : Shape) (s : List ℕ) (n : ℕ) → node_in_range sh s n ≡ true → NodeRanges sh (view sh s) n
node_ranges sh s n e =
    let (e, standing) = parts _ _ e in
    let (e, epoch) = parts _ _ e in
    let (e, distance) = parts _ _ e in
    let (e, far) = parts _ _ e in
    let (e, order) = parts _ _ e in
    let (e, path) = parts _ _ e in
    let (e, ticket) = parts _ _ e in
    let (next, time) = parts _ _ e in
    record {
      next = leb-true _ _ next;
      time = ltb-true _ _ time;
      ticket = ltb-true _ _ ticket;
      path = leb-true _ _ path;
      order = leb-true _ _ order;
      far = one_of _ _ (either _ _ far);
      distance = leb-true _ _ distance;
      epoch = ltb-true _ _ epoch;
      standing = ltb-true _ _ standing;
    }

node_tests : (sh : Shape) (s : List ℕ) (n : ℕ) → NodeRanges sh (view sh s) n → node_in_range sh s n ≡ true
node_tests sh s n r =
    rw (
      le-leb (link sh s n / 2) sh.nodes r.next,
      lt-ltb (time_at sh s n) 4294967296 r.time,
      lt-ltb (ticket_at sh s n) 4294967296 r.ticket,
      le-leb (path_at sh s n) 65535 r.path,
      le-leb (order_at sh s n) 63 r.order,
      of_one (distance_at sh s n) (standing sh s n) r.far,
      le-leb (distance_at sh s n) 1024 r.distance,
      lt-ltb (epoch_at sh s n) 4294967296 r.epoch,
      lt-ltb (standing sh s n) 4294967298 r.standing,
    )

pub store_ranges : (sh : Shape) (s : List ℕ) → store_in_range sh s ≡ true → StoreRanges sh (view sh s)
unfolding store_in_range
store_ranges sh s e =
    let (e, nodes) = parts _ _ e in
    let (e, heads) = parts _ _ e in
    let (e, last) = parts _ _ e in
    let (current, started) = parts _ _ e in
    record {
      current = ltb-true _ _ current;
      started = ltb-true _ _ started;
      last = ltb-true _ _ last;
      heads = λ b h. head_ranges sh s b (every_at _ _ heads b h);
      nodes = λ n h. node_ranges sh s n (every_at _ _ nodes n h);
    }

pub store_tests : (sh : Shape) (s : List ℕ) → StoreRanges sh (view sh s) → store_in_range sh s ≡ true
unfolding store_in_range
store_tests sh s r =
    rw (
      lt-ltb (bucket_in (current sh s)) sh.buckets r.current,
      lt-ltb (started sh s) 4294967296 r.started,
      lt-ltb (last_node sh s) sh.nodes r.last,
      every_all (λ b. head_in_range sh s b) sh.buckets (λ b h. head_tests sh s b (r.heads b h)),
      every_all (λ n. node_in_range sh s n) sh.nodes (λ n h. node_tests sh s n (r.nodes n h)),
    )

pub word_ranges : (sh : Shape) (s : List ℕ) → words_in_range sh s ≡ true → WordRanges sh s
word_ranges sh s e =
    let (e, last) = parts _ _ e in
    let (current, started) = parts _ _ e in
    record { current = ltb-true _ _ current; started = ltb-true _ _ started; last = ltb-true _ _ last }

pub word_tests : (sh : Shape) (s : List ℕ) → WordRanges sh s → words_in_range sh s ≡ true
word_tests sh s r =
    rw (
      lt-ltb (bucket_in (current sh s)) sh.buckets r.current,
      lt-ltb (started sh s) 4294967296 r.started,
      lt-ltb (last_node sh s) sh.nodes r.last,
    )

pub record_ranges : (sh : Shape) (w : Worker) → record_in_range sh w ≡ true → RecordRanges sh w
record_ranges sh w e =
    let (e, held) = parts _ _ e in
    let (call, place) = parts _ _ e in
    let (held, ticket) = parts _ _ held in
    let (seen, current) = parts _ _ held in
    let (place, stands) = parts _ _ place in
    let (place, right) = parts _ _ place in
    let (place, left) = parts _ _ place in
    let (bucket, further) = parts _ _ place in
    let (call, own) = parts _ _ call in
    let (call, dequeues) = parts _ _ call in
    let (call, enqueues) = parts _ _ call in
    let (stage, kind) = parts _ _ call in
    record {
      stage = leb-true _ _ stage;
      kind = leb-true _ _ kind;
      enqueues = λ p q. eqb-true _ _ (follows _ _ enqueues (inside 4 7 w.stage p q));
      dequeues = λ p q. eqb-true _ _ (follows _ _ dequeues (inside 8 13 w.stage p q));
      own = ltb-true _ _ own;
      bucket = ltb-true _ _ bucket;
      further = λ p. isnt _ _ (follows _ _ further (eq-eqb w.stage 12 p));
      left = ltb-true _ _ left;
      right = leb-true _ _ right;
      searches = λ p q. isnt _ _ (follows _ _ stands (or_left _ _ (inside 2 3 w.stage p q)));
      walks = λ p q. isnt _ _ (follows _ _ stands (or_right (between 2 3 w.stage) _ (inside 10 11 w.stage p q)));
      seen = leb-true _ _ seen;
      current = ltb-true _ _ current;
      ticket = ltb-true _ _ ticket;
    }

pub record_tests_lem : (sh : Shape) (w : Worker) → RecordRanges sh w → record_in_range sh w ≡ true
record_tests_lem sh w r = both (both call place) held
  where
    stands : (between 2 3 w.stage ≡ true) ⊎ (between 10 11 w.stage ≡ true) → w.right ≢ sh.nodes
    stands (inl e) = let (p, q) = within 2 3 w.stage e in r.searches p q
    stands (inr e) = let (p, q) = within 10 11 w.stage e in r.walks p q

    call : call_in_range sh w ≡ true
    call =
        both (both (both (both (le-leb w.stage 13 r.stage)
        (le-leb w.kind 1 r.kind))
        (implied (between 4 7 w.stage) (eqb w.kind 0) (λ e. let (p, q) = within 4 7 w.stage e in eq-eqb w.kind 0 (r.enqueues p q))))
        (implied (between 8 13 w.stage) (eqb w.kind 1) (λ e. let (p, q) = within 8 13 w.stage e in eq-eqb w.kind 1 (r.dequeues p q))))
        (lt-ltb w.own sh.nodes r.own)

    place : place_in_range sh w ≡ true
    place =
        both (both (both (both (lt-ltb w.bucket sh.buckets r.bucket)
        (implied (eqb w.stage 12) (not (eqb w.bucket (sh.buckets - 1))) (λ e.
        is_not w.bucket (sh.buckets - 1) (r.further (eqb-true w.stage 12 e)))))
        (lt-ltb w.left (sh.buckets + sh.nodes) r.left))
        (le-leb w.right sh.nodes r.right))
        (implied (between 2 3 w.stage || between 10 11 w.stage) (not (eqb w.right sh.nodes)) (λ e. is_not w.right sh.nodes
        (stands (either _ _ e))))

    held : words_held_in_range sh w ≡ true
    held =
        both (both (le-leb (w.seen / 2) sh.nodes r.seen) (lt-ltb (bucket_in w.current) sh.buckets r.current))
        (lt-ltb w.ticket 4294967296 r.ticket)

pub table_ranges : (sh : Shape) (t : List Worker) → table_in_range sh t ≡ true → (i : ℕ) → i < sh.workers → RecordRanges sh (worker t i)
unfolding table_in_range
table_ranges sh t e i h = record_ranges sh (worker t i) (every_at _ _ e i h)

pub table_tests : (sh : Shape) (t : List Worker) → ((i : ℕ) → i < sh.workers → RecordRanges sh (worker t i)) → table_in_range sh t ≡ true
unfolding table_in_range
table_tests sh t h = every_all (λ i. record_in_range sh (worker t i)) sh.workers (λ i l. record_tests_lem sh (worker t i) (h i l))
