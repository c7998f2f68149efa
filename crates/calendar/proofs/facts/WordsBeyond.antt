-- Words beyond the layout are not read: on a longer store an operation does the same, and keeps the rest.
--     act_same, open_same          on a longer store the operations do the same, and keep the rest
--     run_same, responses_same     so does a history
-- Assumes nothing.
use Rattle.std.specs.Prelude.{◌≡◌, Bool, ◌&&◌, ◌||◌, leb, length}
use Rattle.std.proofs.Math.Path.{refl, sym, ap}
use Rattle.std.proofs.Common.{◌∙◌, arith, lit<, length-append}
use mathlib.Core.List.{List, [], ◌∷◌, ◌++◌, append_assoc}
use Rattle.std.proofs.Math.Bool.{true, false, cond}
use Prim.Native.Nat.{ℕ, zero, suc, ◌+◌, ◌%◌, ◌<◌, ◌≤◌}
use Rattle.std.proofs.Math.Dec.{eqb, ltb}
use Rattle.std.proofs.Math.ListN.{drop, set}
use Rattle.std.proofs.lemmas.List.{set-append_left, drop-append-le}
use borrow.Author.Tests.{eqb-true, le-ltb}
use Rattle.arrival.specs.declared.Shape.{Shape}
use Rattle.arrival.specs.declared.Worker.{Worker}
use Rattle.arrival.specs.Keys.{key_of}
use Rattle.arrival.specs.declared.Action.{Action}
use Rattle.arrival.specs.declared.Action.TheVariants.{Enqueue, Dequeue, Step}
use Rattle.arrival.specs.declared.Response.{Response}
use Rattle.arrival.specs.declared.Response.TheVariants.{Opened, Refused}
use Rattle.laws.proofs.Counting.{every_same, each_of}
use Rattle.laws.specs.Lists.{words_from}
use Rattle.calendar.specs.rules.Layout.{word, cell, field, Write, ◌≔◌, address, layout, read, write, write_all, link_cell, item_at, standing}
use Rattle.calendar.specs.rules.Ranges.{worker, small, current_in_range, link_in_range, path_in_range, order_in_range, head_in_range, node_in_range}
use Rattle.calendar.specs.rules.Ranges.{store_in_range}
use Rattle.calendar.specs.rules.Reclaim.{is_free, node_after, first_free_of, first_free}
use Rattle.calendar.specs.rules.Opening.{open_word, open_store, open_table}
use Rattle.calendar.specs.rules.Outcome.{Outcome}
use Rattle.calendar.specs.rules.Starts.{enqueue_start, dequeue_start}
use Rattle.calendar.specs.rules.Refusals.{memory_of, open_refusal}
use Rattle.calendar.specs.rules.Operations.{Memory, Result, perform, actor, refusal, outcome, act, open_pool, run, responses}
use Rattle.calendar.proofs.facts.Places.{word_inside, cell_inside, field_inside, length_write}
use Rattle.calendar.specs.facts.RangeFacts.{RecordRanges}
use Rattle.calendar.proofs.facts.FirstFree.{after_below}
use Rattle.calendar.proofs.facts.Accepted.{step_accepted}
use Rattle.calendar.specs.facts.RefusalParts.{own_of}
use Rattle.calendar.proofs.facts.RefusalParts.{refusal_alike}
use Rattle.calendar.specs.facts.Views.{AllInside}
use Rattle.calendar.proofs.facts.Untouched.{act_same_size, outcome_inside}
use Rattle.calendar.specs.facts.OneWord.{current_word_lem, head_word, left_word, right_link, shared_words, shared_word, SameSeen}
use Rattle.calendar.proofs.facts.OneWord.{one_shared_word}
use Rattle.calendar.specs.facts.WordsBeyond.{longer, keeping}
use Rattle.calendar.proofs.facts.LayoutWords.{same}

-- ── a store that has the layout's words ──
module _ (sh : Shape) (s v : List ℕ) (long : layout sh ≤ length s) where
  same_word : (k : ℕ) → k < 3 → read sh (s ++ v) (word k) ≡ read sh s (word k)
  same_word k h = same sh s v long (word k) (word_inside sh k h)

  same_cell : (p : ℕ) → p < sh.buckets + sh.nodes → read sh (s ++ v) (cell p) ≡ read sh s (cell p)
  same_cell p h = same sh s v long (cell p) (cell_inside sh p h)

  same_field : (f n : ℕ) → f < 8 → n < sh.nodes → read sh (s ++ v) (field f n) ≡ read sh s (field f n)
  same_field f n h l = same sh s v long (field f n) (field_inside sh f n h l)

  same_item : (n : ℕ) → n < sh.nodes → item_at sh (s ++ v) n ≡ item_at sh s n
  same_item n l = λ j. record {
    time = same_field 1 n (lit< tt) l j;
    path = same_field 3 n (lit< tt) l j;
    order = same_field 4 n (lit< tt) l j;
    distance = same_field 5 n (lit< tt) l j;
    ticket = same_field 2 n (lit< tt) l j;
  }

  same_key : (n : ℕ) → n < sh.nodes → key_of (item_at sh (s ++ v) n) ≡ key_of (item_at sh s n)
  same_key n l = ap key_of (same_item n l)

  -- ── refusals ──
  long_enough : ltb (length (s ++ v)) (layout sh) ≡ ltb (length s) (layout sh)
  long_enough = le-ltb (length (s ++ v)) (layout sh) (omega (arith, length-append s v)) ∙ sym (le-ltb (length s) (layout sh) long)

  head_same : (b : ℕ) → b < sh.buckets → head_in_range sh (s ++ v) b ≡ head_in_range sh s b
  head_same b l = ap (λ x. eqb (x % 2) 0 && link_in_range sh x) (same_cell b (omega arith))

  node_same : (n : ℕ) → n < sh.nodes → node_in_range sh (s ++ v) n ≡ node_in_range sh s n
  node_same n l = λ j.
      link_in_range sh (same_cell (link_cell sh n) (omega arith) j)
      && small (same_field 1 n (lit< tt) l j)
      && small (same_field 2 n (lit< tt) l j)
      && path_in_range (same_field 3 n (lit< tt) l j)
      && order_in_range (same_field 4 n (lit< tt) l j)
      && (leb 1 (same_field 5 n (lit< tt) l j) || eqb (same_field 7 n (lit< tt) l j) 0)
      && leb (same_field 5 n (lit< tt) l j) 1024
      && small (same_field 6 n (lit< tt) l j)
      && ltb (same_field 7 n (lit< tt) l j) 4294967298

  store_same : store_in_range sh (s ++ v) ≡ store_in_range sh s
  unfolding store_in_range
  store_same = λ j.
      current_in_range sh (same_word 0 (lit< tt) j) && small (same_word 1 (lit< tt) j) && ltb (same_word 2 (lit< tt) j) sh.nodes
      && every_same (λ b. head_in_range sh (s ++ v) b) (λ b. head_in_range sh s b) sh.buckets head_same j
      && every_same (λ n. node_in_range sh (s ++ v) n) (λ n. node_in_range sh s n) sh.nodes node_same j

  module _ (t : List Worker) where
    abbrev m : Memory
    m = record { store = s; table = t }

    first_of_same : (k n : ℕ) → k ≤ sh.nodes → first_free_of sh (s ++ v) t k n ≡ first_free_of sh s t k n
    unfolding first_free_of
    first_of_same zero n h = refl
    first_of_same (suc k) n h = λ j. cond (is_free sh t (free j)) (node_after sh n) (first_of_same k (node_after sh n) (omega arith) j)
      where
        free : standing sh (s ++ v) (node_after sh n) ≡ standing sh s (node_after sh n)
        free = same_field 7 (node_after sh n) (lit< tt) (after_below sh n (omega arith))

    first_same : first_free sh (s ++ v) t ≡ first_free sh s t
    unfolding first_free
    first_same = ap (first_free_of sh (s ++ v) t sh.nodes) (same_word 2 (lit< tt)) ∙ first_of_same sh.nodes _ (omega arith)

    memory_same : (i : ℕ) → memory_of sh (s ++ v) t i ≡ memory_of sh s t i
    memory_same i = rw (long_enough, store_same)

    own_same : (a : Action) → own_of sh (longer (record { store = s; table = t }) v) a ≡ own_of sh (record { store = s; table = t }) a
    own_same (Enqueue i x) = rw (same_word 1 (lit< tt), first_same)
    own_same (Dequeue i) = rw (same_word 1 (lit< tt))
    own_same (Step i) = rw (same_word 0 (lit< tt))

    refusal_same : (a : Action) → refusal sh (longer (record { store = s; table = t }) v) a ≡ refusal sh (record { store = s; table = t }) a
    refusal_same a = refusal_alike sh (longer m v) m a (memory_same (actor a)) (λ U. own_same a)

    -- ── what is done ──
    -- the shared word of a record in range lies in the layout
    shared_inside : (w : Worker) → RecordRanges sh w → address sh (shared_word sh w) < layout sh
    shared_inside w r =
        each_of (λ k p. w.stage ≡ k → address sh p < layout sh) (shared_words sh w) current_word_lem (
          λ q. current,
          (
            λ q. bucket,
            (
              λ q. searched q,
              (
                λ q. left,
                (
                  λ q. current,
                  (
                    λ q. left,
                    (
                      λ q. current,
                      (
                        λ q. current,
                        (
                          λ q. current,
                          (
                            λ q. bucket,
                            (λ q. walked (omega arith) (omega arith), (λ q. walked (omega arith) (omega arith), (λ q. current, (λ q. current, tt)))),
                          ),
                        ),
                      ),
                    ),
                  ),
                ),
              ),
            ),
          ),
        )
        w.stage (omega (arith, r.stage)) refl
      where
        current : address sh current_word_lem < layout sh
        current = word_inside sh 0 (lit< tt)

        bucket : address sh (head_word w) < layout sh
        bucket = cell_inside sh w.bucket (omega (arith, r.bucket))

        left : address sh (left_word w) < layout sh
        left = cell_inside sh w.left r.left

        searched : w.stage ≡ 2 → address sh (right_link sh w) < layout sh
        searched q = cell_inside sh (link_cell sh w.right) (omega (arith, r.right, r.searches (omega arith) (omega arith)))

        walked : 10 ≤ w.stage → w.stage ≤ 11 → address sh (right_link sh w) < layout sh
        walked lo hi = cell_inside sh (link_cell sh w.right) (omega (arith, r.right, r.walks lo hi))

    seen_same : (w : Worker) → RecordRanges sh w → SameSeen sh w s (s ++ v)
    seen_same w r = record {
      shared = same sh s v long (shared_word sh w) (shared_inside w r);
      calls = λ q. same_word 1 (lit< tt);
      own = λ q. same_key w.own r.own;
      right = λ q. same_key w.right (omega (arith, r.right, r.searches (omega arith) (omega arith)));
      answer = λ lo hi take. same_item w.own r.own;
      epoch = λ q. same_field 6 w.right (lit< tt) (omega (arith, r.right, r.walks (omega arith) (omega arith)));
    }

    outcome_same : (a : Action) → refusal sh (record { store = s; table = t }) a ≡ 0
        → outcome sh (longer (record { store = s; table = t }) v) a ≡ outcome sh (record { store = s; table = t }) a
    unfolding enqueue_start dequeue_start
    outcome_same (Enqueue i x) e = rw (first_same, same_word 1 (lit< tt))
    outcome_same (Dequeue i) e = rw (same_word 1 (lit< tt))
    outcome_same (Step i) e =
        let A = step_accepted sh s t i e in
        let r = A.usable.table i A.usable.exists in
        one_shared_word sh s (s ++ v) (worker t i) r.stage (seen_same (worker t i) r)

  writes_same : (z : List ℕ) (ws : List Write) → layout sh ≤ length z → AllInside sh ws → write_all sh (z ++ v) ws ≡ write_all sh z ws ++ v
  unfolding write
  writes_same z [] h ins = refl
  writes_same z ((p ≔ x) ∷ ws) h ins =
      ap (λ (y : List ℕ). write_all sh y ws) (set-append_left z v (address sh p) x (omega (arith, ins.1)))
      ∙ writes_same (write sh z p x) ws (rw (length_write sh z p x) h) ins.2

  pub act_same : (t : List Worker) (a : Action) → act sh (longer (record { store = s; table = t }) v) a ≡ keeping (act sh (record { store = s; table = t }) a) v
  unfolding act
  act_same t a = rw (refusal_same t a) (go (eqb (refusal sh (m t) a) 0) refl)
    where
      go : (b : Bool) → eqb (refusal sh (record { store = s; table = t }) a) 0 ≡ b
          → cond b (perform sh (longer (record { store = s; table = t }) v) (actor a) (outcome sh (longer (record { store = s; table = t }) v) a))
          (record { memory = longer (record { store = s; table = t }) v; response = Refused (refusal sh (record { store = s; table = t }) a) })
          ≡ keeping (cond b (perform sh (record { store = s; table = t }) (actor a) (outcome sh (record { store = s; table = t }) a))
          (record { memory = record { store = s; table = t }; response = Refused (refusal sh (record { store = s; table = t }) a) })) v
      go true e =
          let z = eqb-true (refusal sh (m t) a) 0 e in
          let o = outcome sh (m t) a in
          ap (λ (q : Outcome). perform sh (longer (m t) v) (actor a) q) (outcome_same t a z)
          ∙ ap (λ (x : List ℕ). record { memory = record { store = x; table = set t (actor a) o.worker }; response = o.response })
          (writes_same s o.writes long (outcome_inside sh (m t) a z).1)
      go false e = refl

  pub open_same : (t : List Worker) → open_pool sh (longer (record { store = s; table = t }) v) ≡ keeping (open_pool sh (record { store = s; table = t })) v
  unfolding open_pool open_refusal open_store
  open_same t = rw long_enough (go (eqb (open_refusal sh s t) 0))
    where
      go : (b : Bool)
          → cond b (record {
            memory = record { store = words_from (open_word sh) 0 (layout sh) ++ drop (layout sh) (s ++ v); table = open_table sh t };
            response = Opened;
          }) (record { memory = record { store = s ++ v; table = t }; response = Refused (open_refusal sh s t) })
          ≡ keeping (cond b (record {
            memory = record { store = words_from (open_word sh) 0 (layout sh) ++ drop (layout sh) s; table = open_table sh t };
            response = Opened;
          }) (record { memory = record { store = s; table = t }; response = Refused (open_refusal sh s t) })) v
      go true =
          ap (λ (x : List ℕ). record { memory = record { store = x; table = open_table sh t }; response = Opened })
          (ap (λ (y : List ℕ). words_from (open_word sh) 0 (layout sh) ++ y) (drop-append-le (layout sh) s v long)
          ∙ sym (append_assoc (words_from (open_word sh) 0 (layout sh)) (drop (layout sh) s) v))
      go false = refl

-- ── along a history ──
pub run_same : (sh : Shape) (m : Memory) (v : List ℕ) → layout sh ≤ length m.store → (h : List Action) → run sh (longer m v) h ≡ longer (run sh m h) v
unfolding run
run_same sh m v long [] = refl
run_same sh m v long (a ∷ h) =
    ap (λ (r : Result). run sh r.memory h) (act_same sh m.store v long m.table a)
    ∙ run_same sh (act sh m a).memory v (rw (act_same_size sh m a).store long) h

pub responses_same : (sh : Shape) (m : Memory) (v : List ℕ) → layout sh ≤ length m.store → (h : List Action) → responses sh (longer m v) h ≡ responses sh m h
unfolding responses
responses_same sh m v long [] = refl
responses_same sh m v long (a ∷ h) =
    ap (λ (r : Result). r.response ∷ responses sh r.memory h) (act_same sh m.store v long m.table a)
    ∙ ap (λ (rs : List Response). (act sh m a).response ∷ rs) (responses_same sh (act sh m a).memory v (rw (act_same_size sh m a).store long) h)
