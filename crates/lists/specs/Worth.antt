-- The sum of stored and taken over every history: stored and puts at 6 and 7, arrivals answered, takes at 1 to 3, unmarked nodes.
-- One match over the changes.
--     linked_bit, marked_bit                                              a record's share of the sum
--     linked_low, linked_high, marked_put, marked_high, marked_idle     where it is none
--     stored_in, took_in                                                  a response's share
--     Worth, worth                                                      what a turn moves from one term to another, and that every turn does
-- Assumes nothing.
use Rattle.std.specs.Prelude.{◌≡◌, refl, Bool, true, false, cond, ◌&&◌, ◌≢◌, ◌⊎◌, List, [], ℕ, ◌+◌, ◌*◌, ◌/◌, ◌%◌, ◌≤◌, ◌<◌, eqb, set}
use Rattle.std.proofs.Common.{sym, ap, ◌∙◌, subst, inl, inr, arith, eqb-true, eq-eqb, ne_eqb, le-leb}
use Rattle.std.proofs.Math.Bool.{and-false}
use Rattle.std.proofs.lemmas.Bool.{lt-leb}
use Rattle.arrival.specs.declared.Shape.{Shape}
use Rattle.arrival.specs.declared.Worker.{Worker}
use Rattle.arrival.specs.declared.Response.{Response}
use Rattle.arrival.specs.declared.Response.TheVariants.{Opened, Begun, On, Stored, Took, Empty, Refused}
use Rattle.laws.specs.Tests.{upd_same, upd_other, upd_cases}
use Rattle.calendar.specs.rules.Layout.{Write, link}
use Rattle.calendar.specs.rules.Outcome.{Outcome, with_stage, with_own, with_bucket, with_seen, with_current}
use Rattle.calendar.specs.rules.SearchSteps.{left_holds, unlink}
use Rattle.calendar.specs.rules.EnqueueSteps.{link_own, prepare}
use Rattle.calendar.specs.rules.DequeueSteps.{link_holds, mark_node, next_current}
use Rattle.calendar.specs.rules.Snapshot.{has_linked, has_marked}
use Rattle.calendar.specs.facts.Views.{View, view, updates}
use Rattle.calendar.specs.facts.RangeFacts.{RecordRanges}
use Rattle.calendar.proofs.facts.Inside.{found_writes, settled_writes, walked_writes}
use Rattle.calendar.proofs.facts.Changes.{Found, put_found, take_ends, Settled, at_end, still_on, Walked, out, out_last, meets, Change, head_read, mark_seen}
use Rattle.calendar.proofs.facts.Changes.{passed, stopped, unlinked, again_3, prepared, linked, again_5, stored_6, on_7, stored_7, back_6, current_read}
use Rattle.calendar.proofs.facts.Changes.{first_read, mark_passed, newer, on_11, marked, back_10, advanced, back_12, emptied, back_13}
use Rattle.lists.specs.Chain.{In, insert_at, remove_at}
use Rattle.lists.specs.LinkInvariant.{Chains, home, chain_distinct, edge}
use Rattle.lists.specs.AllCalls.{Live, Inv}
use Rattle.lists.specs.TurnsKeepLists.{R, unlinking, linking_5, chains_3, chains_5, chains_after, in_chain_11}
use Rattle.lists.specs.UnmarkedCounts.{total, total_frame, total_set, total_mark, unmarked_insert, unmarked_remove}

-- ── a record's share ──
abbrev pub linked_bit : Worker → ℕ
linked_bit w = cond (has_linked w) 1 0

abbrev pub marked_bit : Worker → ℕ
marked_bit w = cond (has_marked w) 1 0

off : (a : Bool) → ◌≡◌ {A = ℕ} (cond (a && false) 1 0) 0
off a = rw (and-false a)

linked_on : (w : Worker) → w.kind ≡ 0 → 6 ≤ w.stage → w.stage ≤ 7 → linked_bit w ≡ 1
linked_on w z a b = rw (eq-eqb w.kind 0 z, le-leb 6 w.stage a, le-leb w.stage 7 b)

pub linked_low : (w : Worker) → w.stage ≤ 5 → linked_bit w ≡ 0
linked_low w h = rw (lt-leb 6 w.stage (omega arith)) (off (eqb w.kind 0))

pub linked_high : (w : Worker) → 8 ≤ w.stage → linked_bit w ≡ 0
linked_high w h = rw (le-leb 6 w.stage (omega arith), lt-leb w.stage 7 (omega arith)) (off (eqb w.kind 0))

marked_on : (w : Worker) → w.kind ≡ 1 → 1 ≤ w.stage → w.stage ≤ 3 → marked_bit w ≡ 1
marked_on w z a b = rw (eq-eqb w.kind 1 z, le-leb 1 w.stage a, le-leb w.stage 3 b)

pub marked_put : (w : Worker) → w.kind ≡ 0 → marked_bit w ≡ 0
marked_put w z = rw (ne_eqb w.kind 1 (λ q. omega arith))

pub marked_high : (w : Worker) → 4 ≤ w.stage → marked_bit w ≡ 0
marked_high w h = rw (le-leb 1 w.stage (omega arith), lt-leb w.stage 3 (omega arith)) (off (eqb w.kind 1))

pub marked_idle : (w : Worker) → w.stage ≡ 0 → marked_bit w ≡ 0
marked_idle w h = rw (lt-leb 1 w.stage (omega arith)) (off (eqb w.kind 1))

abbrev pub stored_in : Response → ℕ
stored_in Opened = 0
stored_in (Begun k) = 0
stored_in On = 0
stored_in (Stored k) = 1
stored_in (Took time path order distance energy) = 0
stored_in Empty = 0
stored_in (Refused k) = 0

abbrev pub took_in : Response → ℕ
took_in Opened = 0
took_in (Begun k) = 0
took_in On = 0
took_in (Stored k) = 0
took_in (Took time path order distance energy) = 1
took_in Empty = 0
took_in (Refused k) = 0

-- what a turn moves from one term to another, t and t' the unmarked nodes before and after
abbrev pub Worth : Worker → ℕ → ℕ → Outcome → Type 0
Worth w t t' o = stored_in o.response + linked_bit o.worker + marked_bit w + t ≡ took_in o.response + marked_bit o.worker + linked_bit w + t'

module _ (sh : Shape) (s : List ℕ) where
  -- ── the search: a take at its end ──
  module _ (w : Worker) (kinds : (w.kind ≡ 0) ⊎ (w.kind ≡ 1)) (a : 1 ≤ w.stage) (b : w.stage ≤ 3) (t : ℕ) where
    -- two records of the search are worth the same
    alike : (u : Worker) → u.kind ≡ w.kind → 1 ≤ u.stage → u.stage ≤ 3 → marked_bit u ≡ marked_bit w
    alike u k c d = go kinds
      where
        go : (w.kind ≡ 0) ⊎ (w.kind ≡ 1) → marked_bit u ≡ marked_bit w
        go (inl z) = marked_put u (k ∙ z) ∙ sym (marked_put w z)
        go (inr z) = marked_on u (k ∙ z) c d ∙ sym (marked_on w z a b)

    found_worth : {ws : List Write} {v : Worker} {o : Outcome} → v.kind ≡ w.kind → Found sh s ws v o → Worth w t t o
    found_worth {v} k (put_found z) =
        omega (
          arith,
          linked_low w (omega arith),
          linked_low (with_stage 4 v) (omega arith),
          marked_put w (sym k ∙ z),
          marked_high (with_stage 4 v) (omega arith),
        )
    found_worth {v} k (take_ends n) =
        omega (arith, linked_low w (omega arith), linked_low (with_stage 0 v) (omega arith), marked_on w (other kinds) a b, marked_idle (with_stage 0 v) refl)
      where
        other : (w.kind ≡ 0) ⊎ (w.kind ≡ 1) → w.kind ≡ 1
        other (inl z) = absurd (n (k ∙ z))
        other (inr z) = z

    on_worth : (u : Worker) (ws : List Write) → u.kind ≡ w.kind → 1 ≤ u.stage → u.stage ≤ 3
        → Worth w t t (record { writes = ws; worker = u; response = On })
    on_worth u ws k c d = omega (arith, linked_low w (omega arith), linked_low u (omega arith), alike u k c d)

    settled_worth : {ws : List Write} {v : Worker} {o : Outcome} → v.kind ≡ w.kind → Settled sh s ws v o → Worth w t t o
    settled_worth k (at_end q f) = found_worth k f
    settled_worth {ws} {v} k (still_on q) = on_worth (with_stage 2 v) ws k (omega arith) (omega arith)

  walk_on : (w u : Worker) (t : ℕ) → 8 ≤ w.stage → 8 ≤ u.stage → Worth w t t (record { writes = []; worker = u; response = On })
  walk_on w u t a b = omega (arith, linked_high w a, linked_high u b, marked_high w (omega arith), marked_high u (omega arith))

  walked_worth : {v : Worker} {o : Outcome} (w : Worker) (t : ℕ) → 8 ≤ w.stage → Walked sh s v o → Worth w t t o
  walked_worth {v} w t a (out e f) = walk_on w (with_stage 12 v) t a (omega arith)
  walked_worth {v} w t a (out_last e f) = walk_on w (with_stage 13 v) t a (omega arith)
  walked_worth {v} w t a (meets e) = walk_on w (with_stage 10 v) t a (omega arith)

  -- ── every turn ──
  module _ (T : ℕ → Worker) (i : ℕ) (l : i < sh.workers) (busy : (T i).stage ≢ 0) (ch : Chains) (I : Inv sh (view sh s) ch T)
      (r : RecordRanges sh (T i)) where
    abbrev w : Worker
    w = T i

    abbrev m : View
    m = view sh s

    abbrev before : ℕ
    before = total sh (view sh s).cells ch sh.buckets

    abbrev after : {o : Outcome} → Change sh s (T i) o → ℕ
    after {o} c = total sh (updates o.writes (view sh s)).cells (chains_after sh s T i l busy ch I c) sh.buckets

    kinds : ((T i).kind ≡ 0) ⊎ ((T i).kind ≡ 1)
    kinds = (I.knows i l).kinds

    put : 4 ≤ (T i).stage → (T i).stage ≤ 7 → (T i).kind ≡ 0
    put = r.enqueues

    -- a cell that is swapped between unmarked values leaves every mark
    even : (left x q : ℕ) → (view sh s).cells left % 2 ≡ 0 → x % 2 ≡ 0 → cond (eqb left q) x ((view sh s).cells q) % 2 ≡ (view sh s).cells q % 2
    even left x q a b = upd_cases (λ p y. y % 2 ≡ m.cells p % 2) m.cells left x (b ∙ sym a) (λ p u. refl) q

    prepared_total : (q : (T i).stage ≡ 4)
        → total sh (updates (prepare sh s (T i)) (view sh s)).cells ch sh.buckets ≡ total sh (view sh s).cells ch sh.buckets
    prepared_total q =
        let p = ((I.knows i l).search (omega arith) (omega arith)).enqueue_own (put (omega arith) (omega arith)) (omega arith) in
        total_frame sh m.cells (updates (prepare sh s w) m).cells ch sh.buckets
        (λ b n h j. ap (λ x. x % 2) (upd_other (sh.buckets + w.own) (sh.buckets + n) (2 * w.right) (m.cells (sh.buckets + n))
        (λ y. p.out b (subst (λ (k : ℕ). In k (ch b)) (omega arith) j))))

    linked_total : (q : (T i).stage ≡ 5) (t : left_holds sh s (T i) ≡ true) → total sh (updates (link_own (T i)) (view sh s)).cells
        (chains_5 sh s T i l busy ch I q t) sh.buckets ≡ 1 + total sh (view sh s).cells ch sh.buckets
    linked_total q t =
        let K = linking_5 sh s T i l busy ch I q t in
        let xs : List ℕ = insert_at sh w.own K.spot in
        let ch' : Chains = chains_5 sh s T i l busy ch I q t in
        let f = total_frame sh m.cells (updates (link_own w) m).cells ch' sh.buckets
        (λ b n h j. even w.left (2 * w.own) (sh.buckets + n) (omega (arith, K.was)) (omega arith)) in
        let g = unmarked_insert sh m.cells w.own K.spot in
        let h = total_set sh m.cells ch w.bucket xs sh.buckets K.in_range in
        let c : m.cells (sh.buckets + w.own) % 2 ≡ 0 = omega (arith, K.link) in
        omega (arith, f, g, h, c)

    unlinked_total : (q : (T i).stage ≡ 3) (t : left_holds sh s (T i) ≡ true) → total sh (updates (unlink sh s (T i)) (view sh s)).cells
        (chains_3 sh s T i l busy ch I q t) sh.buckets ≡ total sh (view sh s).cells ch sh.buckets
    unlinked_total q t =
        let u = unlinking sh s T i l busy ch I q t in
        let g = edge sh m ch (Live sh.workers T) (R sh s T i l busy ch I).lists w.bucket w.left w.right w.seen u in
        let xs : List ℕ = remove_at sh g in
        let ch' : Chains = chains_3 sh s T i l busy ch I q t in
        let f = total_frame sh m.cells (updates (unlink sh s w) m).cells ch' sh.buckets
        (λ b n h j. even w.left (2 * (w.seen / 2)) (sh.buckets + n) (omega (arith, u.was)) (omega arith)) in
        let c = unmarked_remove sh m.cells g in
        let h = total_set sh m.cells ch w.bucket xs sh.buckets u.in_range in
        let d : m.cells (sh.buckets + w.right) % 2 ≡ 1 = rw u.link u.marked in
        omega (arith, f, c, h, d)

    marked_total : (q : (T i).stage ≡ 11) (t : link_holds sh s (T i) ≡ true)
        → total sh (view sh s).cells ch sh.buckets ≡ 1 + total sh (updates (mark_node sh (T i)) (view sh s)).cells ch sh.buckets
    marked_total q t =
        let j = in_chain_11 sh s T i l busy ch I q t in
        let was = eqb-true (link sh s w.right) w.seen t in
        total_mark sh m.cells (updates (mark_node sh w) m).cells w.right (omega (arith, ((I.knows i l).old q).1))
        (rw (upd_same (sh.buckets + w.right) (sh.buckets + w.right) (2 * (w.seen / 2) + 1) (m.cells (sh.buckets + w.right)) refl) (omega arith))
        (λ n u. ap (λ x. x % 2) (upd_other (sh.buckets + w.right) (sh.buckets + n) (2 * (w.seen / 2) + 1) (m.cells (sh.buckets + n))
        (λ y. u (omega arith))))
        ch (home sh m w.right) (λ b. chain_distinct sh m (ch b) (I.lists.ascends b)) j (λ b h. sym (I.lists.member b w.right h).at_home)
        sh.buckets (I.lists.member (home sh m w.right) w.right j).in_range

    -- writes that are none
    plain : (o : Outcome) (ws : List Write) → o.writes ≡ ws
        → Worth (T i) (total sh (view sh s).cells ch sh.buckets) (total sh (updates ws (view sh s)).cells ch sh.buckets) o
        → Worth (T i) (total sh (view sh s).cells ch sh.buckets) (total sh (updates o.writes (view sh s)).cells ch sh.buckets) o
    plain o ws e h = subst (λ ws. Worth w before (total sh (updates ws m).cells ch sh.buckets) o) (sym e) h

    pub worth : {o : Outcome} (c : Change sh s (T i) o) → Worth (T i) (total sh (view sh s).cells ch sh.buckets)
        (total sh (updates o.writes (view sh s)).cells (chains_after sh s T i l busy ch I c) sh.buckets) o
    worth {o} (head_read q set) = plain o [] (settled_writes sh s set) (settled_worth w kinds (omega arith) (omega arith) before refl set)
    worth (mark_seen q t) =
        on_worth w kinds (omega arith) (omega arith) before (with_stage 3 (with_seen (link sh s w.right) w)) [] refl (omega arith) (omega arith)
    worth {o} (passed q t lt set) = plain o [] (settled_writes sh s set) (settled_worth w kinds (omega arith) (omega arith) before refl set)
    worth {o} (stopped q t lt f) = plain o [] (found_writes sh s f) (found_worth w kinds (omega arith) (omega arith) before refl f)
    worth {o} (unlinked q t set) =
        subst (λ ws. Worth w before (total sh (updates ws m).cells (chains_3 sh s T i l busy ch I q t) sh.buckets) o) (sym (settled_writes sh s set))
        (subst (λ n. Worth w before n o) (sym (unlinked_total q t)) (settled_worth w kinds (omega arith) (omega arith) before refl set))
    worth (again_3 q t) = on_worth w kinds (omega arith) (omega arith) before (with_stage 1 w) [] refl (omega arith) (omega arith)
    worth (prepared q) =
        omega (
          arith,
          prepared_total q,
          linked_low w (omega arith),
          linked_low (with_stage 5 (with_current m.current w)) (omega arith),
          marked_high w (omega arith),
          marked_high (with_stage 5 (with_current m.current w)) (omega arith),
        )
    worth (linked q t) =
        omega (
          arith,
          linked_total q t,
          linked_low w (omega arith),
          linked_on (with_stage 6 w) (put (omega arith) (omega arith)) (omega arith) (omega arith),
          marked_high w (omega arith),
          marked_high (with_stage 6 w) (omega arith),
        )
    worth (again_5 q t) =
        omega (
          arith,
          linked_low w (omega arith),
          linked_low (with_stage 1 w) (omega arith),
          marked_high w (omega arith),
          marked_put (with_stage 1 w) (put (omega arith) (omega arith)),
        )
    worth (stored_6 q t) =
        omega (
          arith,
          linked_on w (put (omega arith) (omega arith)) (omega arith) (omega arith),
          linked_low (with_stage 0 (with_current m.current w)) (omega arith),
          marked_high w (omega arith),
          marked_idle (with_stage 0 (with_current m.current w)) refl,
        )
    worth (on_7 q t) =
        omega (
          arith,
          linked_on w (put (omega arith) (omega arith)) (omega arith) (omega arith),
          linked_on (with_stage 7 (with_current m.current w)) (put (omega arith) (omega arith)) (omega arith) (omega arith),
          marked_high w (omega arith),
          marked_high (with_stage 7 (with_current m.current w)) (omega arith),
        )
    worth (stored_7 q t) =
        omega (
          arith,
          linked_on w (put (omega arith) (omega arith)) (omega arith) (omega arith),
          linked_low (with_stage 0 w) (omega arith),
          marked_high w (omega arith),
          marked_idle (with_stage 0 w) refl,
        )
    worth (back_6 q t) =
        omega (
          arith,
          linked_on w (put (omega arith) (omega arith)) (omega arith) (omega arith),
          linked_on (with_stage 6 w) (put (omega arith) (omega arith)) (omega arith) (omega arith),
          marked_high w (omega arith),
          marked_high (with_stage 6 w) (omega arith),
        )
    worth (current_read q) = walk_on w (with_stage 9 (with_bucket (m.current / 4294967296) (with_current m.current w))) before (omega arith) (omega arith)
    worth {o} (first_read q wk) = plain o [] (walked_writes sh s wk) (walked_worth w before (omega arith) wk)
    worth {o} (mark_passed q t wk) = plain o [] (walked_writes sh s wk) (walked_worth w before (omega arith) wk)
    worth (newer q t n) = walk_on w (with_stage 8 (with_seen (link sh s w.right) w)) before (omega arith) (omega arith)
    worth (on_11 q t n) = walk_on w (with_stage 11 (with_seen (link sh s w.right) w)) before (omega arith) (omega arith)
    worth (marked q t) =
        omega (
          arith,
          marked_total q t,
          linked_high w (omega arith),
          linked_low (with_stage 1 (with_own w.right w)) (omega arith),
          marked_high w (omega arith),
          marked_on (with_stage 1 (with_own w.right w)) (r.dequeues (omega arith) r.stage) (omega arith) (omega arith),
        )
    worth (back_10 q t) = walk_on w (with_stage 10 w) before (omega arith) (omega arith)
    worth (advanced q t) =
        omega (
          arith,
          linked_high w (omega arith),
          linked_high (with_stage 9 (with_bucket (w.bucket + 1) (with_current (next_current w) w))) (omega arith),
          marked_high w (omega arith),
          marked_high (with_stage 9 (with_bucket (w.bucket + 1) (with_current (next_current w) w))) (omega arith),
        )
    worth (back_12 q t) = walk_on w (with_stage 8 w) before (omega arith) (omega arith)
    worth (emptied q t) =
        omega (arith, linked_high w (omega arith), linked_low (with_stage 0 w) (omega arith), marked_high w (omega arith), marked_idle (with_stage 0 w) refl)
    worth (back_13 q t) = walk_on w (with_stage 8 w) before (omega arith) (omega arith)
