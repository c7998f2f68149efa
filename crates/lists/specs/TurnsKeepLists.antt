-- Every turn keeps the invariant of lists and records: one match over the changes.
--     R, k, enqueues, dequeues        what is known of the call and of the others
--     unlinking, chains_3, rest_3     3 whose swap succeeds
--     linking_5, chains_5             5 whose swap succeeds
--     in_chain_11                     11 whose swap succeeds marks a node of a chain
--     chains_after, inv_step          the chains after a turn, and the invariant
-- Assumes nothing.
use Rattle.std.specs.Prelude.{◌≡◌, refl, List, [], ◌∷◌, Bool, true, false, ◌≢◌, ◌⊎◌, ℕ, suc, ◌+◌, ◌*◌, ◌/◌, ◌%◌, ◌≤◌, ◌<◌}
use Rattle.std.proofs.Common.{sym, ap, ◌∙◌, subst, inl, inr, arith, eqb-true, ltb-true, ltb-false}
use mathlib.Core.List.Memᴰ
use Rattle.std.proofs.lemmas.Bool.{eqb-false}
use Rattle.arrival.specs.declared.Shape.{Shape}
use Rattle.arrival.specs.declared.Worker.{Worker}
use Rattle.arrival.proofs.Keys.{lower_total}
use Rattle.laws.specs.Tests.{never, upd_same}
use Rattle.calendar.specs.rules.Layout.{Write, field, word, link_cell, link, current, item_at, is_marked}
use Rattle.calendar.specs.rules.Outcome.{Outcome, with_stage, with_own, with_bucket, with_right, with_seen, with_current}
use Rattle.calendar.specs.rules.SearchSteps.{left_holds, unlink}
use Rattle.calendar.specs.rules.EnqueueSteps.{own_epoch, prepare, link_own, renew_current}
use Rattle.calendar.specs.rules.DequeueSteps.{node_is_marked, link_holds, mark_node, next_current}
use Rattle.calendar.proofs.facts.Inside.{found_writes, settled_writes, walked_writes}
use Rattle.calendar.proofs.facts.Changes.{Found, put_found, take_ends, Settled, at_end, still_on, Walked, out, out_last, meets, Change, head_read, mark_seen}
use Rattle.calendar.proofs.facts.Changes.{passed, stopped, unlinked, again_3, prepared, linked, again_5, stored_6, on_7, stored_7, back_6, current_read}
use Rattle.calendar.proofs.facts.Changes.{first_read, mark_passed, newer, on_11, marked, back_10, advanced, back_12, emptied, back_13}
use Rattle.calendar.specs.facts.Views.{View, view, update, updates, Lt}
use Rattle.lists.specs.Chain.{In, Runs, insert_at, remove_at, insert_own}
use Rattle.lists.specs.LinkInvariant.{Chains, set_chain, home, Safe, Follows, Lists, Linking, Unlinking, edge, link_keeps, unlink_keeps, safe_next}
use Rattle.lists.specs.Marking.{mark_keeps, private_keeps}
use Rattle.lists.specs.Knowledge.{Private, Stands, Searches, Stable, stands, searches_stable, spot_left, linking_at_5, link_stable, unlink_stable}
use Rattle.lists.specs.Knowledge.{mark_stable, private_stable}
use Rattle.lists.specs.AllCalls.{Knows, Live, Rest, Inv, with_record, close, rest, rest_stable}
use Rattle.lists.specs.Searching.{Left, Right, Base, at_stage, at_rest}

-- the head's successor: the end, or a node of the chain
head_next : (sh : Shape) (m : View) (ch : Chains) (LiveC : ℕ → Type 0) → Lists sh m ch LiveC → (c b : ℕ) → b < sh.buckets
    → (m.cells b / 2 ≡ sh.nodes) ⊎ Stands sh m ch c b (m.cells b / 2)
head_next sh m ch LiveC I c b l = go (ch b) refl (I.runs b l)
  where
    go : (ns : List ℕ) → ch b ≡ ns → Runs sh m.cells b ns → (m.cells b / 2 ≡ sh.nodes) ⊎ Stands sh m ch c b (m.cells b / 2)
    go [] e r = inl r
    go (n ∷ ns) e r =
        let i : In n (ch b) = rw e (Memᴰ.head refl) in
        let x = I.member b n i in
        inr (rw r.0 (record { is_node = x.is_node; safe = inl (rw x.at_home i); at_home = x.at_home }))

-- a take's record in its walk
at_walk : (sh : Shape) (m : View) (ch : Chains) (w : Worker) (k : ℕ) → w.kind ≡ 1 → 8 ≤ k
    → (9 ≤ k → (w.bucket < sh.buckets) × (w.current / 4294967296 ≡ w.bucket))
    → (10 ≤ k → k ≤ 11 → Stands sh m ch w.ticket w.bucket w.right) → (k ≡ 11 → (m.epoch w.right ≤ w.current % 4294967296) × (w.seen % 2 ≡ 0))
    → (k ≡ 12 → suc w.bucket < sh.buckets)
    → Knows sh m ch (with_stage k w)
at_walk sh m ch w k take lo walk stand old more = record {
  kinds = inr take;
  dequeues = λ e a. absurd (omega arith);
  enqueues = λ e. absurd (omega arith);
  search = λ a b. absurd (omega arith);
  linked = λ a b. absurd (omega arith);
  walk = walk;
  stand = stand;
  old = old;
  more = more;
}

even : (x : ℕ) → (x % 2 ≡ 1 → ⊥) → x % 2 ≡ 0
even x h = omega arith

module _ (sh : Shape) (s : List ℕ) (T : ℕ → Worker) (i : ℕ) (l : i < sh.workers) (busy : (T i).stage ≢ 0) where
  -- ── the ends of a search and of a walk, over any view ──
  module _ (m : View) (ch : Chains) (R : Rest sh m ch T i) where
    own : (w : Worker) → w.ticket ≡ (T i).ticket → Knows sh m ch w → Inv sh m ch (with_record T i w)
    own w e k = close sh m ch T i w l busy e R k

    found_keeps : {ws : List Write} {v : Worker} {o : Outcome} → Found sh s ws v o → v.ticket ≡ (T i).ticket → Base sh m ch v → Left sh m ch v
        → Right sh m ch v
        → (v.kind ≡ 0 → v.right ≢ sh.nodes → Lt m v.own v.right) → Inv sh m ch (with_record T i o.worker)
    found_keeps {v} (put_found z) e b left right above =
        own (with_stage 4 v) e (at_stage sh m ch v 4 (omega arith) (omega arith) (λ q. absurd (omega arith)) b (λ a. left) (λ a. right)
        (λ a a'. absurd (omega arith)) (λ a. above z) (λ q. absurd (omega arith)) (λ q. absurd (omega arith)))
    found_keeps {v} (take_ends z) e b left right above = own (with_stage 0 v) e (at_rest sh m ch v b.kinds)

    settled_keeps : {ws : List Write} {v : Worker} {o : Outcome} → Settled sh s ws v o → v.ticket ≡ (T i).ticket → Base sh m ch v → Left sh m ch v
        → Right sh m ch v → Inv sh m ch (with_record T i o.worker)
    settled_keeps (at_end q f) e b left right = found_keeps f e b left right (λ z n. absurd (n q))
    settled_keeps {v} (still_on q) e b left right =
        own (with_stage 2 v) e (at_stage sh m ch v 2 (omega arith) (omega arith) (λ q. omega arith) b (λ a. left) (λ a. right) (λ a a'. q)
        (λ a. absurd (omega arith)) (λ q. absurd (omega arith)) (λ q. absurd (omega arith)))

    walked_keeps : {v : Worker} {o : Outcome} → Walked sh s v o → v.ticket ≡ (T i).ticket → v.kind ≡ 1
        → (v.bucket < sh.buckets) × (v.current / 4294967296 ≡ v.bucket) → Right sh m ch v → Inv sh m ch (with_record T i o.worker)
    walked_keeps {v} (out q more) e take walk right =
        own (with_stage 12 v) e (at_walk sh m ch v 12 take (omega arith) (λ a. walk) (λ a b. absurd (omega arith)) (λ a. absurd (omega arith))
        (λ a. omega (arith, ltb-true (v.bucket + 1) sh.buckets more)))
    walked_keeps {v} (out_last q more) e take walk right =
        own (with_stage 13 v) e (at_walk sh m ch v 13 take (omega arith) (λ a. walk) (λ a b. absurd (omega arith)) (λ a. absurd (omega arith))
        (λ a. absurd (omega arith)))
    walked_keeps {v} (meets q) e take walk right =
        own (with_stage 10 v) e
        (at_walk sh m ch v 10 take (omega arith) (λ a. walk) (λ a b. node right) (λ a. absurd (omega arith)) (λ a. absurd (omega arith)))
      where
        node : Right sh m ch v → Stands sh m ch v.ticket v.bucket v.right
        node (inl e) = absurd (q e)
        node (inr x) = x

  -- ── the record of worker i before the turn ──
  module _ (ch : Chains) (I : Inv sh (view sh s) ch T) where
    abbrev w : Worker
    w = T i

    abbrev m : View
    m = view sh s

    abbrev pub R : Rest sh (view sh s) ch T i
    R = rest sh (view sh s) ch T i I

    abbrev pub k : Knows sh (view sh s) ch (T i)
    k = I.knows i l

    live : Live sh.workers T (T i).ticket
    live = (i, l, busy, refl)

    pub enqueues : 4 ≤ (T i).stage → (T i).stage ≤ 7 → (T i).kind ≡ 0
    enqueues a b = go k.kinds
      where
        go : ((T i).kind ≡ 0) ⊎ ((T i).kind ≡ 1) → (T i).kind ≡ 0
        go (inl z) = z
        go (inr z) = absurd (omega (arith, k.dequeues z b))

    pub dequeues : 8 ≤ (T i).stage → (T i).kind ≡ 1
    dequeues a = go k.kinds
      where
        go : ((T i).kind ≡ 0) ⊎ ((T i).kind ≡ 1) → (T i).kind ≡ 1
        go (inl z) = absurd (omega (arith, k.enqueues z))
        go (inr z) = z

    base : 1 ≤ (T i).stage → (T i).stage ≤ 3 → Base sh (view sh s) ch (T i)
    base a b = let S = k.search a (omega arith) in
        record {
          range = S.range;
          kinds = k.kinds;
          enqueue_own = λ z. S.enqueue_own z (omega arith);
          dequeue_own = λ z. S.dequeue_own z b;
          own_home = S.own_home (omega arith);
        }

    -- a search that starts again
    again : Base sh (view sh s) ch (T i) → Inv sh (view sh s) ch (with_record T i (with_stage 1 (T i)))
    again b = own m ch R (with_stage 1 w) refl
        (at_stage sh m ch w 1 (omega arith) (omega arith) (λ q. omega arith) b (λ a. absurd (omega arith)) (λ a. absurd (omega arith))
        (λ a a'. absurd (omega arith)) (λ a. absurd (omega arith)) (λ q. absurd (omega arith)) (λ q. absurd (omega arith)))

    -- a walk that starts again
    back_to_8 : (v : Worker) → v.ticket ≡ (T i).ticket → v.kind ≡ 1 → Inv sh (view sh s) ch (with_record T i (with_stage 8 v))
    back_to_8 v e z =
        own m ch R (with_stage 8 v) e (at_walk sh m ch v 8 z (omega arith) (λ a. absurd (omega arith)) (λ a b. absurd (omega arith)) (λ a. absurd (omega arith))
        (λ a. absurd (omega arith)))

    -- a put that has linked its node
    after_link : (n : ℕ) (v : Worker) → 6 ≤ (T i).stage → (T i).stage ≤ 7 → 6 ≤ n → n ≤ 7 → v ≡ with_stage n (with_current v.current (T i))
        → Inv sh (view sh s) ch (with_record T i v)
    after_link n v a b c d e = subst (λ u. Inv sh m ch (with_record T i u)) (sym e) (own m ch R (with_stage n (with_current v.current w)) refl (record {
      kinds = k.kinds;
      dequeues = λ z p. absurd (omega (arith, enqueues (omega arith) b));
      enqueues = λ z. d;
      search = λ a b. absurd (omega arith);
      linked = λ p q. k.linked a b;
      walk = λ a. absurd (omega arith);
      stand = λ a b. absurd (omega arith);
      old = λ a. absurd (omega arith);
      more = λ a. absurd (omega arith);
    }))

    -- what a walk does not pass is unmarked
    unmarked_met : node_is_marked sh s (T i) ≡ false → link sh s (T i).right % 2 ≡ 0
    unmarked_met t = go (is_marked (link sh s (T i).right)) refl
      where
        go : (b : Bool) → is_marked (link sh s (T i).right) ≡ b → link sh s (T i).right % 2 ≡ 0
        go true e = never (sym (rw e at t))
        go false e = even (link sh s (T i).right) (eqb-false (link sh s (T i).right % 2) 1 e)

    -- right's successor: the end, or a node on which the call may stand
    next_right : Stands sh (view sh s) ch (T i).ticket (T i).bucket (T i).right
        → (link sh s (T i).right / 2 ≡ sh.nodes) ⊎ Stands sh (view sh s) ch (T i).ticket (T i).bucket (link sh s (T i).right / 2)
    next_right x = go (link sh s w.right / 2) (safe_next sh m ch (Live sh.workers T) R.lists w.ticket w.right live x.is_node x.safe)
      where
        go : (q : ℕ) → (q ≡ sh.nodes) ⊎ Follows sh (view sh s) ch (T i).ticket (T i).right q
            → (q ≡ sh.nodes) ⊎ Stands sh (view sh s) ch (T i).ticket (T i).bucket q
        go q (inl z) = inl z
        go q (inr f) = inr (record { is_node = f.is_node; safe = f.safe; at_home = f.at_home ∙ x.at_home })

    right_stands : 2 ≤ (T i).stage → (T i).stage ≤ 3 → Stands sh (view sh s) ch (T i).ticket (T i).bucket (T i).right
    right_stands a b = go ((k.search (omega arith) (omega arith)).right a (omega arith))
      where
        go : Right sh (view sh s) ch (T i) → Stands sh (view sh s) ch (T i).ticket (T i).bucket (T i).right
        go (inl z) = absurd ((k.search (omega arith) (omega arith)).not_end a b z)
        go (inr x) = x

    -- a put's own is not right, so their tickets differ
    tickets_differ : (T i).stage ≡ 2 → (T i).kind ≡ 0 → m.ticket (T i).right ≢ m.ticket (T i).own
    tickets_differ two z q =
        let p = (k.search (omega arith) (omega arith)).enqueue_own z (omega arith) in
        let u : m.ticket w.right ≡ 0 = R.unique w.right w.own (right_stands (omega arith) (omega arith)).is_node p.is_node
        (other p (right_stands (omega arith) (omega arith)).safe) q in
        omega (arith, p.ticketed, R.positive i l busy)
      where
        other : Private sh (view sh s) ch (T i).ticket (T i).own → Safe sh (view sh s) ch (T i).ticket (T i).right → (T i).right ≢ (T i).own
        other p (inl j) r = p.out (home sh m w.right) (Memᴰ.cast (sym r) j)
        other p (inr (j, st, h)) r = omega (arith, ap m.standing r, p.used)

    -- ── 3: right is taken out of its chain ──
    pub unlinking : (T i).stage ≡ 3 → left_holds sh s (T i) ≡ true → Unlinking sh (view sh s) ch (T i).bucket (T i).left (T i).right (T i).seen
    unlinking three t =
        let S = k.search (omega arith) (omega arith) in
        let y = S.at_three three in
        let was = eqb-true (m.cells w.left) (2 * w.right) t in
        record {
          in_range = S.range;
          spot = spot_left sh m ch (Live sh.workers T) w w.right R.lists S (omega arith) (omega arith) was;
          was = was;
          is_node = y.is_node;
          link = y.link;
          marked = y.marked;
        }

    abbrev pub chains_3 : (T i).stage ≡ 3 → left_holds sh s (T i) ≡ true → Chains
    chains_3 three t =
        set_chain ch (T i).bucket (remove_at sh (edge sh (view sh s) ch (Live sh.workers T) R.lists (T i).bucket (T i).left (T i).right
        (T i).seen (unlinking three t)))

    pub rest_3 : (three : (T i).stage ≡ 3) (t : left_holds sh s (T i) ≡ true) → Rest sh (updates (unlink sh s (T i)) (view sh s)) (chains_3 three t) T i
    rest_3 three t =
        let U = unlinking three t in
        rest_stable sh m ch (updates (unlink sh s w) m) (chains_3 three t) T i l busy R (λ n. refl) refl
        (unlink_keeps sh m ch (Live sh.workers T) R.lists w.bucket w.left w.right w.seen U)
        (λ c v n. unlink_stable sh m ch (Live sh.workers T) R.lists w.bucket w.left w.right w.seen U c v)

    keeps_3 : {o : Outcome} (three : (T i).stage ≡ 3) (t : left_holds sh s (T i) ≡ true)
        → Settled sh s (unlink sh s (T i)) (with_right ((T i).seen / 2) (T i)) o
        → Inv sh (updates (unlink sh s (T i)) (view sh s)) (chains_3 three t) (with_record T i o.worker)
    keeps_3 three t set =
        let U = unlinking three t in
        let S = k.search (omega arith) (omega arith) in
        let m' : View = updates (unlink sh s w) m in
        let ch' : Chains = chains_3 three t in
        let h : Stable sh m ch m' ch' w.ticket = unlink_stable sh m ch (Live sh.workers T) R.lists w.bucket w.left w.right w.seen U
        w.ticket live in
        let S' : Searches sh m' ch' w = searches_stable sh m ch m' ch' w h S k.kinds (λ z. omega arith) in
        let y = right_stands (omega arith) (omega arith) in
        settled_keeps m' ch' (rest_3 three t) set refl
        (record {
          range = S'.range;
          kinds = k.kinds;
          enqueue_own = λ z. S'.enqueue_own z (omega arith);
          dequeue_own = λ z. S'.dequeue_own z (omega arith);
          own_home = S'.own_home (omega arith);
        })
        (S'.left (omega arith) (omega arith))
        (go m' ch' h (subst (λ q. (q / 2 ≡ sh.nodes) ⊎ Stands sh m ch w.ticket w.bucket (q / 2)) (S.at_three three).link (next_right y)))
      where
        go : (m' : View) (ch' : Chains) → Stable sh (view sh s) ch m' ch' (T i).ticket
            → ((T i).seen / 2 ≡ sh.nodes) ⊎ Stands sh (view sh s) ch (T i).ticket (T i).bucket ((T i).seen / 2)
            → ((T i).seen / 2 ≡ sh.nodes) ⊎ Stands sh m' ch' (T i).ticket (T i).bucket ((T i).seen / 2)
        go m' ch' h (inl z) = inl z
        go m' ch' h (inr x) = inr (stands sh (view sh s) ch m' ch' (T i) h (T i).bucket ((T i).seen / 2) x)

    -- ── 4: own node is prepared ──
    keeps_4 : (T i).stage ≡ 4 → Inv sh (updates (prepare sh s (T i)) (view sh s)) ch (with_record T i (with_stage 5 (with_current (current sh s) (T i))))
    keeps_4 four =
        let z : w.kind ≡ 0 = enqueues (omega arith) (omega arith) in
        let S = k.search (omega arith) (omega arith) in
        let p = S.enqueue_own z (omega arith) in
        let m₁ : View = update (field 6 w.own) (own_epoch sh s) m in
        let m' : View = updates (prepare sh s w) m in
        own m' ch
        (rest_stable sh m ch m' ch T i l busy R (λ n. refl) refl
        (private_keeps sh m₁ ch (Live sh.workers T) w.own (2 * w.right) R.lists p.used p.out)
        (λ c v n. private_stable sh m ch c w.ticket w.own (own_epoch sh s) (2 * w.right) n p))
        (with_stage 5 (with_current (current sh s) w)) refl
        (at_stage sh m' ch (with_current (current sh s) w) 5 (omega arith) (omega arith) (λ q. absurd (omega arith))
        (record { range = S.range; kinds = inl z; enqueue_own = λ q. p; dequeue_own = λ q. absurd (omega arith); own_home = S.own_home (omega arith) })
        (λ a. S.left (omega arith) (omega arith)) (λ a. S.right (omega arith) (omega arith)) (λ a b. absurd (omega arith))
        (λ a. S.above (omega arith) (omega arith)) (λ q. absurd (omega arith))
        (λ q. upd_same (link_cell sh w.own) (sh.buckets + w.own) (2 * w.right) (link sh s w.own) refl))

    -- ── 5: own node is linked in ──
    pub linking_5 : (T i).stage ≡ 5 → left_holds sh s (T i) ≡ true → Linking sh (view sh s) ch (T i).bucket (T i).left (T i).right (T i).own
    linking_5 five t =
        linking_at_5 sh m ch (Live sh.workers T) w R.lists (k.search (omega arith) (omega arith)) five (enqueues (omega arith) (omega arith))
        (eqb-true (m.cells w.left) (2 * w.right) t)

    abbrev pub chains_5 : (T i).stage ≡ 5 → left_holds sh s (T i) ≡ true → Chains
    chains_5 five t = set_chain ch (T i).bucket (insert_at sh (T i).own (linking_5 five t).spot)

    keeps_5 : (five : (T i).stage ≡ 5) (t : left_holds sh s (T i) ≡ true)
        → Inv sh (updates (link_own (T i)) (view sh s)) (chains_5 five t) (with_record T i (with_stage 6 (T i)))
    keeps_5 five t =
        let z : w.kind ≡ 0 = enqueues (omega arith) (omega arith) in
        let S = k.search (omega arith) (omega arith) in
        let K = linking_5 five t in
        let m' : View = updates (link_own w) m in
        let ch' : Chains = chains_5 five t in
        let p = S.enqueue_own z (omega arith) in
        own m' ch'
        (rest_stable sh m ch m' ch' T i l busy R (λ n. refl) refl
        (link_keeps sh m ch (Live sh.workers T) R.lists w.bucket w.left w.right w.own K)
        (λ c v n. link_stable sh m ch (Live sh.workers T) R.lists w.bucket w.left w.right w.own K c (λ r. n (sym r ∙ p.ticketed))))
        (with_stage 6 w) refl
        (record {
          kinds = inl z;
          dequeues = λ y a. absurd (omega arith);
          enqueues = λ y. omega arith;
          search = λ a b. absurd (omega arith);
          linked = λ a b. record {
            node = record {
              is_node = K.is_node;
              safe = inl (subst (λ y. In w.own (ch' y)) (sym K.at_home)
                  (rw (upd_same w.bucket w.bucket (insert_at sh w.own K.spot) (ch w.bucket) refl) (insert_own sh w.own K.spot)));
              at_home = K.at_home;
            };
            ticketed = p.ticketed;
          };
          walk = λ a. absurd (omega arith);
          stand = λ a b. absurd (omega arith);
          old = λ a. absurd (omega arith);
          more = λ a. absurd (omega arith);
        })

    -- ── 11: right is marked ──
    pub in_chain_11 : (T i).stage ≡ 11 → link_holds sh s (T i) ≡ true → In (T i).right (ch (home sh (view sh s) (T i).right))
    in_chain_11 eleven t = go (k.stand (omega arith) (omega arith)).safe
      where
        go : Safe sh (view sh s) ch (T i).ticket (T i).right → In (T i).right (ch (home sh (view sh s) (T i).right))
        go (inl j) = j
        go (inr (j, st, h)) =
            absurd (omega (
              arith,
              (R.lists.retired w.right j (k.stand (omega arith) (omega arith)).is_node st).0,
              (k.old eleven).1,
              eqb-true (link sh s w.right) w.seen t,
            ))

    keeps_11 : (T i).stage ≡ 11 → link_holds sh s (T i) ≡ true
        → Inv sh (updates (mark_node sh (T i)) (view sh s)) ch (with_record T i (with_stage 1 (with_own (T i).right (T i))))
    keeps_11 eleven t =
        let z = dequeues (omega arith) in
        let x = k.stand (omega arith) (omega arith) in
        let was = eqb-true (link sh s w.right) w.seen t in
        let m' : View = updates (mark_node sh w) m in
        own m' ch
        (rest_stable sh m ch m' ch T i l busy R (λ n. refl) refl
        (mark_keeps sh m ch (Live sh.workers T) R.lists w.right w.seen was)
        (λ c v n. mark_stable sh m ch w.right w.seen c (home sh m w.right) was (k.old eleven).1 (in_chain_11 eleven t)))
        (with_stage 1 (with_own w.right w)) refl
        (at_stage sh m' ch (with_own w.right w) 1 (omega arith) (omega arith) (λ q. omega arith)
        (record {
          range = (k.walk (omega arith)).0;
          kinds = inr z;
          enqueue_own = λ q. absurd (omega arith);
          dequeue_own = λ q. record {
            stands = x;
            marked = rw (upd_same (link_cell sh w.right) (sh.buckets + w.right) (2 * (w.seen / 2) + 1) (link sh s w.right) refl) (omega arith);
          };
          own_home = x.at_home;
        })
        (λ a. absurd (omega arith)) (λ a. absurd (omega arith)) (λ a a'. absurd (omega arith)) (λ a. absurd (omega arith)) (λ q. absurd (omega arith))
        (λ q. absurd (omega arith)))

    -- ── 12: current advances ──
    keeps_12 : (T i).stage ≡ 12 → Inv sh (update (word 0) (next_current (T i)) (view sh s)) ch (with_record T i (with_stage 9 (with_bucket ((T i).bucket + 1)
        (with_current (next_current (T i)) (T i)))))
    keeps_12 twelve =
        close sh (update (word 0) (next_current w) m) ch T i (with_stage 9 (with_bucket (w.bucket + 1) (with_current (next_current w) w))) l busy refl R
        (at_walk sh m ch (with_bucket (w.bucket + 1) (with_current (next_current w) w)) 9 (dequeues (omega arith)) (omega arith)
        (λ a. (omega (arith, k.more twelve), omega arith)) (λ a b. absurd (omega arith)) (λ a. absurd (omega arith)) (λ a. absurd (omega arith)))

    -- ── THE CHAINS AFTER A TURN: 3 takes one node out, 5 puts one in ──
    abbrev pub chains_after : {o : Outcome} → Change sh s (T i) o → Chains
    chains_after (head_read a b) = ch
    chains_after (mark_seen a b) = ch
    chains_after (passed a b c d) = ch
    chains_after (stopped a b c d) = ch
    chains_after (unlinked a b c) = chains_3 a b
    chains_after (again_3 a b) = ch
    chains_after (prepared a) = ch
    chains_after (linked a b) = chains_5 a b
    chains_after (again_5 a b) = ch
    chains_after (stored_6 a b) = ch
    chains_after (on_7 a b) = ch
    chains_after (stored_7 a b) = ch
    chains_after (back_6 a b) = ch
    chains_after (current_read a) = ch
    chains_after (first_read a b) = ch
    chains_after (mark_passed a b c) = ch
    chains_after (newer a b c) = ch
    chains_after (on_11 a b c) = ch
    chains_after (marked a b) = ch
    chains_after (back_10 a b) = ch
    chains_after (advanced a b) = ch
    chains_after (back_12 a b) = ch
    chains_after (emptied a b) = ch
    chains_after (back_13 a b) = ch

    -- a turn's writes are known from its outcome
    written : (o : Outcome) (ws : List Write) (ch' : Chains) → o.writes ≡ ws → Inv sh (updates ws (view sh s)) ch' (with_record T i o.worker)
        → Inv sh (updates o.writes (view sh s)) ch' (with_record T i o.worker)
    written o ws ch' e h = subst (λ x. Inv sh (updates x m) ch' (with_record T i o.worker)) (sym e) h

    -- THE THEOREM
    pub inv_step : current sh s / 4294967296 < sh.buckets → {o : Outcome} (c : Change sh s (T i) o)
        → Inv sh (updates o.writes (view sh s)) (chains_after c) (with_record T i o.worker)
    inv_step in_c {o} (head_read q set) =
        let b = base (omega arith) (omega arith) in
        written o [] ch (settled_writes sh s set) (settled_keeps m ch R set refl b (inl refl) (head_next sh m ch (Live sh.workers T) R.lists w.ticket
        w.bucket b.range))
    inv_step in_c (mark_seen q t) =
        let S = k.search (omega arith) (omega arith) in
        own m ch R (with_stage 3 (with_seen (link sh s w.right) w)) refl
        (at_stage sh m ch (with_seen (link sh s w.right) w) 3 (omega arith) (omega arith) (λ q. omega arith) (base (omega arith) (omega arith))
        (λ a. S.left (omega arith) (omega arith)) (λ a. S.right (omega arith) (omega arith)) (λ a a'. S.not_end (omega arith) (omega arith))
        (λ a. absurd (omega arith))
        (λ z. record { is_node = (right_stands (omega arith) (omega arith)).is_node; link = refl; marked = eqb-true (link sh s w.right % 2) 1 t })
        (λ q. absurd (omega arith)))
    inv_step in_c {o} (passed q t lt set) =
        let st = right_stands (omega arith) (omega arith) in
        written o [] ch (settled_writes sh s set) (settled_keeps m ch R set refl (base (omega arith) (omega arith)) (inr (w.right, refl, st, lt))
        (next_right st))
    inv_step in_c {o} (stopped q t nlt f) =
        let S = k.search (omega arith) (omega arith) in
        written o [] ch (found_writes sh s f)
        (found_keeps m ch R f refl (base (omega arith) (omega arith)) (S.left (omega arith) (omega arith)) (S.right (omega arith) (omega arith))
        (λ z n. lower_total (item_at sh s w.right) (item_at sh s w.own) nlt (tickets_differ q z)))
    inv_step in_c {o} (unlinked q t set) = written o (unlink sh s w) (chains_3 q t) (settled_writes sh s set) (keeps_3 q t set)
    inv_step in_c (again_3 q t) = again (base (omega arith) (omega arith))
    inv_step in_c (prepared q) = keeps_4 q
    inv_step in_c (linked q t) = keeps_5 q t
    inv_step in_c (again_5 q t) =
        let z : w.kind ≡ 0 = enqueues (omega arith) (omega arith) in
        let S = k.search (omega arith) (omega arith) in
        again (record {
          range = S.range;
          kinds = inl z;
          enqueue_own = λ y. S.enqueue_own y (omega arith);
          dequeue_own = λ y. absurd (omega arith);
          own_home = S.own_home (omega arith);
        })
    inv_step in_c (stored_6 q t) = own m ch R (with_stage 0 (with_current (current sh s) w)) refl (at_rest sh m ch (with_current (current sh s) w) k.kinds)
    inv_step in_c (on_7 q t) = after_link 7 (with_stage 7 (with_current (current sh s) w)) (omega arith) (omega arith) (omega arith) (omega arith) refl
    inv_step in_c (stored_7 q t) = close sh (updates (renew_current w) m) ch T i (with_stage 0 w) l busy refl R (at_rest sh m ch w k.kinds)
    inv_step in_c (back_6 q t) = after_link 6 (with_stage 6 w) (omega arith) (omega arith) (omega arith) (omega arith) refl
    inv_step in_c (current_read q) =
        own m ch R _ refl (at_walk sh m ch (with_bucket (current sh s / 4294967296) (with_current (current sh s) w)) 9 (dequeues (omega arith)) (omega arith)
        (λ a. (in_c, refl)) (λ a b. absurd (omega arith)) (λ a. absurd (omega arith)) (λ a. absurd (omega arith)))
    inv_step in_c {o} (first_read q wk) =
        let x = k.walk (omega arith) in
        written o [] ch (walked_writes sh s wk) (walked_keeps m ch R wk refl (dequeues (omega arith)) x (head_next sh m ch (Live sh.workers T) R.lists
        w.ticket w.bucket x.0))
    inv_step in_c {o} (mark_passed q t wk) =
        written o [] ch (walked_writes sh s wk)
        (walked_keeps m ch R wk refl (dequeues (omega arith)) (k.walk (omega arith)) (next_right (k.stand (omega arith) (omega arith))))
    inv_step in_c (newer q t n) = back_to_8 (with_seen (link sh s w.right) w) refl (dequeues (omega arith))
    inv_step in_c (on_11 q t n) =
        own m ch R _ refl (at_walk sh m ch (with_seen (link sh s w.right) w) 11 (dequeues (omega arith)) (omega arith) (λ a. k.walk (omega arith))
        (λ a b. k.stand (omega arith) (omega arith))
        (λ a. (ltb-false (w.current % 4294967296) (m.epoch w.right) n, unmarked_met t)) (λ a. absurd (omega arith)))
    inv_step in_c (marked q t) = keeps_11 q t
    inv_step in_c (back_10 q t) =
        own m ch R _ refl (at_walk sh m ch w 10 (dequeues (omega arith)) (omega arith) (λ a. k.walk (omega arith))
        (λ a b. k.stand (omega arith) (omega arith)) (λ a. absurd (omega arith)) (λ a. absurd (omega arith)))
    inv_step in_c (advanced q t) = keeps_12 q
    inv_step in_c (back_12 q t) = back_to_8 w refl (dequeues (omega arith))
    inv_step in_c (emptied q t) = own m ch R (with_stage 0 w) refl (at_rest sh m ch w k.kinds)
    inv_step in_c (back_13 q t) = back_to_8 w refl (dequeues (omega arith))
