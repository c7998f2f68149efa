-- Every turn keeps the joint invariant, and what it answers is what the order says: one match over the changes.
--     Still, Closes, Tells     nothing ended; a call ended; what a response says of it
--     Share                    the order's share of the invariant after an outcome
--     Stepped, joint_step      all of it after a turn, for every turn
-- Assumes nothing.
use Rattle.std.specs.Prelude.{◌≡◌, refl, Bool, true, false, cond, ◌≢◌, ◌⊎◌, ℕ, zero, suc, ◌+◌, ◌*◌, ◌/◌, ◌%◌, ◌≤◌, ◌<◌, eqb}
use Rattle.std.proofs.Common.{sym, ap, ◌∙◌, subst, inl, inr, arith, eqb-true, eq-eqb, ltb-true, ltb-false}
use mathlib.Core.List.Memᴰ.{append_cases as mem-append}
use mathlib.Core.List.Memᴰ.{append_right as mem-right}
use mathlib.Core.List.Memᴰ.{head as here}
use mathlib.Core.List.Memᴰ.{tail as there}
use mathlib.Core.List.{List, [], ◌∷◌, ◌++◌, Memᴰ as Mem}
use Rattle.arrival.specs.declared.Shape.{Shape}
use Rattle.arrival.specs.declared.Worker.{Worker}
use Rattle.arrival.specs.declared.Item.{Item}
use Rattle.arrival.specs.declared.Response.{Response}
use Rattle.arrival.specs.declared.Response.TheVariants.{Opened, Begun, On, Stored, Took, Empty, Refused}
use Rattle.arrival.specs.Queue.{taken}
use Rattle.laws.specs.Tests.{by_test, never, upd_same}
use Rattle.calendar.specs.rules.Layout.{Write, ◌≔◌, word, head, link, link_cell, current, item_at, is_marked}
use Rattle.calendar.specs.rules.Outcome.{Outcome, with_stage, with_own, with_bucket, with_right, with_current}
use Rattle.calendar.specs.rules.SearchSteps.{left_holds, unlink}
use Rattle.calendar.specs.rules.EnqueueSteps.{own_epoch, prepare, link_own, renewed, renew_current}
use Rattle.calendar.specs.rules.DequeueSteps.{node_is_marked, link_holds, mark_node, next_current, this_current}
use Rattle.calendar.specs.rules.Refusals.{no_epoch}
use Rattle.calendar.specs.facts.Views.{View, view, update, updates, item_in}
use Rattle.calendar.proofs.facts.Inside.{found_writes, settled_writes, walked_writes}
use Rattle.calendar.proofs.facts.Changes.{Found, put_found, take_ends, Settled, at_end, still_on, Walked, out, out_last, meets, Change, head_read, mark_seen}
use Rattle.calendar.proofs.facts.Changes.{passed, stopped, unlinked, again_3, prepared, linked, again_5, stored_6, on_7, stored_7, back_6, current_read}
use Rattle.calendar.proofs.facts.Changes.{first_read, mark_passed, newer, on_11, marked, back_10, advanced, back_12, emptied, back_13}
use Rattle.order.specs.Entries.{Keys, Element, Entry, enqueue, dequeue, empty, scan, run}
use Rattle.order.specs.RealTime.{ended}
use Rattle.order.specs.Scans.{alike_sym, alike_unscan, unscan}
use Rattle.order.specs.Calls.{Call}
use Rattle.order.specs.EntriesAfterMark.{alike_call}
use Rattle.lists.specs.LinkInvariant.{Chains}
use Rattle.lists.specs.Knowledge.{Private}
use Rattle.lists.specs.AllCalls.{Knows, Live, Inv, with_record, rest}
use Rattle.lists.specs.LinkPaths.{Reach}
use Rattle.lists.specs.WalkAhead.{ahead_pass, ahead_head}
use Rattle.lists.specs.TurnsKeepLists.{R, rest_3, unlinking, linking_5, chains_3, chains_5, chains_after, inv_step, enqueues, dequeues}
use Rattle.interleavings.specs.ItemKeys.{keys, Holds, Ahead}
use Rattle.interleavings.specs.Joint.{Ghost, Rises, Part, Ord, Joint}
use Rattle.interleavings.specs.ScanChanges.{Tickets, tickets_of_lem, quiet, unscanned, rescanned}
use Rattle.interleavings.specs.CallEnds.{current_moved, search_ended, stored_marked, stored_clean, out_of}
use Rattle.interleavings.specs.CallEnds as ends
use Rattle.interleavings.specs.LinkChanges.{linked_in, taken_out, own_written}
use Rattle.interleavings.specs.MarkStep.{inserted, after_11}

-- nothing ended
abbrev pub Still : {K : Keys} → Ghost K → Ghost K → Type 0
Still g g' = (g'.hist.end ≡ g.hist.end) × (g'.what ≡ g.what) × (g'.said ≡ g.said)

-- the call c ended when n calls had started, with the answer that ent is
abbrev pub Closes : {K : Keys} → Ghost K → Ghost K → ℕ → ℕ → Entry K → Type 0
Closes g g' n c ent =
    (g'.hist.end ≡ (λ k. cond (eqb c k) (ended n) (g.hist.end k))) × (g'.what ≡ g.what) × (g'.said ≡ (λ k. cond (eqb c k) ent (g.said k)))

-- what the response to a turn of call c says of the two ghosts: n calls have started, d is in its own node
abbrev pub Tells : (sh : Shape) (wd : 1 ≤ sh.width) → Ghost (keys sh wd) → Ghost (keys sh wd) → ℕ → ℕ → Item → Response → Type 0
Tells sh wd g g' n c d Opened = ⊥
Tells sh wd g g' n c d (Begun k) = ⊥
Tells sh wd g g' n c d On = Still g g'
Tells sh wd g g' n c d (Stored k) = (k ≡ c) × (d.ticket ≡ c) × Closes g g' n c (enqueue (record { it = d }))
Tells sh wd g g' n c d (Took time path order distance energy) =
    (Took time path order distance energy ≡ taken d) × Closes g g' n c (dequeue (record { it = d }) c)
Tells sh wd g g' n c d Empty = Closes g g' n c (empty c)
Tells sh wd g g' n c d (Refused k) = ⊥

module _ (sh : Shape) (wd : 1 ≤ sh.width) (s : List ℕ) (T : ℕ → Worker) (g : Ghost (keys sh wd)) (i : ℕ) (l : i < sh.workers) (busy : (T i).stage ≢ 0) where
  abbrev K : Keys
  K = keys sh wd

  abbrev m₀ : View
  m₀ = view sh s

  -- the order's share of the joint invariant after an outcome, over the view m and the chains ch
  abbrev pub Share : View → Chains → Outcome → Type 0
  Share m ch o =
      (g' : Ghost (keys sh wd)) × Ord sh wd m ch (with_record T i o.worker) g'
      × Tells sh wd g g' m.started (T i).ticket (item_in m (T i).own) o.response × (m.started ≡ (view sh s).started)

  -- ── the search, over any view ──
  module _ (m : View) (ch : Chains) (O : Ord sh wd m ch T g) (S : Tickets sh m ch T) (a : 1 ≤ (T i).stage) (b : (T i).stage ≤ 3)
      (e₀ : m.started ≡ (view sh s).started) (same : item_at sh s (T i).own ≡ item_in m (T i).own) where
    abbrev at_search : ℕ → ℕ → ℕ → ℕ → Worker
    at_search k left right seen =
        record {
          stage = k;
          kind = (T i).kind;
          own = (T i).own;
          bucket = (T i).bucket;
          left = left;
          right = right;
          seen = seen;
          current = (T i).current;
          ticket = (T i).ticket;
        }

    searching : (ws : List Write) (k left right seen : ℕ) → 1 ≤ k → k ≤ 4 → ((T i).kind ≡ 1 → k ≤ 3)
        → Share m ch (record { writes = ws; worker = at_search k left right seen; response = On })
    searching ws k left right seen c d t =
        let part = O.parts i l in (
          _,
          quiet sh wd m ch T g O i (at_search k left right seen) (λ z n h. record {
            isDequeue = h.isDequeue;
            lo = c;
            hi = t h.isDequeue;
            bears = h.bears;
            key = h.key;
          }) (λ j. absurd (omega (arith, (O.whole.scans i j).1))) (record {
            runs = λ u. part.runs busy;
            dequeuer = λ u. part.dequeuer busy;
            unlinked = λ u v z. part.unlinked a (omega arith) z;
            walking = λ u. absurd (omega arith);
            linked = λ u v. absurd (omega arith);
            marked_own = λ u v z. part.marked_own a b z;
            five = λ e. absurd (omega arith);
            scanned = λ u. absurd (omega arith);
            rises = λ u. absurd (omega arith);
            seven = λ e. absurd (omega arith);
            last = λ e. absurd (omega arith);
          }),
          (refl, refl, refl),
          e₀,
        )

    module _ (kinds : ((T i).kind ≡ 0) ⊎ ((T i).kind ≡ 1)) where
      found_share : {ws : List Write} {o : Outcome} (k left right seen : ℕ) → Found sh s ws (at_search k left right seen) o → Share m ch o
      found_share {ws} k left right seen (put_found z) = searching ws 4 left right seen (omega arith) (omega arith) (λ y. absurd (omega arith))
      found_share k left right seen (take_ends n) =
          (_, search_ended sh wd m ch T g O S i l busy (at_search 0 left right seen) refl a b (other n kinds), (ap taken same, (refl, refl, refl)), e₀)
        where
          other : (T i).kind ≢ 0 → ((T i).kind ≡ 0) ⊎ ((T i).kind ≡ 1) → (T i).kind ≡ 1
          other n (inl z) = absurd (n z)
          other n (inr z) = z

      settled_share : {ws : List Write} {o : Outcome} (k left right seen : ℕ) → Settled sh s ws (at_search k left right seen) o → Share m ch o
      settled_share k left right seen (at_end q f) = found_share k left right seen f
      settled_share {ws} k left right seen (still_on q) = searching ws 2 left right seen (omega arith) (omega arith) (λ z. omega arith)

  -- ── a put is stored, over any view ──
  stored : (m : View) (ch : Chains) (P : Inv sh m ch T) (O : Ord sh wd m ch T g) (a : 6 ≤ (T i).stage) (b : (T i).stage ≤ 7) → m.started ≡ (view sh s).started
      → m.current / 4294967296 ≤ (T i).bucket
      → ((v : ℕ) → Mem (scan v) g.order → (T i).bucket ≤ (T v).bucket → (T v).current % 4294967296 < m.current % 4294967296)
      → (w' : Worker) (ws : List Write) → w'.stage ≡ 0
      → Share m ch (record { writes = ws; worker = w'; response = Stored (T i).ticket })
  stored m ch P O a b e₀ low seen w' ws idle = go (m.cells (sh.buckets + (T i).own) % 2) refl
    where
      S : Tickets sh m ch T
      S = tickets_of_lem sh m ch T i (rest sh m ch T i P)

      bears : m.ticket (T i).own ≡ (T i).ticket
      bears = ((P.knows i l).linked a b).ticketed

      go : (k : ℕ) → m.cells (sh.buckets + (T i).own) % 2 ≡ k → Share m ch (record { writes = ws; worker = w'; response = Stored (T i).ticket })
      go zero e = (_, stored_clean sh wd m ch T g O S i l busy w' idle P a b low seen e, (refl, bears, (refl, refl, refl)), e₀)
      go (suc k) e = (_, stored_marked sh wd m ch T g O S i l busy w' idle P a b low seen (omega arith), (refl, bears, (refl, refl, refl)), e₀)

  module _ (ch : Chains) (J : Joint sh wd (view sh s) ch T g) where
    abbrev P : Inv sh (view sh s) ch T
    P = J.pool

    abbrev O : Ord sh wd (view sh s) ch T g
    O = J.ord

    tickets : Tickets sh (view sh s) ch T
    tickets = tickets_of_lem sh (view sh s) ch T i (rest sh (view sh s) ch T i P)

    me : Part sh wd (view sh s) g i (T i)
    me = O.parts i l

    knows : Knows sh (view sh s) ch (T i)
    knows = P.knows i l

    take : 8 ≤ (T i).stage → (T i).kind ≡ 1
    take = dequeues sh s T i l busy ch P

    put : 4 ≤ (T i).stage → (T i).stage ≤ 7 → (T i).kind ≡ 0
    put = enqueues sh s T i l busy ch P

    -- ── the walk ──
    abbrev at_walk : ℕ → ℕ → ℕ → Worker
    at_walk k right seen =
        record {
          stage = k;
          kind = (T i).kind;
          own = (T i).own;
          bucket = (T i).bucket;
          left = (T i).left;
          right = right;
          seen = seen;
          current = (T i).current;
          ticket = (T i).ticket;
        }

    walking_on : 9 ≤ (T i).stage → (k right seen : ℕ) → 9 ≤ k → (k ≡ 13 → sh.buckets ≤ suc (T i).bucket)
        → ((q : Element (keys sh wd)) → Mem q (run [] g.order) → Ahead sh wd (view sh s) ch (T i) q → Ahead sh wd (view sh s) ch (at_walk k right seen) q)
        → Share (view sh s) ch (record { writes = []; worker = at_walk k right seen; response = On })
    walking_on a k right seen b last ahead = (
      _,
      quiet sh wd m₀ ch T g O i (at_walk k right seen) (λ z c h. absurd (omega (arith, h.hi))) (λ j. (b, refl, refl, refl, ahead)) (record {
        runs = λ u. me.runs busy;
        dequeuer = λ u. me.dequeuer busy;
        unlinked = λ u v z. absurd (omega arith);
        walking = λ u. me.walking (omega arith);
        linked = λ u v. absurd (omega arith);
        marked_own = λ u v z. absurd (omega arith);
        five = λ e. absurd (omega arith);
        scanned = λ u. me.scanned a;
        rises = λ u. me.rises a;
        seven = λ e. absurd (omega arith);
        last = last;
      }),
      (refl, refl, refl),
      refl,
    )

    -- right has been set to a place from which all that is ahead is met
    walked_share : {o : Outcome} → 9 ≤ (T i).stage → (k right seen : ℕ)
        → ((q : Element (keys sh wd)) → Mem q (run [] g.order) → Ahead sh wd (view sh s) ch (T i) q
        → (n : ℕ) × Holds sh wd (view sh s) ch (T i).bucket q n × Reach sh (view sh s).cells n right)
        → Walked sh s (at_walk k right seen) o → Share (view sh s) ch o
    walked_share a k right seen ahead (out e more) =
        walking_on a 12 right seen (omega arith) (λ z. absurd (omega arith)) (λ q j h. absurd (end e (ahead q j h)))
      where
        end : {q : Element (keys sh wd)} → right ≡ sh.nodes → (n : ℕ) × Holds sh wd (view sh s) ch (T i).bucket q n × Reach sh (view sh s).cells n right
            → ⊥
        end e (n, y, Reach.stop f) = omega (arith, (P.lists.member (T i).bucket n y.inside).is_node)
        end e (n, y, Reach.step f r) = omega arith
    walked_share a k right seen ahead (out_last e more) =
        walking_on a 13 right seen (omega arith) (λ z. omega (arith, ltb-false ((T i).bucket + 1) sh.buckets more)) (λ q j h. absurd (end e (ahead q j h)))
      where
        end : {q : Element (keys sh wd)} → right ≡ sh.nodes → (n : ℕ) × Holds sh wd (view sh s) ch (T i).bucket q n × Reach sh (view sh s).cells n right
            → ⊥
        end e (n, y, Reach.stop f) = omega (arith, (P.lists.member (T i).bucket n y.inside).is_node)
        end e (n, y, Reach.step f r) = omega arith
    walked_share a k right seen ahead (meets n) =
        walking_on a 10 right seen (omega arith) (λ z. absurd (omega arith)) (λ q j h. let (n, y, r) = ahead q j h in (n, y, inr (omega arith, omega arith, r)))

    -- the scan goes
    walk_over : 9 ≤ (T i).stage → (right seen : ℕ) → Share (view sh s) ch (record { writes = []; worker = at_walk 8 right seen; response = On })
    walk_over a right seen = (
      _,
      unscanned sh wd m₀ ch T g O i (at_walk 8 right seen) (λ z c h. absurd (omega (arith, h.hi))) (record {
        runs = λ u. me.runs busy;
        dequeuer = λ u. me.dequeuer busy;
        unlinked = λ u v z. absurd (omega arith);
        walking = λ u f j c. me.walking (omega arith) f (alike_call (alike_sym (alike_unscan g.order i)) f c j) c;
        linked = λ u v. absurd (omega arith);
        marked_own = λ u v z. absurd (omega arith);
        five = λ f. absurd (omega arith);
        scanned = λ u. absurd (omega arith);
        rises = λ u. absurd (omega arith);
        seven = λ f. absurd (omega arith);
        last = λ f. absurd (omega arith);
      }),
      (refl, refl, refl),
      refl,
    )

    -- what is ahead stays ahead at 10 and 11
    stay : {q : Element (keys sh wd)} → 10 ≤ (T i).stage → (T i).stage ≤ 11 → (k seen : ℕ) → 10 ≤ k → k ≤ 11 → Ahead sh wd (view sh s) ch (T i) q
        → Ahead sh wd (view sh s) ch (at_walk k (T i).right seen) q
    stay a b k seen lo hi (n, h, inl z) = absurd (omega arith)
    stay a b k seen lo hi (n, h, inr (c, d, r)) = (n, h, inr (lo, hi, r))

    -- an entry of a call was in the order before a scan was set anew
    old : (f : Entry (keys sh wd)) → Call f → Mem f (unscan g.order i) ⊎ Mem f (scan i ∷ []) → Mem f g.order
    old f c (inl j) = alike_call (alike_sym (alike_unscan g.order i)) f c j
    old f c (inr (here e)) = absurd (subst Call e c)
    old f c (inr (there m)) = elim m [ ]

    -- the record of a walk whose scan is set anew, over any current
    scanning : (v : ℕ) (w' : Worker) → w'.stage ≡ 9 → w'.ticket ≡ (T i).ticket → w'.kind ≡ 1 → w'.current ≡ v → 8 ≤ (T i).stage
        → Part sh wd (update (word 0) v (view sh s)) (record { hist = g.hist; order = unscan g.order i ++ scan i ∷ []; what = g.what; said = g.said })
        i w'
    scanning v w' nine st kd cu a = record {
      runs = λ u. rw st (me.runs busy);
      dequeuer = λ u z. rw st (me.dequeuer busy (take a));
      unlinked = λ u v z. absurd (omega arith);
      walking = λ u f j c. rw st (me.walking a f (old f c (mem-append (unscan g.order i) j)) c);
      linked = λ u v. absurd (omega arith);
      marked_own = λ u v z. absurd (omega arith);
      five = λ f. absurd (omega arith);
      scanned = λ u. mem-right (unscan g.order i) (here refl);
      rises = λ u. rw cu (inr (refl, omega arith));
      seven = λ f. absurd (omega arith);
      last = λ f. absurd (omega arith);
    }

    share_8 : (T i).stage ≡ 8 → Share (view sh s) ch (record {
      writes = [];
      worker = with_stage 9 (with_bucket (current sh s / 4294967296) (with_current (current sh s) (T i)));
      response = On;
    })
    share_8 eight =
        let w' : Worker = with_stage 9 (with_bucket (current sh s / 4294967296) (with_current (current sh s) (T i))) in (
          _,
          rescanned sh wd m₀ ch T g O i w' (λ z c h. absurd (omega (arith, h.hi))) l refl refl
              (scanning (current sh s) w' refl refl (take (omega arith)) refl (omega arith)),
          (refl, refl, refl),
          refl,
        )

    share_12 : (T i).stage ≡ 12 → current sh s ≡ this_current (T i)
        → Share (update (word 0) (next_current (T i)) (view sh s)) ch (record {
          writes = (word 0 ≔ next_current (T i)) ∷ [];
          worker = with_stage 9 (with_bucket ((T i).bucket + 1) (with_current (next_current (T i)) (T i)));
          response = On;
        })
    share_12 a same =
        let x : ℕ = next_current (T i) in
        let m' : View = update (word 0) x m₀ in
        let d : x / 4294967296 ≡ (T i).bucket + 1 = omega arith in
        let r : x % 4294967296 ≡ (T i).current % 4294967296 = omega arith in
        let d₀ : current sh s / 4294967296 ≡ (T i).bucket = omega arith in
        let r₀ : current sh s % 4294967296 ≡ (T i).current % 4294967296 = omega arith in
        let O' : Ord sh wd m' ch T g = current_moved sh wd m₀ ch T g x O
        (λ q j. omega (arith, out_of sh wd m₀ ch T g O tickets i l busy (with_stage 0 (T i)) refl (omega arith) r₀ q j)) (omega arith)
        (λ z h. up z x d r d₀ r₀ h) in
        let w' : Worker = with_stage 9 (with_bucket ((T i).bucket + 1) (with_current x (T i))) in (
          _,
          rescanned sh wd m' ch T g O' i w' (λ z c h. absurd (omega (arith, h.hi))) l refl (sym d)
              (scanning x w' refl refl (take (omega arith)) refl (omega arith)),
          (refl, refl, refl),
          refl,
        )
      where
        up : (z x : ℕ) → x / 4294967296 ≡ (T i).bucket + 1 → x % 4294967296 ≡ (T i).current % 4294967296 → current sh s / 4294967296 ≡ (T i).bucket
            → current sh s % 4294967296 ≡ (T i).current % 4294967296 → Rises z (current sh s) → Rises z x
        up z x d r d₀ r₀ (inl h) = inl (omega arith)
        up z x d r d₀ r₀ (inr (h, k)) = inr (omega arith, omega arith)

    share_13 : (T i).stage ≡ 13 → current sh s ≡ this_current (T i)
        → Share (view sh s) ch (record { writes = []; worker = with_stage 0 (T i); response = Empty })
    share_13 a same =
        (_, ends.emptied sh wd m₀ ch T g O tickets i l busy (with_stage 0 (T i)) refl a (take (omega arith)) (omega arith), (refl, refl, refl), refl)

    -- ── a put after its search ──
    -- back to the search's start
    again : 1 ≤ (T i).stage → (T i).stage ≤ 5 → ((T i).kind ≡ 1 → (T i).stage ≤ 3)
        → Share (view sh s) ch (record { writes = []; worker = with_stage 1 (T i); response = On })
    again a b c = (
      _,
      quiet sh wd m₀ ch T g O i (with_stage 1 (T i)) (λ z n h. record {
        isDequeue = h.isDequeue;
        lo = omega arith;
        hi = omega arith;
        bears = h.bears;
        key = h.key;
      }) (λ j. absurd (omega (arith, (O.whole.scans i j).1))) (record {
        runs = λ u. me.runs busy;
        dequeuer = λ u. me.dequeuer busy;
        unlinked = λ u v z. me.unlinked a b z;
        walking = λ u. absurd (omega arith);
        linked = λ u v. absurd (omega arith);
        marked_own = λ u v z. me.marked_own a (c z) z;
        five = λ f. absurd (omega arith);
        scanned = λ u. absurd (omega arith);
        rises = λ u. absurd (omega arith);
        seven = λ f. absurd (omega arith);
        last = λ f. absurd (omega arith);
      }),
      (refl, refl, refl),
      refl,
    )

    -- the record after 4, and after 5
    unlinked_part : (m : View) → (T i).stage ≡ 4 → ((c t : ℕ) → g.hist.end c ≡ ended t → t < (T i).ticket → g.hist.late c ≤ m.epoch (T i).own)
        → (v : ℕ) → Part sh wd m g i (with_stage 5 (with_current v (T i)))
    unlinked_part m a five v = record {
      runs = λ u. me.runs busy;
      dequeuer = λ u. me.dequeuer busy;
      unlinked = λ u v z. me.unlinked (omega arith) (omega arith) z;
      walking = λ u. absurd (omega arith);
      linked = λ u v. absurd (omega arith);
      marked_own = λ u v z. absurd (omega arith);
      five = λ f. five;
      scanned = λ u. absurd (omega arith);
      rises = λ u. absurd (omega arith);
      seven = λ f. absurd (omega arith);
      last = λ f. absurd (omega arith);
    }

    share_4 : (T i).stage ≡ 4 → Share (updates (prepare sh s (T i)) (view sh s)) ch (record {
      writes = prepare sh s (T i);
      worker = with_stage 5 (with_current (current sh s) (T i));
      response = On;
    })
    share_4 a =
        let p : Private sh m₀ ch (T i).ticket (T i).own = (knows.search (omega arith) (omega arith)).enqueue_own (put (omega arith) (omega arith))
        (omega arith) in
        let m' : View = updates (prepare sh s (T i)) m₀ in (
          _,
          quiet sh wd m' ch T g (own_written sh wd m₀ ch T g P O i l a p (2 * (T i).right) (own_epoch sh s)) i
              (with_stage 5 (with_current (current sh s) (T i))) (λ z c h. absurd (omega (arith, h.hi))) (λ j. absurd (omega (arith, (O.whole.scans i j).1)))
              (unlinked_part m' a (λ c t e h. rw (upd_same (T i).own (T i).own (own_epoch sh s) (m₀.epoch (T i).own) refl) (O.whole.lates c t e))
              (current sh s)),
          (refl, refl, refl),
          refl,
        )

    share_5 : (a : (T i).stage ≡ 5) (t : left_holds sh s (T i) ≡ true) → Share (updates (link_own (T i)) (view sh s)) (chains_5 sh s T i l busy ch P a t)
        (record { writes = link_own (T i); worker = with_stage 6 (T i); response = On })
    share_5 a t =
        let k = linking_5 sh s T i l busy ch P a t in
        let m' : View = updates (link_own (T i)) m₀ in
        let ch' : Chains = chains_5 sh s T i l busy ch P a t in (
          _,
          quiet sh wd m' ch' T g (linked_in sh wd m₀ ch T g P O i l a (put (omega arith) (omega arith)) k) i (with_stage 6 (T i))
              (λ z c h. absurd (omega (arith, h.hi))) (λ j. absurd (omega (arith, (O.whole.scans i j).1))) (record {
                runs = λ u. me.runs busy;
                dequeuer = λ u. me.dequeuer busy;
                unlinked = λ u v z. absurd (omega arith);
                walking = λ u. absurd (omega arith);
                linked = λ u v h. absurd (clean_own k.was k.link h);
                marked_own = λ u v z. absurd (omega arith);
                five = λ f. absurd (omega arith);
                scanned = λ u. absurd (omega arith);
                rises = λ u. absurd (omega arith);
                seven = λ f. absurd (omega arith);
                last = λ f. absurd (omega arith);
              }),
          (refl, refl, refl),
          refl,
        )
      where
        clean_own : (view sh s).cells (T i).left ≡ 2 * (T i).right → (view sh s).cells (sh.buckets + (T i).own) ≡ 2 * (T i).right
            → cond (eqb (T i).left (sh.buckets + (T i).own)) (2 * (T i).own) ((view sh s).cells (sh.buckets + (T i).own)) % 2 ≡ 1 → ⊥
        clean_own was link = by_test (λ (x : ℕ). x % 2 ≡ 1 → ⊥) (eqb (T i).left (sh.buckets + (T i).own)) (λ e h. omega arith) (λ e h. omega arith)

    linked_on : (a : 6 ≤ (T i).stage) (b : (T i).stage ≤ 7) (w' : Worker) → 6 ≤ w'.stage → w'.stage ≤ 7 → w'.own ≡ (T i).own → w'.ticket ≡ (T i).ticket
        → w'.kind ≡ 0 → (w'.stage ≡ 7 → w'.bucket ≤ w'.current / 4294967296)
        → Share (view sh s) ch (record { writes = []; worker = w'; response = On })
    linked_on a b w' c d ow st kd sv = (
      _,
      quiet sh wd m₀ ch T g O i w' (λ z c h. absurd (omega (arith, h.hi))) (λ j. absurd (omega (arith, (O.whole.scans i j).1))) (record {
        runs = λ u. rw st (me.runs busy);
        dequeuer = λ u z. absurd (omega arith);
        unlinked = λ u v z. absurd (omega arith);
        walking = λ u. absurd (omega arith);
        linked = λ u v. rw ow (me.linked a b);
        marked_own = λ u v z. absurd (omega arith);
        five = λ f. absurd (omega arith);
        scanned = λ u. absurd (omega arith);
        rises = λ u. absurd (omega arith);
        seven = sv;
        last = λ f. absurd (omega arith);
      }),
      (refl, refl, refl),
      refl,
    )

    -- 6: every scan of a bucket as high saw an earlier epoch
    seen_6 : current sh s / 4294967296 < (T i).bucket → (v : ℕ) → Mem (scan v) g.order → (T i).bucket ≤ (T v).bucket
        → (T v).current % 4294967296 < current sh s % 4294967296
    seen_6 h v j k = pick ((O.parts v lv).rises (O.whole.scans v j).1)
      where
        lv : v < sh.workers
        lv = (O.whole.scans v j).0

        pick : Rises (T v).current (current sh s) → (T v).current % 4294967296 < current sh s % 4294967296
        pick (inl r) = r
        pick (inr (e, r)) = absurd (omega (arith, ((P.knows v lv).walk (O.whole.scans v j).1).1))

    share_7 : (T i).stage ≡ 7 → current sh s ≡ (T i).current → (T i).current % 4294967296 ≢ 4294967295
        → Share (updates (renew_current (T i)) (view sh s)) ch
        (record { writes = renew_current (T i); worker = with_stage 0 (T i); response = Stored (T i).ticket })
    share_7 a same top =
        let x : ℕ = renewed (T i) in
        let m' : View = updates (renew_current (T i)) m₀ in
        let d : x / 4294967296 ≡ (T i).bucket = omega arith in
        let r : x % 4294967296 ≡ (T i).current % 4294967296 + 1 = omega arith in
        stored m' ch P
        (current_moved sh wd m₀ ch T g x O (λ q j. omega (arith, O.whole.current q j, me.seven a)) (omega arith) (λ z h. inl (less z x r h)))
        (omega arith) (omega arith) refl (omega arith) (λ v j k. less (T v).current x r
        ((O.parts v (O.whole.scans v j).0).rises (O.whole.scans v j).1)) (with_stage 0 (T i)) (renew_current (T i)) refl
      where
        less : (z x : ℕ) → x % 4294967296 ≡ (T i).current % 4294967296 + 1 → Rises z (current sh s) → z % 4294967296 < x % 4294967296
        less z x r (inl h) = omega (arith, ap (λ y. y % 4294967296) same)
        less z x r (inr (h, k)) = omega (arith, ap (λ y. y % 4294967296) same)

    -- ── 3: the search goes on over the store with right unlinked ──
    share_3 : {o : Outcome} (a : (T i).stage ≡ 3) (t : left_holds sh s (T i) ≡ true) → Settled sh s (unlink sh s (T i)) (with_right ((T i).seen / 2) (T i)) o
        → Share (updates (unlink sh s (T i)) (view sh s)) (chains_3 sh s T i l busy ch P a t) o
    share_3 a t set =
        let u = unlinking sh s T i l busy ch P a t in
        let m' : View = updates (unlink sh s (T i)) m₀ in
        let ch' : Chains = chains_3 sh s T i l busy ch P a t in
        let O' : Ord sh wd m' ch' T g = taken_out sh wd m₀ ch T g P O (R sh s T i l busy ch P).lists (T i).bucket (T i).left (T i).right
        (T i).seen u in
        settled_share m' ch' O' (tickets_of_lem sh m' ch' T i (rest_3 sh s T i l busy ch P a t)) (omega arith) (omega arith) refl refl knows.kinds (T i).stage
        (T i).left ((T i).seen / 2) (T i).seen set

    -- ── 11: the take goes into the order ──
    share_11 : (T i).stage ≡ 11 → link_holds sh s (T i) ≡ true → Share (updates (mark_node sh (T i)) (view sh s)) ch (record {
      writes = mark_node sh (T i);
      worker = with_stage 1 (with_own (T i).right (T i));
      response = On;
    })
    share_11 a t =
        let was = eqb-true (link sh s (T i).right) (T i).seen t in
        let (M, F) = inserted sh wd m₀ ch T g P O i l a was in
        (_, after_11 sh wd m₀ ch T g P O i l a was M F, (refl, refl, refl), refl)

    -- a share of writes that are known
    written : (o : Outcome) (ws : List Write) (ch' : Chains) → o.writes ≡ ws → Share (updates ws (view sh s)) ch' o
        → Share (updates o.writes (view sh s)) ch' o
    written o ws ch' e h = subst (λ x. Share (updates x m₀) ch' o) (sym e) h

    -- a walk passes only marked nodes
    only_marked : node_is_marked sh s (T i) ≡ true → link sh s (T i).right % 2 ≡ 1
    only_marked t = go (is_marked (link sh s (T i).right)) refl
      where
        go : (b : Bool) → is_marked (link sh s (T i).right) ≡ b → link sh s (T i).right % 2 ≡ 1
        go true e = eqb-true (link sh s (T i).right % 2) 1 e
        go false e = never (rw e at t)

    pass : {q : Element (keys sh wd)} → (T i).stage ≡ 10 → node_is_marked sh s (T i) ≡ true → Ahead sh wd (view sh s) ch (T i) q
        → (n : ℕ) × Holds sh wd (view sh s) ch (T i).bucket q n × Reach sh (view sh s).cells n (link sh s (T i).right / 2)
    pass ten t (n, h, inl z) = absurd (omega arith)
    pass ten t (n, h, inr (a, b, r)) = (n, h, ahead_pass sh m₀ ch (Live sh.workers T) P.lists n (T i).right r (only_marked t) h.clean)

    share_step : no_epoch sh s (T i) ≡ false → {o : Outcome} (c : Change sh s (T i) o)
        → Share (updates o.writes (view sh s)) (chains_after sh s T i l busy ch P c) o
    share_step top {o} (head_read q set) =
        written o [] ch (settled_writes sh s set) (settled_share m₀ ch O tickets (omega arith) (omega arith) refl refl knows.kinds (T i).stage
        (T i).bucket (head sh s (T i).bucket / 2) (T i).seen set)
    share_step top (mark_seen q t) =
        searching m₀ ch O tickets (omega arith) (omega arith) refl refl [] 3 (T i).left (T i).right (link sh s (T i).right) (omega arith) (omega arith)
        (λ z. omega arith)
    share_step top {o} (passed q t lt set) =
        written o [] ch (settled_writes sh s set) (settled_share m₀ ch O tickets (omega arith) (omega arith) refl refl knows.kinds (T i).stage
        (link_cell sh (T i).right) (link sh s (T i).right / 2) (link sh s (T i).right) set)
    share_step top {o} (stopped q t nlt f) =
        written o [] ch (found_writes sh s f) (found_share m₀ ch O tickets (omega arith) (omega arith) refl refl knows.kinds (T i).stage (T i).left
        (T i).right (link sh s (T i).right) f)
    share_step top {o} (unlinked q t set) = written o (unlink sh s (T i)) (chains_3 sh s T i l busy ch P q t) (settled_writes sh s set) (share_3 q t set)
    share_step top (again_3 q t) = again (omega arith) (omega arith) (λ y. omega arith)
    share_step top (prepared q) = share_4 q
    share_step top (linked q t) = share_5 q t
    share_step top (again_5 q t) = again (omega arith) (omega arith) (λ y. absurd (omega (arith, put (omega arith) (omega arith))))
    share_step top (stored_6 q t) =
        let h = ltb-true (current sh s / 4294967296) (T i).bucket t in
        stored m₀ ch P O (omega arith) (omega arith) refl (omega arith) (seen_6 h) (with_stage 0 (with_current (current sh s) (T i))) [] refl
    share_step top (on_7 q t) =
        linked_on (omega arith) (omega arith) (with_stage 7 (with_current (current sh s) (T i))) (omega arith) (omega arith) refl refl
        (put (omega arith) (omega arith)) (λ z. ltb-false (current sh s / 4294967296) (T i).bucket t)
    share_step top (stored_7 q t) =
        share_7 q (eqb-true (current sh s) (T i).current t)
        (λ e. never (sym top ∙ rw (eq-eqb (T i).stage 7 q, t, eq-eqb ((T i).current % 4294967296) 4294967295 e)))
    share_step top (back_6 q t) =
        linked_on (omega arith) (omega arith) (with_stage 6 (T i)) (omega arith) (omega arith) refl refl (put (omega arith) (omega arith))
        (λ z. absurd (omega arith))
    share_step top (current_read q) = share_8 q
    share_step top {o} (first_read q wk) =
        written o [] ch (walked_writes sh s wk) (walked_share (omega arith) (T i).stage (head sh s (T i).bucket / 2) (T i).seen
        (λ e j (n, h, z). (n, h, ahead_head sh m₀ ch (Live sh.workers T) P.lists (T i).bucket n (knows.walk (omega arith)).0 h.inside)) wk)
    share_step top {o} (mark_passed q t wk) =
        written o [] ch (walked_writes sh s wk) (walked_share (omega arith) (T i).stage (link sh s (T i).right / 2) (link sh s (T i).right)
        (λ e j h. pass q t h) wk)
    share_step top (newer q t n) = walk_over (omega arith) (T i).right (link sh s (T i).right)
    share_step top (on_11 q t n) =
        walking_on (omega arith) 11 (T i).right (link sh s (T i).right) (omega arith) (λ z. absurd (omega arith))
        (λ e j h. stay (omega arith) (omega arith) 11 (link sh s (T i).right) (omega arith) (omega arith) h)
    share_step top (marked q t) = share_11 q t
    share_step top (back_10 q t) =
        walking_on (omega arith) 10 (T i).right (T i).seen (omega arith) (λ z. absurd (omega arith))
        (λ e j h. stay (omega arith) (omega arith) 10 (T i).seen (omega arith) (omega arith) h)
    share_step top (advanced q t) = share_12 q (eqb-true (current sh s) (this_current (T i)) t)
    share_step top (back_12 q t) = walk_over (omega arith) (T i).right (T i).seen
    share_step top (emptied q t) = share_13 q (eqb-true (current sh s) (this_current (T i)) t)
    share_step top (back_13 q t) = walk_over (omega arith) (T i).right (T i).seen

    -- THE THEOREM
    abbrev pub Stepped : {o : Outcome} → Change sh s (T i) o → Type 0
    Stepped {o} c =
        (g' : Ghost (keys sh wd)) × Joint sh wd (updates o.writes (view sh s)) (chains_after sh s T i l busy ch P c) (with_record T i o.worker) g'
        × Tells sh wd g g' (updates o.writes (view sh s)).started (T i).ticket (item_in (updates o.writes (view sh s)) (T i).own) o.response
        × ((updates o.writes (view sh s)).started ≡ (view sh s).started)

    pub joint_step : no_epoch sh s (T i) ≡ false → current sh s / 4294967296 < sh.buckets → {o : Outcome} (c : Change sh s (T i) o) → Stepped c
    joint_step top in_c c = let (g', x, t, z) = share_step top c in (g', record { pool = inv_step sh s T i l busy ch P in_c c; ord = x }, t, z)
