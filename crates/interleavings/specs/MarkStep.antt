-- Step 11's success: the node is marked, and its dequeue goes into the order.
--     inserted                the order with the dequeue
--     marked, next, grown     the store, the record and the account after it
--     after_11                the order's share of the invariant then
-- Assumes nothing.
use Rattle.std.specs.Prelude.{◌≡◌, refl, Bool, true, false, ◌≢◌, ◌⊎◌, ℕ, ◌+◌, ◌*◌, ◌/◌, ◌%◌, ◌≤◌, ◌<◌}
use Rattle.std.proofs.Common.{sym, ap, ◌∙◌, subst, inl, inr, arith}
use Rattle.std.proofs.Math.Option.{none, some, none-ne-some, some-injective}
use mathlib.Core.List.{[], Memᴰ as Mem}
use Rattle.std.proofs.Math.Decide.{ℕ_discrete}
use Rattle.arrival.specs.declared.Shape.{Shape}
use Rattle.arrival.specs.declared.Worker.{Worker}
use Rattle.arrival.specs.declared.Item.{Item}
use Rattle.arrival.specs.Keys.{lower, item_bucket}
use Rattle.arrival.proofs.Keys.{lower_trans, lower_irr, lower_total}
use Rattle.laws.specs.Tests.{upd_same, upd_other}
use Rattle.calendar.specs.rules.Layout.{cell}
use Rattle.calendar.specs.rules.Outcome.{with_stage, with_own}
use Rattle.calendar.specs.facts.Views.{View, update, item_in, Lt}
use Rattle.order.specs.Entries.{Keys, Element, Entry, enqueue, dequeue, empty, scan, Order, ◌≺◌, ticket, bucket, mem_without, without_mem, run}
use Rattle.order.specs.RealTime.{End, running, ended, ticket_of_lem}
use Rattle.order.specs.OrderAfterMark.{Inv as Orderly, Taking}
use Rattle.order.specs.Calls.{Call}
use Rattle.order.specs.EntriesAfterMark.{Found, found, taken_gone, taken_enqueued}
use Rattle.lists.specs.Chain.{In}
use Rattle.lists.specs.LinkInvariant.{Chains, home, Safe}
use Rattle.lists.specs.Marking.{marked_half}
use Rattle.lists.specs.AllCalls.{Knows, Live, Inv, with_record}
use Rattle.lists.specs.LinkPaths.{reach_half}
use Rattle.lists.specs.WalkAhead.{ahead_above}
use Rattle.interleavings.specs.ItemKeys.{keys, arr, Holds, Meets, Ahead}
use Rattle.interleavings.specs.Joint.{Holder, held_close, Ghost, Absent, Logged, Marked, Clean, Part, walks, Whole, Ord, part_left, orderly_shift}
use Rattle.interleavings.specs.Joint.{parts_close, scans_close}
use Rattle.interleavings.specs.Nodes.{reach_trans, reach_above, one_node}

module _ (sh : Shape) (wd : 0 < sh.width) (m : View) (ch : Chains) (T : ℕ → Worker) (g : Ghost (keys sh wd)) (P : Inv sh m ch T) (O : Ord sh wd m ch T g)
    (i : ℕ) (l : i < sh.workers) (eleven : (T i).stage ≡ 11) (was : m.cells (sh.buckets + (T i).right) ≡ (T i).seen) where
  busy : (T i).stage ≢ 0
  busy e = omega arith

  abbrev K : Keys
  K = keys sh wd

  abbrev x : Element (keys sh wd)
  x = arr sh wd m (T i).right

  knows : Knows sh m ch (T i)
  knows = P.knows i l

  part : Part sh wd m g i (T i)
  part = O.parts i l

  clean_x : Clean sh wd m (T i).right
  clean_x = omega (arith, (knows.old eleven).1)

  is_node : (T i).right < sh.nodes
  is_node = (knows.stand (omega arith) (omega arith)).is_node

  home_x : home sh m (T i).right ≡ (T i).bucket
  home_x = (knows.stand (omega arith) (omega arith)).at_home

  inside : In (T i).right (ch (T i).bucket)
  inside = go (knows.stand (omega arith) (omega arith)).safe
    where
      go : Safe sh m ch (T i).ticket (T i).right → In (T i).right (ch (T i).bucket)
      go (inl j) = subst (λ b. In (T i).right (ch b)) home_x j
      go (inr (k, s, h)) = absurd (omega (arith, (P.lists.retired (T i).right k is_node s).0, clean_x))

  pos_x : 1 ≤ m.ticket (T i).right
  pos_x = O.whole.ticketed (T i).bucket (T i).right inside

  log_x : g.what (m.ticket (T i).right) ≡ some (item_in m (T i).right)
  log_x = O.whole.logged (T i).right is_node (λ e. omega (arith, pos_x))

  kind_1 : (T i).kind ≡ 1
  kind_1 = go knows.kinds
    where
      go : ((T i).kind ≡ 0) ⊎ ((T i).kind ≡ 1) → (T i).kind ≡ 1
      go (inl z) = absurd (omega (arith, knows.enqueues z))
      go (inr z) = z

  log_c : g.what (T i).ticket ≡ none
  log_c = part.dequeuer busy kind_1

  apart_x : m.ticket (T i).right ≢ (T i).ticket
  apart_x e = none-ne-some _ (sym log_c ∙ ap g.what (sym e) ∙ log_x)

  chain_node : (b n : ℕ) → In n (ch b) → n < sh.nodes
  chain_node b n j = (P.lists.member b n j).is_node

  -- a chain node of x's arrival is x's
  is_x : (b n : ℕ) → In n (ch b) → item_in m n ≡ item_in m (T i).right → n ≡ (T i).right
  is_x b n j e = one_node sh m ch T P n (T i).right (chain_node b n j) is_node (O.whole.ticketed b n j) (ap (λ (d : Item). d.ticket) e)

  not_x : (q : Element K) (n : ℕ) → ¬ (q ≡ x) → item_in m n ≡ q.it → n ≢ (T i).right
  not_x q n u k e = u (λ j. record { it = (sym k ∙ ap (item_in m) e) j })

  taking : Taking g.hist (walks sh wd m ch T) [] g.order i x
  taking = record {
    scanning = part.scanned (omega arith);
    open_call = part.runs busy;
    kept_or_open = kept (g.hist.end (m.ticket (T i).right)) refl;
    bucket_here = home_x;
    first = first;
    epochs = λ q s j e h. omega (arith, O.whole.epochs (T i).bucket (T i).right (ticket q) s inside e h, (knows.old eleven).0);
    total = total;
    others = others;
  }
    where
      kept : (d : End) → g.hist.end (m.ticket (T i).right) ≡ d → Mem x (run [] g.order) ⊎ (g.hist.end (ticket x) ≡ running)
      kept running e = inr e
      kept (ended s) e = inl (O.whole.into (T i).bucket (T i).right s inside clean_x e)

      first : (z : Element K) → Ahead sh wd m ch (T i) z → ¬ (z ≺ x)
      first z (n, h, inl e) lt = omega arith
      first z (n, h, inr (a, b, rr)) lt =
          pick (reach_above sh m ch (Live sh.workers T) P.lists (T i).ticket n (i, l, busy, refl) (chain_node (T i).bucket n h.inside)
          (knows.stand (omega arith) (omega arith)).safe rr)
        where
          lt' : Lt m n (T i).right
          lt' = subst (λ (d : Item). lower d (item_in m (T i).right) ≡ true) (sym h.key) lt

          pick : ((T i).right ≡ n) ⊎ Lt m (T i).right n → ⊥
          pick (inl e) = lower_irr (item_in m n) (subst (λ y. Lt m n y) e lt')
          pick (inr k) = lower_irr (item_in m n) (lower_trans (item_in m n) (item_in m (T i).right) (item_in m n) lt' k)

      total : (q : Element K) → Mem q (run [] g.order) → ¬ (q ≡ x) → ¬ (q ≺ x) → x ≺ q
      total q j u n =
          let (k, h) = O.whole.from q j in
          higher k h (lower q.it (item_in m (T i).right)) refl
        where
          higher : (k : ℕ) → Holds sh wd m ch (bucket q) q k → (t : Bool) → lower q.it (item_in m (T i).right) ≡ t → x ≺ q
          higher k h true e = absurd (n e)
          higher k h false e =
              lower_total q.it (item_in m (T i).right) e (λ f. not_x q k u h.key (one_node sh m ch T P k (T i).right
              (chain_node (bucket q) k h.inside) is_node (O.whole.ticketed (bucket q) k h.inside) (ap (λ (d : Item). d.ticket) h.key ∙ f)))

      others : (v : ℕ) (q : Element K) → Mem q (run [] g.order) → Ahead sh wd m ch (T v) x → x ≺ q → bucket q ≡ bucket x → Ahead sh wd m ch (T v) q
      others v q j (n, h, met) lt e =
          let (k, y) = O.whole.from q j in
          let f : bucket q ≡ (T v).bucket = e ∙ sym (ap (item_bucket sh) h.key) ∙ (P.lists.member (T v).bucket n h.inside).at_home in
          let y' : Holds sh wd m ch (T v).bucket q k = subst (λ b. Holds sh wd m ch b q k) f y in
          (k, y', meet k y' met)
        where
          meet : (k : ℕ) → Holds sh wd m ch (T v).bucket q k → Meets sh wd m (T v) n → Meets sh wd m (T v) k
          meet k y (inl z) = inl z
          meet k y (inr (a, b, rr)) =
              inr (
                a,
                b,
                reach_trans sh m.cells (ahead_above sh m ch (Live sh.workers T) P.lists (T v).bucket n k
                    (P.lists.member (T v).bucket n h.inside).in_range h.inside y.inside
                    (rw (h.key, y.key) lt)) rr,
              )

  -- no entry dequeues x
  untaken : (d : ℕ) → ¬ Mem (dequeue x d) g.order
  untaken d j = go (g.hist.end (m.ticket (T i).right)) refl
    where
      put_x : Mem x [] ⊎ Mem (enqueue x) g.order → Mem (enqueue x) g.order
      put_x (inl k) = elim k [ ]
      put_x (inr k) = k

      go : (e : End) → g.hist.end (m.ticket (T i).right) ≡ e → ⊥
      go running e =
          O.whole.pending (T i).bucket (T i).right inside clean_x e (enqueue x)
          (put_x (taken_enqueued [] g.order x d O.whole.orderly.legal j)) tt refl
      go (ended s) e =
          taken_gone [] g.order x d O.whole.orderly.legal O.whole.distinct (λ k. elim k [ ]) j
          (O.whole.into (T i).bucket (T i).right s inside clean_x e)

  only : (f : Entry K) → Mem f g.order → Call f → ticket_of_lem f ≡ ticket x → f ≡ enqueue x
  only (enqueue y) j c e = ap enqueue (λ k. record { it = some-injective _ _ (sym (O.whole.entries (enqueue y) j) ∙ ap g.what e ∙ log_x) k })
  only (dequeue z c) j k e = absurd (none-ne-some _ (sym (O.whole.entries (dequeue z c) j) ∙ ap g.what e ∙ log_x))
  only (empty c) j k e = absurd (none-ne-some _ (sym (O.whole.entries (empty c) j) ∙ ap g.what e ∙ log_x))
  only (scan v) j k e = absurd k

  pub inserted : (M : Order K) × Found g.hist (walks sh wd m ch T) g.order M i x
  inserted =
      found g.hist (walks sh wd m ch T) g.order i x O.whole.orderly taking O.whole.distinct (part.walking (omega arith)) only apart_x untaken

  abbrev pub marked : View
  marked = update (cell (sh.buckets + (T i).right)) (2 * ((T i).seen / 2) + 1) m

  abbrev pub next : Worker
  next = with_stage 1 (with_own (T i).right (T i))

  abbrev pub grown : Order K → Ghost K
  grown M = record { hist = g.hist; order = M; what = g.what; said = g.said }

  same_cell : (n : ℕ) → n ≢ (T i).right → marked.cells (sh.buckets + n) ≡ m.cells (sh.buckets + n)
  same_cell n u = upd_other (sh.buckets + (T i).right) (sh.buckets + n) (2 * ((T i).seen / 2) + 1) (m.cells (sh.buckets + n)) (λ e. u (omega arith))

  at_x : marked.cells (sh.buckets + (T i).right) % 2 ≡ 1
  at_x =
      rw (upd_same (sh.buckets + (T i).right) (sh.buckets + (T i).right) (2 * ((T i).seen / 2) + 1) (m.cells (sh.buckets + (T i).right)) refl)
      (omega arith)

  clean_not_x : (n : ℕ) → Clean sh wd marked n → n ≢ (T i).right
  clean_not_x n c e = omega (arith, at_x, ap (λ y. marked.cells (sh.buckets + y) % 2) e)

  module _ (M : Order K) (F : Found g.hist (walks sh wd m ch T) g.order M i x) where
    old : (q : Element K) → Mem q (run [] M) → Mem q (run [] g.order) × ¬ (q ≡ x)
    old q j = without_mem (run [] g.order) x (subst (λ S. Mem q S) F.queue j)

    holds : (b : ℕ) (q : Element K) (n : ℕ) → ¬ (q ≡ x) → Holds sh wd m ch b q n → Holds sh wd marked ch b q n
    holds b q n u h = record { inside = h.inside; clean = rw (same_cell n (not_x q n u h.key)) h.clean; key = h.key }

    orderly : Orderly g.hist (walks sh wd marked ch (with_record T i next)) [] M
    orderly = orderly_shift sh wd m ch marked ch T i next g.hist M (λ j. absurd ((F.scan_out i j).1 refl)) ahead F.inv
      where
        ahead : (v : ℕ) → v ≢ i → Mem (scan v) M → (q : Element K) → Mem q (run [] M) → Ahead sh wd m ch (T v) q → Ahead sh wd marked ch (T v) q
        ahead v u k q j (n, h, inl e) = (n, holds (T v).bucket q n (old q j).1 h, inl e)
        ahead v u k q j (n, h, inr (a, b, rr)) = (
          n,
          holds (T v).bucket q n (old q j).1 h,
          inr (a, b, reach_half sh m.cells marked.cells (marked_half sh m ch (Live sh.workers T) P.lists (T i).right (T i).seen was) rr),
        )

    absent_x : (c : ℕ) → c ≢ (T i).ticket → c ≢ m.ticket (T i).right → Absent c g.order → Absent c M
    absent_x c u v a e j k h = go (F.new e k j)
      where
        go : Mem e g.order ⊎ (e ≡ dequeue x (T i).ticket) ⊎ (e ≡ enqueue x) → ⊥
        go (inl y) = a e y k h
        go (inr (inl y)) = u (sym h ∙ ap ticket_of_lem y)
        go (inr (inr y)) = v (sym h ∙ ap ticket_of_lem y)

    entries : (e : Entry K) → Mem e M → Logged {K = K} g.what e
    entries e j = go e (λ k. F.new e k j)
      where
        pick : (e : Entry K) → Mem e g.order ⊎ (e ≡ dequeue x (T i).ticket) ⊎ (e ≡ enqueue x) → Logged {K = K} g.what e
        pick e (inl k) = O.whole.entries e k
        pick e (inr (inl k)) = subst (λ f. Logged {K = K} g.what f) (sym k) log_c
        pick e (inr (inr k)) = subst (λ f. Logged {K = K} g.what f) (sym k) log_x

        go : (e : Entry K) → (Call e → Mem e g.order ⊎ (e ≡ dequeue x (T i).ticket) ⊎ (e ≡ enqueue x)) → Logged {K = K} g.what e
        go (scan v) h = tt
        go (enqueue y) h = pick (enqueue y) (h tt)
        go (dequeue y c) h = pick (dequeue y c) (h tt)
        go (empty c) h = pick (empty c) (h tt)

    bound : (e : Entry K) → Mem e M → ticket_of_lem e ≤ m.started
    bound e j = go e (λ k. F.new e k j)
      where
        pick : (e : Entry K) → Mem e g.order ⊎ (e ≡ dequeue x (T i).ticket) ⊎ (e ≡ enqueue x) → ticket_of_lem e ≤ m.started
        pick e (inl k) = O.whole.bound e k
        pick e (inr (inl k)) = rw k (P.lists.live (T i).ticket (i, l, busy, refl))
        pick e (inr (inr k)) = rw k (P.bounded (T i).right is_node)

        go : (e : Entry K) → (Call e → Mem e g.order ⊎ (e ≡ dequeue x (T i).ticket) ⊎ (e ≡ enqueue x)) → ticket_of_lem e ≤ m.started
        go (scan v) h = omega arith
        go (enqueue y) h = pick (enqueue y) (h tt)
        go (dequeue y c) h = pick (dequeue y c) (h tt)
        go (empty c) h = pick (empty c) (h tt)

    whole : Whole sh wd marked ch (with_record T i next) (grown M)
    whole = record {
      orderly = orderly;
      distinct = F.distinct;
      from = λ q j. let (y, u) = old q j in let (n, h) = O.whole.from q y in (n, holds (bucket q) q n u h);
      into = λ b n s j c e. let u = clean_not_x n c in
          subst (λ S. Mem (arr sh wd m n) S) (sym F.queue) (mem_without (run [] g.order) x (λ f. u (is_x b n j (ap (λ (a : Element K). a.it) f)))
          (O.whole.into b n s j (rw (same_cell n u) at c) e));
      pending = λ b n j c e. let u = clean_not_x n c in
          absent_x (m.ticket n) (λ f. none-ne-some _ (sym log_c
          ∙ ap g.what (sym f)
          ∙ O.whole.logged n (chain_node b n j) (λ z. omega (arith, O.whole.ticketed b n j))))
          (λ f. u (one_node sh m ch T P n (T i).right (chain_node b n j) is_node (O.whole.ticketed b n j) f))
          (O.whole.pending b n j (rw (same_cell n u) at c) e);
      ticketed = O.whole.ticketed;
      current = λ q j. O.whole.current q (old q j).0;
      past = O.whole.past;
      lates = O.whole.lates;
      epochs = O.whole.epochs;
      future = O.whole.future;
      scans = scans_close sh wd T i next M (λ j. absurd ((F.scan_out i j).1 refl)) (λ v u j. O.whole.scans v (F.scan_out v j).0);
      logged = O.whole.logged;
      entries = entries;
      bound = bound;
      proper = λ e j c. proper e c (F.new e c j);
      finished = λ c s e. let (y, k, z) = O.whole.finished c s e in (F.kept (g.said c) k y, k, z);
      held = λ z c j e. held z c e (F.new (dequeue z c) tt j);
    }
      where
        proper : (e : Entry K) → Call e → Mem e g.order ⊎ (e ≡ dequeue x (T i).ticket) ⊎ (e ≡ enqueue x) → 1 ≤ ticket_of_lem e
        proper e c (inl j) = O.whole.proper e j c
        proper e c (inr (inl f)) = rw f (P.positive i l busy)
        proper e c (inr (inr f)) = rw f pos_x

        mine_now : with_record T i next i ≡ next
        mine_now = upd_same i i next (T i) refl

        held : (z : Element K) (c : ℕ) → g.hist.end c ≡ running → Mem (dequeue z c) g.order ⊎ (dequeue z c ≡ dequeue x (T i).ticket)
            ⊎ (dequeue z c ≡ enqueue x) → (v : ℕ) × (v < sh.workers) × Holder sh wd marked (with_record T i next v) z c
        held z c e (inl j) = held_close sh wd m marked T i next z c (λ h. absurd (omega (arith, h.hi))) (λ v n lv h. h) (O.whole.held z c j e)
        held z c e (inr (inl j)) =
            let f : z ≡ x = cc in
            let h : c ≡ (T i).ticket = cc in (
              i,
              l,
              subst (λ u. Holder sh wd marked u z c) (sym mine_now)
                  (record { isDequeue = kind_1; lo = omega arith; hi = omega arith; bears = sym h; key = ap (λ (a : Element K). a.it) (sym f) }),
            )
        held z c e (inr (inr j)) = absurd (let y : ◌≡◌ {A = ℕ} 0 1 = cc in omega arith)

    others : (v : ℕ) → v ≢ i → v < sh.workers → Part sh wd marked (grown M) v (T v)
    others v u lv = part_left sh wd m marked g (grown M) v (T v) (record {
      ends = λ b. refl;
      what = λ b. refl;
      kept = F.kept;
      absent = absent;
      own = λ b. refl;
      mark = λ a b k. mark k (ℕ_discrete (T v).own (T i).right);
      epoch = λ e c s y z. (y, refl, refl);
      scan = λ a. F.scan_in v u;
      rise = λ a h. h;
    }) (O.parts v lv)
      where
        mark : Marked sh wd marked (T v).own → Dec ((T v).own ≡ (T i).right) → Marked sh wd m (T v).own ⊎ Mem (enqueue (arr sh wd m (T v).own)) M
        mark k (yes e) = inr (subst (λ n. Mem (enqueue (arr sh wd m n)) M) (sym e) F.has_enqueue)
        mark k (no n) = inl (rw (same_cell (T v).own n) at k)

        absent : ((1 ≤ (T v).stage) × ((T v).stage ≤ 5) × ((T v).kind ≡ 0)) ⊎ (8 ≤ (T v).stage) → Absent (T v).ticket g.order
            → Absent (T v).ticket M
        absent h a = absent_x (T v).ticket (P.apart v i lv l u (live h) busy) (other h) a
          where
            live : ((1 ≤ (T v).stage) × ((T v).stage ≤ 5) × ((T v).kind ≡ 0)) ⊎ (8 ≤ (T v).stage) → (T v).stage ≢ 0
            live (inl (b, c, d)) e = omega arith
            live (inr b) e = omega arith

            take_kind : 8 ≤ (T v).stage → ((T v).kind ≡ 0) ⊎ ((T v).kind ≡ 1) → (T v).kind ≡ 1
            take_kind b (inl z) = absurd (omega (arith, (P.knows v lv).enqueues z))
            take_kind b (inr z) = z

            other : ((1 ≤ (T v).stage) × ((T v).stage ≤ 5) × ((T v).kind ≡ 0)) ⊎ (8 ≤ (T v).stage) → (T v).ticket ≢ m.ticket (T i).right
            other (inl (b, c, d)) e =
                let p = ((P.knows v lv).search b c).enqueue_own d c in
                let f : (T i).right ≡ (T v).own = one_node sh m ch T P (T i).right (T v).own is_node p.is_node pos_x (sym e ∙ sym p.ticketed) in
                p.out (T i).bucket (subst (λ (n : ℕ). In n (ch (T i).bucket)) f inside)
            other (inr b) e = none-ne-some _ (sym ((O.parts v lv).dequeuer (live (inr b)) (take_kind b (P.knows v lv).kinds)) ∙ ap g.what e ∙ log_x)

    mine : Part sh wd marked (grown M) i next
    mine = record {
      runs = λ b. part.runs busy;
      dequeuer = λ b k. log_c;
      unlinked = λ a b k. absurd (omega (arith, kind_1));
      walking = λ a. absurd (omega arith);
      linked = λ a b. absurd (omega arith);
      marked_own = λ a b k. F.has_dequeue;
      five = λ e. absurd (omega arith);
      scanned = λ a. absurd (omega arith);
      rises = λ a. absurd (omega arith);
      seven = λ e. absurd (omega arith);
      last = λ e. absurd (omega arith);
    }

    pub after_11 : Ord sh wd marked ch (with_record T i next) (grown M)
    after_11 = record { whole = whole; parts = parts_close sh wd marked T (grown M) i next mine others }
