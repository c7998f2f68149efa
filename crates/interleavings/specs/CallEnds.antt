-- The calls that end: a take's search, an enqueue stored, an empty dequeue. And an update of current.
--     current_moved                   current is written
--     search_ended                    a take's search ends
--     stored_marked, stored_clean     a put is stored: its arrival is taken already; it is not
--     out_of                          past a walk to the end of the bucket nothing is left there
--     emptied                         a take is answered empty
-- Assumes nothing.
use Rattle.std.specs.Prelude.{◌≡◌, refl, ◌≢◌, ◌⊎◌, ℕ, ◌+◌, ◌/◌, ◌%◌, ◌≤◌, ◌<◌}
use Rattle.std.proofs.Common.{sym, ap, ◌∙◌, subst, inl, inr, arith}
use Rattle.std.proofs.Math.Option.{some, none-ne-some, some-injective}
use mathlib.Core.List.Memᴰ.{append_cases as mem-append}
use mathlib.Core.List.Memᴰ.{head as here}
use mathlib.Core.List.Memᴰ.{tail as there}
use mathlib.Core.List.{[], ◌∷◌, ◌++◌, Memᴰ as Mem}
use mathlib.Core.List.Memᴰ.{append_left as mem-left}
use mathlib.Core.List.Memᴰ.{append_right as mem-right}
use Rattle.arrival.specs.declared.Shape.{Shape}
use Rattle.arrival.specs.declared.Worker.{Worker}
use Rattle.arrival.specs.Keys.{item_bucket}
use Rattle.laws.specs.Tests.{upd_same, upd_cases}
use Rattle.calendar.specs.rules.Layout.{word}
use Rattle.calendar.specs.facts.Views.{View, update, item_in}
use Rattle.order.specs.Entries.{Keys, Element, Entry, enqueue, dequeue, empty, scan, Order, ticket, bucket, run, run_append}
use Rattle.order.specs.RealTime.{ended, Hist, ticket_of_lem, pairs_snoc}
use Rattle.order.specs.Scans.{Alike, alike_sym, alike_run, alike_mem, alike_unscan, unscan}
use Rattle.order.specs.OrderAfterMark.{Inv as Orderly, inv_unscan}
use Rattle.order.specs.Appending.{Ends, Past, inv_end, inv_enqueue, inv_empty, unscan_mem, walked_out}
use Rattle.order.specs.Calls.{Call, Apart, scans_unscan}
use Rattle.order.specs.EntriesAfterMark.{alike_distinct, alike_call, scans_in, scans_out}
use Rattle.lists.specs.Chain.{In}
use Rattle.lists.specs.LinkInvariant.{Chains, home, Safe}
use Rattle.lists.specs.AllCalls.{Inv, with_record}
use Rattle.interleavings.specs.ItemKeys.{keys, arr, Holds, Ahead}
use Rattle.interleavings.specs.Joint.{Ghost, Absent, Rises, Marked, Clean, Part, walks, Ord}
use Rattle.interleavings.specs.Nodes.{one_node}
use Rattle.interleavings.specs.ScanChanges.{Tickets, over, ends_over, closed, settled}

-- ── current is written ──
pub current_moved : (sh : Shape) (wd : 0 < sh.width) (m : View) (ch : Chains) (T : ℕ → Worker) (g : Ghost (keys sh wd)) (v : ℕ) → Ord sh wd m ch T g
    → ((q : Element (keys sh wd)) → Mem q (run [] g.order) → v / 4294967296 ≤ bucket q) → m.current % 4294967296 ≤ v % 4294967296
    → ((seen : ℕ) → Rises seen m.current → Rises seen v)
    → Ord sh wd (update (word 0) v m) ch T g
current_moved sh wd m ch T g v O low up rise = record {
  whole = record {
    orderly = O.whole.orderly;
    distinct = O.whole.distinct;
    from = O.whole.from;
    into = O.whole.into;
    pending = O.whole.pending;
    ticketed = O.whole.ticketed;
    current = low;
    past = O.whole.past;
    lates = λ c s e. omega (arith, O.whole.lates c s e);
    epochs = O.whole.epochs;
    future = O.whole.future;
    scans = O.whole.scans;
    logged = O.whole.logged;
    entries = O.whole.entries;
    bound = O.whole.bound;
    proper = O.whole.proper;
    finished = O.whole.finished;
    held = O.whole.held;
  };
  parts = λ j lj. let p = O.parts j lj in
      record {
        runs = p.runs;
        dequeuer = p.dequeuer;
        unlinked = p.unlinked;
        walking = p.walking;
        linked = p.linked;
        marked_own = p.marked_own;
        five = p.five;
        scanned = p.scanned;
        rises = λ a. rise (T j).current (p.rises a);
        seven = p.seven;
        last = p.last;
      };
}

module _ (sh : Shape) (wd : 0 < sh.width) (m : View) (ch : Chains) (T : ℕ → Worker) (g : Ghost (keys sh wd)) (O : Ord sh wd m ch T g) (S : Tickets sh m ch T)
    (i : ℕ) (l : i < sh.workers) (busy : (T i).stage ≢ 0)
    (w' : Worker) (idle : w'.stage ≡ 0) where
  abbrev K : Keys
  K = keys sh wd

  part : Part sh wd m g i (T i)
  part = O.parts i l

  ends : Ends g.hist (over g.hist (T i).ticket m.started (m.current % 4294967296)) (T i).ticket m.started
  ends = ends_over g.hist (T i).ticket m.started (m.current % 4294967296) (part.runs busy)

  calls : (v : ℕ) → Mem (scan v) g.order → (T v).ticket ≤ m.started
  calls v j = let (a, b) = O.whole.scans v j in S.small v a (λ e. omega arith)

  -- no enqueue of the order bears a take's ticket
  no_put : (T i).kind ≡ 1 → (q : Element K) → Mem (enqueue q) g.order → ticket q ≢ (T i).ticket
  no_put k q j e = none-ne-some _ (sym (part.dequeuer busy k) ∙ ap g.what (sym e) ∙ O.whole.entries (enqueue q) j)

  not_node : (T i).kind ≡ 1 → (b n : ℕ) → In n (ch b) → m.ticket n ≢ (T i).ticket
  not_node k b n j e =
      none-ne-some _ (sym (part.dequeuer busy k)
      ∙ ap g.what (sym e)
      ∙ O.whole.logged n (S.member b n j).0 (λ z. omega (arith, O.whole.ticketed b n j)))

  not_scanning : (T i).stage ≤ 8 → (v : ℕ) → Mem (scan v) g.order → v ≢ i
  not_scanning h v j e = omega (arith, (O.whole.scans v j).1, ap (λ u. (T u).stage) e)

  past_over : Past (over g.hist (T i).ticket m.started (m.current % 4294967296)) m.started
  past_over n t =
      upd_cases (λ n d. d ≡ ended t → t ≤ m.started) g.hist.end (T i).ticket (ended m.started) (λ z. let u : m.started ≡ t = cc in omega arith)
      (λ n u z. O.whole.past n t z) n

  -- ── the end of a take's search ──
  pub search_ended : 1 ≤ (T i).stage → (T i).stage ≤ 3 → (T i).kind ≡ 1
      → Ord sh wd m ch (with_record T i w') (closed sh wd m ch T g O S i l busy w' idle g.order (dequeue (arr sh wd m (T i).own) (T i).ticket))
  search_ended a b k =
      settled sh wd m ch T g O S i l busy w' idle g.order (dequeue (arr sh wd m (T i).own) (T i).ticket) tt refl (part.dequeuer busy k)
      (part.marked_own a b k)
      (λ e c j. j) (λ e c j. inl j) (λ v u j. j) (λ v j. (j, not_scanning (omega arith) v j))
      (inv_end ends O.whole.past (walks sh wd m ch T) [] g.order O.whole.bound calls (λ v q j y e. absurd (no_put k q y e)) O.whole.orderly)
      O.whole.distinct O.whole.from (λ c n j y e. absurd (not_node k c n j e)) (λ q j. j) O.whole.current

  -- ── an enqueue is stored ──
  module _ (P : Inv sh m ch T) (a : 6 ≤ (T i).stage) (b : (T i).stage ≤ 7)
      (low : m.current / 4294967296 ≤ (T i).bucket)
      (seen : (v : ℕ) → Mem (scan v) g.order → (T i).bucket ≤ (T v).bucket → (T v).current % 4294967296 < m.current % 4294967296) where
    abbrev y : Element (keys sh wd)
    y = arr sh wd m (T i).own

    is_node : (T i).own < sh.nodes
    is_node = ((P.knows i l).linked a b).node.is_node

    at_home : home sh m (T i).own ≡ (T i).bucket
    at_home = ((P.knows i l).linked a b).node.at_home

    bears : m.ticket (T i).own ≡ (T i).ticket
    bears = ((P.knows i l).linked a b).ticketed

    pos : 1 ≤ m.ticket (T i).own
    pos = omega (arith, bears, S.positive i l busy)

    log : g.what (m.ticket (T i).own) ≡ some (item_in m (T i).own)
    log = O.whole.logged (T i).own is_node (λ e. omega (arith, pos))

    -- its late epoch, for an enqueue of its ticket in the order
    fresh : (v : ℕ) (q : Element K) → Mem (scan v) g.order → Mem (enqueue q) g.order → ticket q ≡ (T i).ticket → bucket q ≤ (T v).bucket
        → (T v).current % 4294967296 < (over g.hist (T i).ticket m.started (m.current % 4294967296)).late (T i).ticket
    fresh v q j k e h =
        let same : q.it ≡ item_in m (T i).own = some-injective _ _ (sym (O.whole.entries (enqueue q) k) ∙ ap g.what (e ∙ sym bears) ∙ log) in
        let f : bucket q ≡ (T i).bucket = ap (item_bucket sh) same ∙ at_home in
        omega (arith, seen v j (omega arith), upd_same (T i).ticket (T i).ticket (m.current % 4294967296) (g.hist.late (T i).ticket) refl)

    is_own : (c n : ℕ) → In n (ch c) → m.ticket n ≡ (T i).ticket → n ≡ (T i).own
    is_own c n j e = one_node sh m ch T P n (T i).own (S.member c n j).0 is_node (O.whole.ticketed c n j) (e ∙ sym bears)

    ended_now : Orderly (over g.hist (T i).ticket m.started (m.current % 4294967296)) (walks sh wd m ch T) [] g.order
    ended_now = inv_end ends O.whole.past (walks sh wd m ch T) [] g.order O.whole.bound calls fresh O.whole.orderly

    -- its arrival has been taken: its entry is in the order
    pub stored_marked : Marked sh wd m (T i).own → Ord sh wd m ch (with_record T i w') (closed sh wd m ch T g O S i l busy w' idle g.order (enqueue y))
    stored_marked k =
        settled sh wd m ch T g O S i l busy w' idle g.order (enqueue y) tt bears log (part.linked a b k)
        (λ e c j. j) (λ e c j. inl j) (λ v u j. j) (λ v j. (j, not_scanning (omega arith) v j)) ended_now
        O.whole.distinct O.whole.from (λ c n j h e. absurd (omega (arith, k, ap (λ u. m.cells (sh.buckets + u) % 2) (is_own c n j e)))) (λ q j. j)
        O.whole.current

    inside : Clean sh wd m (T i).own → In (T i).own (ch (T i).bucket)
    inside k = go ((P.knows i l).linked a b).node.safe
      where
        go : Safe sh m ch (T i).ticket (T i).own → In (T i).own (ch (T i).bucket)
        go (inl j) = subst (λ c. In (T i).own (ch c)) at_home j
        go (inr (c, s, h)) = absurd (omega (arith, (P.lists.retired (T i).own c is_node s).0))

    mem_snoc : (L : Order K) (e f : Entry K) → Mem e L ⊎ Mem e (f ∷ []) → Mem e L ⊎ (e ≡ f)
    mem_snoc L e f (inl j) = inl j
    mem_snoc L e f (inr (here h)) = inr h
    mem_snoc L e f (inr (there m)) = elim m [ ]

    -- it has not: its entry is set to the end
    pub stored_clean : Clean sh wd m (T i).own
        → Ord sh wd m ch (with_record T i w') (closed sh wd m ch T g O S i l busy w' idle (g.order ++ enqueue y ∷ []) (enqueue y))
    stored_clean k =
        let H' : Hist = over g.hist (T i).ticket m.started (m.current % 4294967296) in
        let gone : Absent (T i).ticket g.order = subst (λ c. Absent c g.order) bears
        (O.whole.pending (T i).bucket (T i).own (inside k) k (ap g.hist.end bears ∙ part.runs busy)) in
        let run-y : run [] (g.order ++ enqueue y ∷ []) ≡ y ∷ run [] g.order = run_append [] g.order (enqueue y ∷ []) in
        let over-y : H'.end (ticket y)
        ≡ ended m.started = upd_same (T i).ticket (m.ticket (T i).own) (ended m.started) (g.hist.end (m.ticket (T i).own)) (sym bears) in
        let late-y : H'.late (ticket y) ≡ m.current % 4294967296 = upd_same (T i).ticket (m.ticket (T i).own) (m.current % 4294967296)
        (g.hist.late (m.ticket (T i).own)) (sym bears) in
        settled sh wd m ch T g O S i l busy w' idle (g.order ++ enqueue y ∷ []) (enqueue y) tt bears log (mem-right g.order (here refl))
        (λ e c j. mem-left (enqueue y ∷ []) j) (λ e c j. mem_snoc g.order e (enqueue y) (mem-append g.order j)) (λ v u j. mem-left (enqueue y ∷ []) j)
        (λ v j. let h = scan_old v (mem-append g.order j) in (h, not_scanning (omega arith) v h))
        (inv_enqueue H' (walks sh wd m ch T) [] g.order m.started past_over O.whole.bound calls ended_now y over-y
        (λ v j h. rw late-y (seen v j (omega (arith, at_home)))))
        (pairs_snoc Apart g.order (enqueue y) (λ e j c d f. gone e j c (f ∙ bears)) O.whole.distinct)
        (λ q j. from' q (subst (λ R. Mem q R) run-y j))
        (λ c n j h e. subst (λ R. Mem (arr sh wd m n) R) (sym run-y) (here (ap (arr sh wd m) (is_own c n j e))))
        (λ q j. subst (λ R. Mem q R) (sym run-y) (there j))
        (λ q j. current' q (subst (λ R. Mem q R) run-y j))
      where
        scan_old : (v : ℕ) → Mem (scan v) g.order ⊎ Mem {A = Entry K} (scan v) (enqueue y ∷ []) → Mem (scan v) g.order
        scan_old v (inl j) = j
        scan_old v (inr (here e)) = absurd (let z : ◌≡◌ {A = ℕ} 0 1 = cc in omega arith)
        scan_old v (inr (there m)) = elim m [ ]

        from' : (q : Element K) → Mem q (y ∷ run [] g.order) → (n : ℕ) × Holds sh wd m ch (bucket q) q n
        from' q (here e) = ((T i).own, record { inside = rw (e, at_home) (inside k); clean = k; key = ap (λ (z : Element K). z.it) (sym e) })
        from' q (there j) = O.whole.from q j

        current' : (q : Element K) → Mem q (y ∷ run [] g.order) → m.current / 4294967296 ≤ bucket q
        current' q (here e) = rw (e, at_home) low
        current' q (there j) = O.whole.current q j

  -- ── a dequeue that has walked to the end of its bucket, current being as it saw it (12, 13) ──
  pub out_of : 12 ≤ (T i).stage → m.current % 4294967296 ≡ (T i).current % 4294967296 → (q : Element (keys sh wd)) → Mem q (run [] g.order)
      → (T i).bucket < bucket q
  out_of a e =
      walked_out g.hist (walks sh wd m ch T) [] g.order i O.whole.orderly (part.scanned (omega arith)) (λ q h. none h)
      (λ q t j f. omega (arith, O.whole.lates (ticket q) t f))
    where
      none : {q : Element K} → Ahead sh wd m ch (T i) q → ⊥
      none (n, h, inl f) = omega arith
      none (n, h, inr (b, c, r)) = omega arith

  -- ── an empty dequeue ──
  pub emptied : (T i).stage ≡ 13 → (T i).kind ≡ 1 → m.current % 4294967296 ≡ (T i).current % 4294967296
      → Ord sh wd m ch (with_record T i w') (closed sh wd m ch T g O S i l busy w' idle (unscan g.order i ++ empty (T i).ticket ∷ [])
      (empty (T i).ticket))
  emptied a k e =
      let L : Order K = unscan g.order i in
      let al : Alike g.order L = alike_unscan g.order i in
      let H' : Hist = over g.hist (T i).ticket m.started (m.current % 4294967296) in
      let bound : (f : Entry K) → Mem f L → ticket_of_lem f ≤ m.started = λ f j. small f (alike_mem al f j) in
      let calls' : (v : ℕ) → Mem (scan v) L → (T v).ticket ≤ m.started = λ v j. calls v (scan_old v j) in
      let same : run [] g.order ≡ run [] L = alike_run [] al in
      let empties : run [] (L ++ empty (T i).ticket ∷ []) ≡ run [] L = run_append [] L (empty (T i).ticket ∷ []) in
      settled sh wd m ch T g O S i l busy w' idle (L ++ empty (T i).ticket ∷ []) (empty (T i).ticket) tt refl (part.dequeuer busy k)
      (mem-right L (here refl))
      (λ f c j. mem-left (empty (T i).ticket ∷ []) (alike_call al f c j)) (λ f c j. new f c (mem-append L j))
      (λ v u j. mem-left (empty (T i).ticket ∷ []) (scans_out v L (omega (arith, scans_unscan v i g.order u, scans_in v g.order j))))
      (λ v j. let h = scan_new v (mem-append L j) in (scan_old v h, unscan_mem g.order i v h))
      (inv_empty H' (walks sh wd m ch T) [] L m.started past_over bound calls'
      (inv_end ends O.whole.past (walks sh wd m ch T) [] L bound calls' (λ v q j y f. absurd (no_put k q (alike_call (alike_sym al) (enqueue q) tt y) f))
      (inv_unscan g.hist (walks sh wd m ch T) [] g.order i O.whole.orderly))
      (T i).ticket ends.over (λ q j. nothing q (subst (λ R. Mem q R) (sym same) j)))
      (pairs_snoc Apart L (empty (T i).ticket) (λ f j c d h. part.walking (omega arith) f (alike_call (alike_sym al) f c j) c h)
      (alike_distinct al O.whole.distinct))
      (λ q j. absurd (nothing q (subst (λ R. Mem q R) (empties ∙ sym same) j)))
      (λ c n j h f. absurd (not_node k c n j f))
      (λ q j. absurd (nothing q j))
      (λ q j. absurd (nothing q (subst (λ R. Mem q R) (empties ∙ sym same) j)))
    where
      nothing : (q : Element K) → ¬ Mem q (run [] g.order)
      nothing q j = let (n, h) = O.whole.from q j in omega (arith, out_of (omega arith) e q j, part.last a, (S.member (bucket q) n h.inside).2)

      small : (f : Entry K) → Mem f g.order ⊎ ((v : ℕ) × (f ≡ scan v)) → ticket_of_lem f ≤ m.started
      small f (inl j) = O.whole.bound f j
      small f (inr (v, h)) = rw h (omega arith)

      scan_old : (v : ℕ) → Mem (scan v) (unscan g.order i) → Mem (scan v) g.order
      scan_old v j = scans_out v g.order (omega (arith, scans_unscan v i g.order (unscan_mem g.order i v j), scans_in v (unscan g.order i) j))

      scan_new : (v : ℕ) → Mem (scan v) (unscan g.order i) ⊎ Mem {A = Entry K} (scan v) (empty (T i).ticket ∷ []) → Mem (scan v) (unscan g.order i)
      scan_new v (inl j) = j
      scan_new v (inr (here f)) = absurd (let z : ◌≡◌ {A = ℕ} 0 1 = cc in omega arith)
      scan_new v (inr (there m)) = elim m [ ]

      new : (f : Entry K) → Call f → Mem f (unscan g.order i) ⊎ Mem f (empty (T i).ticket ∷ []) → Mem f g.order ⊎ (f ≡ empty (T i).ticket)
      new f c (inl j) = inl (alike_call (alike_sym (alike_unscan g.order i)) f c j)
      new f c (inr (here h)) = inr h
      new f c (inr (there m)) = elim m [ ]
