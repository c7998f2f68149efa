-- Changes of the order that leave the store: scans set and removed, calls that end.
--     Tickets, tickets_of_lem            the tickets of calls and of nodes
--     ordered, restyle               another order; where only scans differ
--     quiet                          only a record changes
--     unscanned, rescanned           a scan is removed; is set to the end
--     over, ends_over, ended_inj     a call ends
--     closed, settled                the account then, and the invariant
-- Assumes nothing.
use Rattle.std.specs.Prelude.{◌≡◌, refl, cond, ◌≢◌, ◌⊎◌, ℕ, ◌/◌, ◌%◌, ◌≤◌, ◌<◌, eqb}
use Rattle.std.proofs.Common.{sym, ap, ◌∙◌, subst, inl, inr, arith}
use mathlib.Core.List.Memᴰ.{append_cases as mem-append}
use mathlib.Core.List.Memᴰ.{append_left as mem-left}
use mathlib.Core.List.Memᴰ.{head as here}
use mathlib.Core.List.Memᴰ.{tail as there}
use mathlib.Core.List.{[], ◌∷◌, ◌++◌, append-nil, Memᴰ as Mem}
use Rattle.std.proofs.Math.Decide.{ℕ_discrete}
use Rattle.arrival.specs.declared.Shape.{Shape}
use Rattle.arrival.specs.declared.Worker.{Worker}
use Rattle.laws.specs.Tests.{upd_same, upd_other, upd_cases}
use Rattle.calendar.specs.facts.Views.{View}
use Rattle.order.specs.Entries.{Keys, Element, Entry, enqueue, dequeue, empty, scan, Order, bucket, run}
use Rattle.order.specs.RealTime.{running, ended, Hist, ticket_of_lem}
use Rattle.order.specs.Scans.{Alike, nil, right, alike_append, alike_refl, alike_sym, alike_run, alike_mem, alike_unscan, unscan, running_ended}
use Rattle.order.specs.OrderAfterMark.{Inv as Orderly, inv_unscan}
use Rattle.order.specs.Appending.{Ends, inv_scan, unscan_mem}
use Rattle.order.specs.Calls.{Call, Distinct, scans_unscan}
use Rattle.order.specs.EntriesAfterMark.{alike_distinct, alike_call, scans_in, scans_out}
use Rattle.lists.specs.Chain.{In}
use Rattle.lists.specs.LinkInvariant.{Chains, home}
use Rattle.lists.specs.AllCalls.{Rest, with_record}
use Rattle.interleavings.specs.ItemKeys.{keys, arr, Holds, Ahead, walk}
use Rattle.interleavings.specs.Joint.{Holder, held_close, Ghost, Absent, Logged, Clean, Part, walks, Ord, part_left, orderly_shift, parts_close}
use Rattle.interleavings.specs.Joint.{scans_close}

-- the tickets of the calls in progress and of the nodes
abbrev pub Tickets : Shape → View → Chains → (ℕ → Worker) → Type 0
Tickets sh m ch T = record {
  small : (v : ℕ) → v < sh.workers → (T v).stage ≢ 0 → (T v).ticket ≤ m.started;
  apart : (i j : ℕ) → i < sh.workers → j < sh.workers → i ≢ j → (T i).stage ≢ 0 → (T j).stage ≢ 0 → (T i).ticket ≢ (T j).ticket;
  positive : (v : ℕ) → v < sh.workers → (T v).stage ≢ 0 → 1 ≤ (T v).ticket;
  bounded : (n : ℕ) → n < sh.nodes → m.ticket n ≤ m.started;
  unique : (a b : ℕ) → a < sh.nodes → b < sh.nodes → a ≢ b → m.ticket a ≡ m.ticket b → m.ticket a ≡ 0;
  member : (b n : ℕ) → In n (ch b) → (n < sh.nodes) × (home sh m n ≡ b) × (b < sh.buckets);
}

pub tickets_of_lem : (sh : Shape) (m : View) (ch : Chains) (T : ℕ → Worker) (i : ℕ) → Rest sh m ch T i → Tickets sh m ch T
tickets_of_lem sh m ch T i P = record {
  small = λ v l b. P.lists.live (T v).ticket (v, l, b, refl);
  apart = P.apart;
  positive = P.positive;
  bounded = P.bounded;
  unique = P.unique;
  member = λ b n j. let x = P.lists.member b n j in (x.is_node, x.at_home, x.in_range);
}

module _ (sh : Shape) (wd : 0 < sh.width) (m : View) (ch : Chains) (T : ℕ → Worker) (g : Ghost (keys sh wd)) (O : Ord sh wd m ch T g) (i : ℕ) (w' : Worker)
    (hold : (z : Element (keys sh wd)) (c : ℕ) → Holder sh wd m (T i) z c → Holder sh wd m w' z c) where
  abbrev K : Keys
  K = keys sh wd

  abbrev pub ordered : Order (keys sh wd) → Ghost (keys sh wd)
  ordered L = record { hist = g.hist; order = L; what = g.what; said = g.said }

  -- ── scans only ──
  module _ (L : Order (keys sh wd)) (a : Alike g.order L) (scan_in : (v : ℕ) → v ≢ i → Mem (scan v) g.order → Mem (scan v) L)
      (scan_out : (v : ℕ) → v ≢ i → Mem (scan v) L → Mem (scan v) g.order) where
    same_run : run [] g.order ≡ run [] L
    same_run = alike_run [] a

    old : (q : Element K) → Mem q (run [] L) → Mem q (run [] g.order)
    old q j = subst (λ S. Mem q S) (sym same_run) j

    absent_alike : (c : ℕ) → Absent c g.order → Absent c L
    absent_alike c h e j k = h e (alike_call (alike_sym a) e k j) k

    any_alike : (Z : Entry K → Type 0) → ((v : ℕ) → Z (scan v)) → ((e : Entry K) → Mem e g.order → Z e) → (e : Entry K) → Mem e L → Z e
    any_alike Z s h e j = go (alike_mem a e j)
      where
        go : Mem e g.order ⊎ ((v : ℕ) × (e ≡ scan v)) → Z e
        go (inl k) = h e k
        go (inr (v, f)) = subst Z (sym f) (s v)

    pub restyle : Orderly g.hist (walks sh wd m ch (with_record T i w')) [] L → (Mem (scan i) L → (i < sh.workers) × (9 ≤ w'.stage))
        → Part sh wd m (ordered L) i w' → Ord sh wd m ch (with_record T i w') (ordered L)
    restyle I mine p = record {
      whole = record {
        orderly = I;
        distinct = alike_distinct a O.whole.distinct;
        from = λ q j. O.whole.from q (old q j);
        into = λ b n s j c e. subst (λ S. Mem (arr sh wd m n) S) same_run (O.whole.into b n s j c e);
        pending = λ b n j c e. absent_alike (m.ticket n) (O.whole.pending b n j c e);
        ticketed = O.whole.ticketed;
        current = λ q j. O.whole.current q (old q j);
        past = O.whole.past;
        lates = O.whole.lates;
        epochs = O.whole.epochs;
        future = O.whole.future;
        scans = scans_close sh wd T i w' L mine (λ v u j. O.whole.scans v (scan_out v u j));
        logged = O.whole.logged;
        entries = any_alike (λ e. Logged {K = K} g.what e) (λ v. tt) O.whole.entries;
        bound = any_alike (λ e. ticket_of_lem e ≤ m.started) (λ v. omega arith) O.whole.bound;
        proper = λ e j c. O.whole.proper e (alike_call (alike_sym a) e c j) c;
        finished = λ c s e. let (y, k, z) = O.whole.finished c s e in (alike_call a (g.said c) k y, k, z);
        held = λ z c j e. held_close sh wd m m T i w' z c (hold z c) (λ v u lv h. h) (O.whole.held z c (alike_call (alike_sym a) (dequeue z c) tt j) e);
      };
      parts = parts_close sh wd m T (ordered L) i w' p (λ v u lv. part_left sh wd m m g (ordered L) v (T v) (record {
        ends = λ b. refl;
        what = λ b. refl;
        kept = λ e k j. alike_call a e k j;
        absent = λ h. absent_alike (T v).ticket;
        own = λ b. refl;
        mark = λ b c k. inl k;
        epoch = λ e c s y z. (y, refl, refl);
        scan = λ b. scan_in v u;
        rise = λ b h. h;
      }) (O.parts v lv));
    }

  -- ── record i changes only ──
  pub quiet : (Mem (scan i) g.order → (9 ≤ w'.stage) × (w'.ticket ≡ (T i).ticket) × (w'.bucket ≡ (T i).bucket) × (w'.current ≡ (T i).current)
      × ((q : Element (keys sh wd)) → Mem q (run [] g.order) → Ahead sh wd m ch (T i) q → Ahead sh wd m ch w' q))
      → Part sh wd m g i w' → Ord sh wd m ch (with_record T i w') (ordered g.order)
  quiet mine p = restyle g.order (alike_refl g.order) (λ v u j. j) (λ v u j. j)
      (orderly_shift sh wd m ch m ch T i w' g.hist g.order (λ j. let h = mine j in (h.1, h.2, ap (λ x. x % 4294967296) h.3, h.4)) (λ v u j q k h. h)
      O.whole.orderly)
      (λ j. ((O.whole.scans i j).0, (mine j).0)) p

  -- ── w's scan is removed ──
  pub unscanned : Part sh wd m (ordered (unscan g.order i)) i w' → Ord sh wd m ch (with_record T i w') (ordered (unscan g.order i))
  unscanned p =
      let L : Order K = unscan g.order i in
      restyle L (alike_unscan g.order i) (λ v u j. scans_out v L (omega (arith, scans_unscan v i g.order u, scans_in v g.order j)))
      (λ v u j. scans_out v g.order (omega (arith, scans_unscan v i g.order u, scans_in v L j)))
      (orderly_shift sh wd m ch m ch T i w' g.hist L (λ j. absurd (unscan_mem g.order i i j refl)) (λ v u j q k h. h) (inv_unscan g.hist
      (walks sh wd m ch T) [] g.order i O.whole.orderly))
      (λ j. absurd (unscan_mem g.order i i j refl)) p

  -- ── w's scan is set to the end (8; 12, success) ──
  pub rescanned : i < sh.workers → w'.stage ≡ 9 → w'.bucket ≡ m.current / 4294967296 → Part sh wd m (ordered (unscan g.order i ++ scan i ∷ [])) i w'
      → Ord sh wd m ch (with_record T i w') (ordered (unscan g.order i ++ scan i ∷ []))
  rescanned l nine low p =
      let L : Order K = unscan g.order i ++ scan i ∷ [] in
      restyle L (subst (λ M. Alike M L) (append-nil g.order) (alike_append (alike_unscan g.order i) (right nil)))
      (λ v u j. mem-left (scan i ∷ []) (scans_out v (unscan g.order i) (omega (arith, scans_unscan v i g.order u, scans_in v g.order j))))
      (λ v u j. out v u (mem-append (unscan g.order i) j))
      (inv_scan g.hist (walks sh wd m ch T) (walks sh wd m ch (with_record T i w')) [] g.order i O.whole.orderly
      (λ v u. ap (walk sh wd m ch) (upd_other i v w' (T v) (λ e. u (sym e))))
      (λ q j. subst (λ u. (walk sh wd m ch u).floor ≤ bucket q) (sym here_now) (rw low (O.whole.current q j)))
      (λ q j. subst (λ u. bucket q ≡ (walk sh wd m ch u).floor → (walk sh wd m ch u).Ahead q) (sym here_now) (λ e. let (n, h) = O.whole.from q j in
      (n, subst (λ b. Holds sh wd m ch b q n) e h, inl nine))))
      (λ j. (l, omega arith)) p
    where
      here_now : with_record T i w' i ≡ w'
      here_now = upd_same i i w' (T i) refl

      out : (v : ℕ) → v ≢ i → Mem (scan v) (unscan g.order i) ⊎ Mem {A = Entry K} (scan v) (scan i ∷ []) → Mem (scan v) g.order
      out v u (inl j) = scans_out v g.order (omega (arith, scans_unscan v i g.order u, scans_in v (unscan g.order i) j))
      out v u (inr (here e)) = absurd (u (let z : v ≡ i = cc in z))
      out v u (inr (there m)) = elim m [ ]

-- ── a call ends ──
abbrev pub over : Hist → ℕ → ℕ → ℕ → Hist
over H c s e = record { end = λ n. cond (eqb c n) (ended s) (H.end n); late = λ n. cond (eqb c n) e (H.late n) }

pub ends_over : (H : Hist) (c s e : ℕ) → H.end c ≡ running → Ends H (over H c s e) c s
ends_over H c s e r =
    record {
      ran = r;
      over = upd_same c c (ended s) (H.end c) refl;
      other_end = λ n u. upd_other c n (ended s) (H.end n) (λ f. u (sym f));
      other_late = λ n u. upd_other c n e (H.late n) (λ f. u (sym f));
    }

pub ended_inj : (s t : ℕ) → ended s ≡ ended t → s ≡ t
ended_inj s t e = let z : s ≡ t = cc in z

module _ (sh : Shape) (wd : 0 < sh.width) (m : View) (ch : Chains) (T : ℕ → Worker) (g : Ghost (keys sh wd)) (O : Ord sh wd m ch T g) (S : Tickets sh m ch T)
    (i : ℕ) (l : i < sh.workers) (busy : (T i).stage ≢ 0)
    (w' : Worker) (idle : w'.stage ≡ 0) (L : Order (keys sh wd)) (ent : Entry (keys sh wd)) where
  abbrev pub closed : Ghost (keys sh wd)
  closed =
      record {
        hist = over g.hist (T i).ticket m.started (m.current % 4294967296);
        order = L;
        what = g.what;
        said = λ n. cond (eqb (T i).ticket n) ent (g.said n);
      }

  -- what is over now: this call, or what was over
  was_over : (n s : ℕ) → closed.hist.end n ≡ ended s → ((n ≡ (T i).ticket) × (s ≡ m.started)) ⊎ ((n ≢ (T i).ticket) × (g.hist.end n ≡ ended s))
  was_over n s =
      upd_cases (λ n d. d ≡ ended s → ((n ≡ (T i).ticket) × (s ≡ m.started)) ⊎ ((n ≢ (T i).ticket) × (g.hist.end n ≡ ended s))) g.hist.end
      (T i).ticket (ended m.started)
      (λ e. inl (refl, sym (ended_inj m.started s e))) (λ n u e. inr (u, e)) n

  late_other : (n : ℕ) → n ≢ (T i).ticket → closed.hist.late n ≡ g.hist.late n
  late_other n u = upd_other (T i).ticket n (m.current % 4294967296) (g.hist.late n) (λ e. u (sym e))

  late_here : (n : ℕ) → n ≡ (T i).ticket → closed.hist.late n ≡ m.current % 4294967296
  late_here n e = upd_same (T i).ticket n (m.current % 4294967296) (g.hist.late n) (sym e)

  module _ (call : Call ent) (ticketed : ticket_of_lem ent ≡ (T i).ticket) (log : Logged {K = keys sh wd} g.what ent) (there-now : Mem ent L)
      (kept : (e : Entry (keys sh wd)) → Call e → Mem e g.order → Mem e L) (new : (e : Entry (keys sh wd)) → Call e → Mem e L → Mem e g.order ⊎ (e ≡ ent))
      (scan_in : (v : ℕ) → v ≢ i → Mem (scan v) g.order → Mem (scan v) L) (scan_out : (v : ℕ) → Mem (scan v) L → Mem (scan v) g.order × (v ≢ i))
      (orderly : Orderly closed.hist (walks sh wd m ch T) [] L) (distinct : Distinct L)
      (from : (q : Element (keys sh wd)) → Mem q (run [] L) → (n : ℕ) × Holds sh wd m ch (bucket q) q n)
      (into : (b n : ℕ) → In n (ch b) → Clean sh wd m n → m.ticket n ≡ (T i).ticket → Mem (arr sh wd m n) (run [] L))
      (grow : (q : Element (keys sh wd)) → Mem q (run [] g.order) → Mem q (run [] L))
      (current : (q : Element (keys sh wd)) → Mem q (run [] L) → m.current / 4294967296 ≤ bucket q) where
    absent : (c : ℕ) → c ≢ (T i).ticket → Absent c g.order → Absent c L
    absent c u h e j k f = go (new e k j)
      where
        go : Mem e g.order ⊎ (e ≡ ent) → ⊥
        go (inl y) = h e y k f
        go (inr y) = u (sym f ∙ ap ticket_of_lem y ∙ ticketed)

    any : (Z : Entry (keys sh wd) → Type 0) → ((v : ℕ) → Z (scan v)) → Z ent → ((e : Entry (keys sh wd)) → Mem e g.order → Z e) → (e : Entry (keys sh wd))
        → Mem e L → Z e
    any Z s z h e j = go e (λ k. new e k j)
      where
        pick : (e : Entry (keys sh wd)) → Mem e g.order ⊎ (e ≡ ent) → Z e
        pick e (inl y) = h e y
        pick e (inr y) = subst Z (sym y) z

        go : (e : Entry (keys sh wd)) → (Call e → Mem e g.order ⊎ (e ≡ ent)) → Z e
        go (scan v) k = s v
        go (enqueue y) k = pick (enqueue y) (k tt)
        go (dequeue y c) k = pick (dequeue y c) (k tt)
        go (empty c) k = pick (empty c) (k tt)

    small : (T i).ticket ≤ m.started
    small = S.small i l busy

    pub settled : Ord sh wd m ch (with_record T i w') closed
    settled = record {
      whole = record {
        orderly = orderly_shift sh wd m ch m ch T i w' closed.hist L (λ j. absurd ((scan_out i j).1 refl)) (λ v u j q k h. h) orderly;
        distinct = distinct;
        from = from;
        into = λ b n s j c e. into' b n s j c (was_over (m.ticket n) s e);
        pending = λ b n j c e. pending b n j c e (ℕ_discrete (m.ticket n) (T i).ticket);
        ticketed = O.whole.ticketed;
        current = current;
        past = λ c s e. past c s (was_over c s e);
        lates = λ c s e. lates c s (was_over c s e);
        epochs = λ b n c s j e h. epochs b n c s j h (was_over c s e);
        future = λ c h. upd_other (T i).ticket c (ended m.started) (g.hist.end c) (λ e. omega (arith, small)) ∙ O.whole.future c h;
        scans = scans_close sh wd T i w' L (λ j. absurd ((scan_out i j).1 refl)) (λ v u j. O.whole.scans v (scan_out v j).0);
        logged = O.whole.logged;
        entries = any (λ e. Logged {K = keys sh wd} g.what e) (λ v. tt) log O.whole.entries;
        bound = any (λ e. ticket_of_lem e ≤ m.started) (λ v. omega arith) (rw ticketed small) O.whole.bound;
        proper = λ e j c. proper e c (new e c j);
        finished = λ c s e. finished c s (was_over c s e);
        held = λ z c j e. held z c e (new (dequeue z c) tt j) (ℕ_discrete c (T i).ticket);
      };
      parts = parts_close sh wd m T closed i w' mine others;
    }
      where
        into' : (b n s : ℕ) → In n (ch b) → Clean sh wd m n → ((m.ticket n ≡ (T i).ticket) × (s ≡ m.started)) ⊎ ((m.ticket n ≢ (T i).ticket)
            × (g.hist.end (m.ticket n) ≡ ended s)) → Mem (arr sh wd m n) (run [] L)
        into' b n s j c (inl (e, f)) = into b n j c e
        into' b n s j c (inr (u, e)) = grow (arr sh wd m n) (O.whole.into b n s j c e)

        pending : (b n : ℕ) → In n (ch b) → Clean sh wd m n → closed.hist.end (m.ticket n) ≡ running → Dec (m.ticket n ≡ (T i).ticket)
            → Absent (m.ticket n) L
        pending b n j c e (yes f) =
            absurd (running_ended m.started (sym e ∙ upd_same (T i).ticket (m.ticket n) (ended m.started) (g.hist.end (m.ticket n)) (sym f)))
        pending b n j c e (no u) =
            absent (m.ticket n) u (O.whole.pending b n j c (sym (upd_other (T i).ticket (m.ticket n) (ended m.started) (g.hist.end (m.ticket n))
            (λ f. u (sym f)))
            ∙ e))

        past : (c s : ℕ) → ((c ≡ (T i).ticket) × (s ≡ m.started)) ⊎ ((c ≢ (T i).ticket) × (g.hist.end c ≡ ended s)) → s ≤ m.started
        past c s (inl (e, f)) = omega arith
        past c s (inr (u, e)) = O.whole.past c s e

        lates : (c s : ℕ) → ((c ≡ (T i).ticket) × (s ≡ m.started)) ⊎ ((c ≢ (T i).ticket) × (g.hist.end c ≡ ended s))
            → closed.hist.late c ≤ m.current % 4294967296
        lates c s (inl (e, f)) = omega (arith, late_here c e)
        lates c s (inr (u, e)) = omega (arith, late_other c u, O.whole.lates c s e)

        epochs : (b n c s : ℕ) → In n (ch b) → s < m.ticket n → ((c ≡ (T i).ticket) × (s ≡ m.started)) ⊎ ((c ≢ (T i).ticket) × (g.hist.end c ≡ ended s))
            → closed.hist.late c ≤ m.epoch n
        epochs b n c s j h (inl (e, f)) = absurd (omega (arith, S.bounded n (S.member b n j).0))
        epochs b n c s j h (inr (u, e)) = omega (arith, late_other c u, O.whole.epochs b n c s j e h)

        finished : (c s : ℕ) → ((c ≡ (T i).ticket) × (s ≡ m.started)) ⊎ ((c ≢ (T i).ticket) × (g.hist.end c ≡ ended s))
            → Mem (closed.said c) L × Call (closed.said c) × (ticket_of_lem (closed.said c) ≡ c)
        finished c s (inl (e, f)) = rw (upd_same (T i).ticket c ent (g.said c) (sym e)) (there-now, call, ticketed ∙ sym e)
        finished c s (inr (u, e)) =
            let (y, k, z) = O.whole.finished c s e in rw (upd_other (T i).ticket c ent (g.said c) (λ f. u (sym f))) (kept (g.said c) k y, k, z)

        held : (z : Element (keys sh wd)) (c : ℕ) → closed.hist.end c ≡ running → Mem (dequeue z c) g.order ⊎ (dequeue z c ≡ ent) → Dec (c ≡ (T i).ticket)
            → (v : ℕ) × (v < sh.workers) × Holder sh wd m (with_record T i w' v) z c
        held z c e j (yes f) = absurd (running_ended m.started (sym e ∙ upd_same (T i).ticket c (ended m.started) (g.hist.end c) (sym f)))
        held z c e (inr j) (no u) = absurd (u (ap ticket_of_lem j ∙ ticketed))
        held z c e (inl j) (no u) =
            held_close sh wd m m T i w' z c (λ h. absurd (u (sym h.bears))) (λ v n lv h. h)
            (O.whole.held z c j (sym (upd_other (T i).ticket c (ended m.started) (g.hist.end c) (λ f. u (sym f)))
            ∙ e))

        proper : (e : Entry (keys sh wd)) → Call e → Mem e g.order ⊎ (e ≡ ent) → 1 ≤ ticket_of_lem e
        proper e c (inl j) = O.whole.proper e j c
        proper e c (inr f) = rw (f, ticketed) (S.positive i l busy)

        mine : Part sh wd m closed i w'
        mine = record {
          runs = λ b. absurd (b idle);
          dequeuer = λ b. absurd (b idle);
          unlinked = λ a b k. absurd (omega arith);
          walking = λ a. absurd (omega arith);
          linked = λ a b. absurd (omega arith);
          marked_own = λ a b k. absurd (omega arith);
          five = λ e. absurd (omega arith);
          scanned = λ a. absurd (omega arith);
          rises = λ a. absurd (omega arith);
          seven = λ e. absurd (omega arith);
          last = λ e. absurd (omega arith);
        }

        others : (v : ℕ) → v ≢ i → v < sh.workers → Part sh wd m closed v (T v)
        others v u lv = part_left sh wd m m g closed v (T v) (record {
          ends = λ b. upd_other (T i).ticket (T v).ticket (ended m.started) (g.hist.end (T v).ticket) (λ e. S.apart v i lv l u b busy (sym e));
          what = λ b. refl;
          kept = kept;
          absent = λ h. absent (T v).ticket (S.apart v i lv l u (live h) busy);
          own = λ b. refl;
          mark = λ a b k. inl k;
          epoch = λ e c s y z. epoch c s z (S.small v lv (λ f. omega arith)) (was_over c s y);
          scan = λ a. scan_in v u;
          rise = λ a h. h;
        }) (O.parts v lv)
          where
            live : ((1 ≤ (T v).stage) × ((T v).stage ≤ 5) × ((T v).kind ≡ 0)) ⊎ (8 ≤ (T v).stage) → (T v).stage ≢ 0
            live (inl (b, c, d)) e = omega arith
            live (inr b) e = omega arith

            epoch : (c s : ℕ) → s < (T v).ticket → (T v).ticket ≤ m.started
                → ((c ≡ (T i).ticket) × (s ≡ m.started)) ⊎ ((c ≢ (T i).ticket) × (g.hist.end c ≡ ended s))
                → (g.hist.end c ≡ ended s) × (closed.hist.late c ≡ g.hist.late c) × (m.epoch (T v).own ≡ m.epoch (T v).own)
            epoch c s h k (inl (e, f)) = absurd (omega arith)
            epoch c s h k (inr (w, e)) = (e, late_other c w, refl)
