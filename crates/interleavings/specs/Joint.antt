-- The joint invariant of the pool and its order, and what carries it past a change.
--     Ghost, Absent, Rises, Logged             the proof's own account; no entry of a call; current has risen; what an entry puts
--     Marked, Clean                            the mark on a node
--     Part, Holder                             what the order says of a call; a take holds an element
--     walks, Whole, Ord, Joint                 the order's share, and the joint invariant
--     Leaves, part_left                        what a change leaves to another worker's call
--     orderly_shift                            the order past a change of the store
--     parts_close, scans_close, held_close     all from the others and the new record
-- Assumes nothing.
use Rattle.std.specs.Prelude.{◌≡◌, refl, ◌≢◌, ◌⊎◌, ℕ, suc, ◌+◌, ◌/◌, ◌%◌, ◌≤◌, ◌<◌}
use Rattle.std.proofs.Common.{sym, ◌∙◌, subst, inl, inr}
use Rattle.std.proofs.Math.Option.{Option, none, some}
use mathlib.Core.List.{[], Memᴰ as Mem}
use Rattle.arrival.specs.declared.Shape.{Shape}
use Rattle.arrival.specs.declared.Worker.{Worker}
use Rattle.arrival.specs.declared.Item.{Item}
use Rattle.laws.specs.Tests.{upd_cases}
use Rattle.calendar.specs.facts.Views.{View, item_in}
use Rattle.order.specs.Entries.{Keys, Element, Entry, enqueue, dequeue, empty, scan, Order, ticket, bucket, run}
use Rattle.order.specs.RealTime.{running, ended, Hist, ticket_of_lem}
use Rattle.order.specs.Scans.{Walker as Walk}
use Rattle.order.specs.OrderAfterMark.{Inv as Orderly}
use Rattle.order.specs.Appending.{inv_shift}
use Rattle.order.specs.Calls.{Call, Distinct}
use Rattle.lists.specs.Chain.{In}
use Rattle.lists.specs.LinkInvariant.{Chains}
use Rattle.lists.specs.AllCalls.{Inv, with_record}
use Rattle.interleavings.specs.ItemKeys.{keys, arr, Holds, Ahead, walk}

-- what the proof carries beside the chains: the ends of the calls, the order, and of each ticket what was put under it (a take: none) and the entry that its
-- answer is
pub record Ghost (K : Keys) : Type 0 where
  pub hist : Hist
  pub order : Order K
  pub what : ℕ → Option K.X
  pub said : ℕ → Entry K

-- no call of ticket c has an entry
abbrev pub Absent : {K : Keys} → ℕ → Order K → Type 0
Absent {K} c L = (e : Entry K) → Mem e L → Call e → ¬ (ticket_of_lem e ≡ c)

-- current has risen since `seen` was read: by epoch, then by bucket
abbrev pub Rises : ℕ → ℕ → Type 0
Rises seen now = (seen % 4294967296 < now % 4294967296) ⊎ ((seen % 4294967296 ≡ now % 4294967296) × (seen / 4294967296 ≤ now / 4294967296))

abbrev pub Logged : {K : Keys} → (ℕ → Option K.X) → Entry K → Type 0
Logged what (enqueue x) = what (ticket x) ≡ some x.it
Logged what (dequeue z c) = what c ≡ none
Logged what (empty c) = what c ≡ none
Logged what (scan v) = Unit {0}

module _ (sh : Shape) (wd : 0 < sh.width) where
  abbrev pub Marked : View → ℕ → Type 0
  Marked m n = m.cells (sh.buckets + n) % 2 ≡ 1

  abbrev pub Clean : View → ℕ → Type 0
  Clean m n = m.cells (sh.buckets + n) % 2 ≡ 0

  -- what the order says of the call of worker v, whose record is w
  abbrev pub Part : View → Ghost (keys sh wd) → ℕ → Worker → Type 0
  Part m g v w = record {
    runs : w.stage ≢ 0 → g.hist.end w.ticket ≡ running;
    dequeuer : w.stage ≢ 0 → w.kind ≡ 1 → g.what w.ticket ≡ none;
    unlinked : 1 ≤ w.stage → w.stage ≤ 5 → w.kind ≡ 0 → Absent w.ticket g.order;
    walking : 8 ≤ w.stage → Absent w.ticket g.order;
    linked : 6 ≤ w.stage → w.stage ≤ 7 → Marked m w.own → Mem (enqueue (arr sh wd m w.own)) g.order;
    marked_own : 1 ≤ w.stage → w.stage ≤ 3 → w.kind ≡ 1 → Mem (dequeue (arr sh wd m w.own) w.ticket) g.order;
    five : w.stage ≡ 5 → (c s : ℕ) → g.hist.end c ≡ ended s → s < w.ticket → g.hist.late c ≤ m.epoch w.own;
    scanned : 9 ≤ w.stage → Mem (scan v) g.order;
    rises : 9 ≤ w.stage → Rises w.current m.current;
    seven : w.stage ≡ 7 → w.bucket ≤ w.current / 4294967296;
    last : w.stage ≡ 13 → sh.buckets ≤ suc w.bucket;
  }

  -- the dequeue c, of which w is the record, holds z: it has marked z's node, which is its own
  abbrev pub Holder : View → Worker → Element (keys sh wd) → ℕ → Type 0
  Holder m w z c = record { isDequeue : w.kind ≡ 1; lo : 1 ≤ w.stage; hi : w.stage ≤ 3; bears : w.ticket ≡ c; key : item_in m w.own ≡ z.it }

  abbrev pub walks : View → Chains → (ℕ → Worker) → ℕ → Walk (keys sh wd)
  walks m ch T = λ v. walk sh wd m ch (T v)

  abbrev pub Whole : View → Chains → (ℕ → Worker) → Ghost (keys sh wd) → Type 0
  Whole m ch T g = record {
    orderly : Orderly g.hist (walks m ch T) [] g.order;
    distinct : Distinct g.order;
    from : (q : Element (keys sh wd)) → Mem q (run [] g.order) → (n : ℕ) × Holds sh wd m ch (bucket q) q n;
    into : (b n s : ℕ) → In n (ch b) → Clean m n → g.hist.end (m.ticket n) ≡ ended s → Mem (arr sh wd m n) (run [] g.order);
    pending : (b n : ℕ) → In n (ch b) → Clean m n → g.hist.end (m.ticket n) ≡ running → Absent (m.ticket n) g.order;
    ticketed : (b n : ℕ) → In n (ch b) → 1 ≤ m.ticket n;
    current : (q : Element (keys sh wd)) → Mem q (run [] g.order) → m.current / 4294967296 ≤ bucket q;
    past : (c s : ℕ) → g.hist.end c ≡ ended s → s ≤ m.started;
    lates : (c s : ℕ) → g.hist.end c ≡ ended s → g.hist.late c ≤ m.current % 4294967296;
    epochs : (b n c s : ℕ) → In n (ch b) → g.hist.end c ≡ ended s → s < m.ticket n → g.hist.late c ≤ m.epoch n;
    future : (c : ℕ) → m.started < c → g.hist.end c ≡ running;
    scans : (v : ℕ) → Mem (scan v) g.order → (v < sh.workers) × (9 ≤ (T v).stage);
    logged : (n : ℕ) → n < sh.nodes → m.ticket n ≢ 0 → g.what (m.ticket n) ≡ some (item_in m n);
    entries : (e : Entry (keys sh wd)) → Mem e g.order → Logged g.what e;
    bound : (e : Entry (keys sh wd)) → Mem e g.order → ticket_of_lem e ≤ m.started;
    proper : (e : Entry (keys sh wd)) → Mem e g.order → Call e → 1 ≤ ticket_of_lem e;
    finished : (c s : ℕ) → g.hist.end c ≡ ended s → Mem (g.said c) g.order × Call (g.said c) × (ticket_of_lem (g.said c) ≡ c);
    held : (z : Element (keys sh wd)) (c : ℕ) → Mem (dequeue z c) g.order → g.hist.end c ≡ running → (v : ℕ) × (v < sh.workers) × Holder m (T v) z c;
  }

  -- the order's share of the invariant
  abbrev pub Ord : View → Chains → (ℕ → Worker) → Ghost (keys sh wd) → Type 0
  Ord m ch T g = record { whole : Whole m ch T g; parts : (v : ℕ) → v < sh.workers → Part m g v (T v) }

  abbrev pub Joint : View → Chains → (ℕ → Worker) → Ghost (keys sh wd) → Type 0
  Joint m ch T g = record { pool : Inv sh m ch T; ord : Ord m ch T g }

  -- what a change leaves to the call of another worker
  abbrev pub Leaves : View → View → Ghost (keys sh wd) → Ghost (keys sh wd) → ℕ → Worker → Type 0
  Leaves m m' g g' v w = record {
    ends : w.stage ≢ 0 → g'.hist.end w.ticket ≡ g.hist.end w.ticket;
    what : w.stage ≢ 0 → g'.what w.ticket ≡ g.what w.ticket;
    kept : (e : Entry (keys sh wd)) → Call e → Mem e g.order → Mem e g'.order;
    absent : ((1 ≤ w.stage) × (w.stage ≤ 5) × (w.kind ≡ 0)) ⊎ (8 ≤ w.stage) → Absent w.ticket g.order → Absent w.ticket g'.order;
    own : ((1 ≤ w.stage) × (w.stage ≤ 3) × (w.kind ≡ 1)) ⊎ ((6 ≤ w.stage) × (w.stage ≤ 7)) → item_in m' w.own ≡ item_in m w.own;
    mark : 6 ≤ w.stage → w.stage ≤ 7 → Marked m' w.own → Marked m w.own ⊎ Mem (enqueue (arr sh wd m w.own)) g'.order;
    epoch : w.stage ≡ 5 → (c s : ℕ) → g'.hist.end c ≡ ended s → s < w.ticket
        → (g.hist.end c ≡ ended s) × (g'.hist.late c ≡ g.hist.late c) × (m'.epoch w.own ≡ m.epoch w.own);
    scan : 9 ≤ w.stage → Mem (scan v) g.order → Mem (scan v) g'.order;
    rise : 9 ≤ w.stage → Rises w.current m.current → Rises w.current m'.current;
  }

  pub part_left : (m m' : View) (g g' : Ghost (keys sh wd)) (v : ℕ) (w : Worker) → Leaves m m' g g' v w → Part m g v w → Part m' g' v w
  part_left m m' g g' v w h p = record {
    runs = λ u. h.ends u ∙ p.runs u;
    dequeuer = λ u k. h.what u ∙ p.dequeuer u k;
    unlinked = λ a b k. h.absent (inl (a, b, k)) (p.unlinked a b k);
    walking = λ a. h.absent (inr a) (p.walking a);
    linked = λ a b k. subst (λ (d : Item). Mem (enqueue (record { it = d })) g'.order) (sym (h.own (inr (a, b)))) (go a b (h.mark a b k));
    marked_own = λ a b k. subst (λ (d : Item). Mem (dequeue (record { it = d }) w.ticket) g'.order) (sym (h.own (inl (a, b, k))))
        (h.kept (dequeue (arr sh wd m w.own) w.ticket) tt (p.marked_own a b k));
    five = λ e c s x y. let z = h.epoch e c s x y in rw (z.1, z.2) (p.five e c s z.0 y);
    scanned = λ a. h.scan a (p.scanned a);
    rises = λ a. h.rise a (p.rises a);
    seven = p.seven;
    last = p.last;
  }
    where
      go : 6 ≤ w.stage → w.stage ≤ 7 → Marked m w.own ⊎ Mem (enqueue (arr sh wd m w.own)) g'.order → Mem (enqueue (arr sh wd m w.own)) g'.order
      go a b (inl k) = h.kept (enqueue (arr sh wd m w.own)) tt (p.linked a b k)
      go a b (inr k) = k

  -- the order past a change of the store and of record i
  pub orderly_shift : (m : View) (ch : Chains) (m' : View) (ch' : Chains) (T : ℕ → Worker) (i : ℕ) (w' : Worker) (H : Hist) (L : Order (keys sh wd))
      → (Mem (scan i) L → (w'.ticket ≡ (T i).ticket) × (w'.bucket ≡ (T i).bucket) × (w'.current % 4294967296 ≡ (T i).current % 4294967296)
      × ((q : Element (keys sh wd)) → Mem q (run [] L) → Ahead sh wd m ch (T i) q → Ahead sh wd m' ch' w' q))
      → ((v : ℕ) → v ≢ i → Mem (scan v) L → (q : Element (keys sh wd)) → Mem q (run [] L) → Ahead sh wd m ch (T v) q → Ahead sh wd m' ch' (T v) q)
      → Orderly H (walks m ch T) [] L → Orderly H (walks m' ch' (with_record T i w')) [] L
  orderly_shift m ch m' ch' T i w' H L mine others I =
      inv_shift H (walks m ch T) (walks m' ch' (with_record T i w')) [] L I
      (upd_cases (λ v u. Mem (scan v) L → u.ticket ≡ (T v).ticket) T i w' (λ k. (mine k).0) (λ v n k. refl))
      (upd_cases (λ v u. Mem (scan v) L → u.bucket ≡ (T v).bucket) T i w' (λ k. (mine k).1) (λ v n k. refl))
      (upd_cases (λ v u. Mem (scan v) L → u.current % 4294967296 ≡ (T v).current % 4294967296) T i w' (λ k. (mine k).2) (λ v n k. refl))
      (upd_cases (λ v u. Mem (scan v) L → (q : Element (keys sh wd)) → Mem q (run [] L) → Ahead sh wd m ch (T v) q → Ahead sh wd m' ch' u q) T i w'
      (λ k. (mine k).3) (λ v n k. others v n k))

  -- the parts, from the others' and the new record's
  pub parts_close : (m : View) (T : ℕ → Worker) (g : Ghost (keys sh wd)) (i : ℕ) (w' : Worker) → Part m g i w'
      → ((v : ℕ) → v ≢ i → v < sh.workers → Part m g v (T v))
      → (v : ℕ) → v < sh.workers → Part m g v (with_record T i w' v)
  parts_close m T g i w' p others = upd_cases (λ v u. v < sh.workers → Part m g v u) T i w' (λ a. p) (λ v n a. others v n a)

  pub scans_close : (T : ℕ → Worker) (i : ℕ) (w' : Worker) (L : Order (keys sh wd)) → (Mem (scan i) L → (i < sh.workers) × (9 ≤ w'.stage))
      → ((v : ℕ) → v ≢ i → Mem (scan v) L → (v < sh.workers) × (9 ≤ (T v).stage))
      → (v : ℕ) → Mem (scan v) L → (v < sh.workers) × (9 ≤ (with_record T i w' v).stage)
  scans_close T i w' L mine others = upd_cases (λ v u. Mem (scan v) L → (v < sh.workers) × (9 ≤ u.stage)) T i w' mine (λ v n. others v n)

  pub held_close : (m m' : View) (T : ℕ → Worker) (i : ℕ) (w' : Worker) (z : Element (keys sh wd)) (c : ℕ) → (Holder m (T i) z c → Holder m' w' z c)
      → ((v : ℕ) → v ≢ i → v < sh.workers → Holder m (T v) z c → Holder m' (T v) z c)
      → (v : ℕ) × (v < sh.workers) × Holder m (T v) z c → (v : ℕ) × (v < sh.workers) × Holder m' (with_record T i w' v) z c
  held_close m m' T i w' z c mine others (v, lv, h) =
      (v, lv, upd_cases (λ v u. v < sh.workers → Holder m (T v) z c → Holder m' u z c) T i w' (λ a. mine) (λ v n a. others v n a) v lv h)
