-- Changes of the links with the table as it is: 5, 3 and 4.
--     orderly_store                        the order where only the store changes
--     link_view, link_chain, linked_in     5: a node is linked in
--     out_view, out_chain, taken_out       3: one is taken out
--     own_view, own_written                4: own node is prepared
-- Assumes nothing.
use Rattle.std.specs.Prelude.{◌≡◌, refl, cond, ◌≢◌, ◌⊎◌, ℕ, ◌+◌, ◌*◌, ◌/◌, ◌%◌, ◌≤◌, ◌<◌, eqb}
use Rattle.std.proofs.Common.{sym, ap, ◌∙◌, subst, inl, inr, arith}
use mathlib.Core.List.{[], Memᴰ as Mem}
use Rattle.arrival.specs.declared.Shape.{Shape}
use Rattle.arrival.specs.declared.Worker.{Worker}
use Rattle.laws.specs.Tests.{upd_other, upd_cases}
use Rattle.calendar.specs.rules.Layout.{cell, field}
use Rattle.calendar.specs.facts.Views.{View, update}
use Rattle.order.specs.Entries.{Keys, Element, scan, bucket, run}
use Rattle.order.specs.RealTime.{running, ended}
use Rattle.order.specs.Scans.{running_ended}
use Rattle.order.specs.OrderAfterMark.{Inv as Orderly}
use Rattle.order.specs.Appending.{inv_shift}
use Rattle.lists.specs.Chain.{In, insert_at, remove_at, in_insert, in_remove}
use Rattle.lists.specs.LinkInvariant.{Chains, set_chain, set_cases, Lists, Linking, Unlinking, unlinked, edge, link_in, un_in}
use Rattle.lists.specs.AllCalls.{Live, Inv}
use Rattle.lists.specs.Knowledge.{Private}
use Rattle.lists.specs.WalkAhead.{ahead_link, ahead_unlink, ahead_private}
use Rattle.interleavings.specs.ItemKeys.{keys, arr, Holds, Ahead}
use Rattle.interleavings.specs.Joint.{Ghost, Absent, Marked, Clean, walks, Ord, part_left}

module _ (sh : Shape) (wd : 0 < sh.width) (m : View) (ch : Chains) (T : ℕ → Worker) (g : Ghost (keys sh wd)) (P : Inv sh m ch T) (O : Ord sh wd m ch T g) where
  abbrev K : Keys
  K = keys sh wd

  pub orderly_store : (m' : View) (ch' : Chains) → ((v : ℕ) → Mem (scan v) g.order → (q : Element (keys sh wd)) → Mem q (run [] g.order)
      → Ahead sh wd m ch (T v) q → Ahead sh wd m' ch' (T v) q)
      → Orderly g.hist (walks sh wd m' ch' T) [] g.order
  orderly_store m' ch' ahead =
      inv_shift g.hist (walks sh wd m ch T) (walks sh wd m' ch' T) [] g.order O.whole.orderly (λ v j. refl) (λ v j. refl) (λ v j. refl) ahead

  abbrev LiveT : ℕ → Type 0
  LiveT = Live sh.workers T

  -- ── a cell that is unmarked and stays so ──
  module _ (left v : ℕ) (was : m.cells left % 2 ≡ 0) (is : v % 2 ≡ 0) where
    abbrev swapped : ℕ → ℕ
    swapped = λ q. cond (eqb left q) v (m.cells q)

    clean_new : (n : ℕ) → Clean sh wd m n → swapped (sh.buckets + n) % 2 ≡ 0
    clean_new n = upd_cases (λ q x. m.cells q % 2 ≡ 0 → x % 2 ≡ 0) m.cells left v (λ h. is) (λ q u h. h) (sh.buckets + n)

    clean_old : (n : ℕ) → swapped (sh.buckets + n) % 2 ≡ 0 → Clean sh wd m n
    clean_old n = upd_cases (λ q x. x % 2 ≡ 0 → m.cells q % 2 ≡ 0) m.cells left v (λ h. was) (λ q u h. h) (sh.buckets + n)

    marked_old : (n : ℕ) → swapped (sh.buckets + n) % 2 ≡ 1 → Marked sh wd m n
    marked_old n = upd_cases (λ q x. x % 2 ≡ 1 → m.cells q % 2 ≡ 1) m.cells left v (λ h. absurd (omega arith)) (λ q u h. h) (sh.buckets + n)

  -- ── 5: own is linked in ──
  module _ (i : ℕ) (l : i < sh.workers) (five : (T i).stage ≡ 5) (kind : (T i).kind ≡ 0)
      (k : Linking sh m ch (T i).bucket (T i).left (T i).right (T i).own) where
    abbrev pub link_view : View
    link_view = update (cell (T i).left) (2 * (T i).own) m

    abbrev pub link_chain : Chains
    link_chain = set_chain ch (T i).bucket (insert_at sh (T i).own k.spot)

    busy₅ : (T i).stage ≢ 0
    busy₅ e = omega arith

    clean₀ : m.cells (T i).left % 2 ≡ 0
    clean₀ = omega (arith, k.was)

    bears₅ : m.ticket (T i).own ≡ (T i).ticket
    bears₅ = (((P.knows i l).search (omega arith) (omega arith)).enqueue_own kind (omega arith)).ticketed

    in_now : (n q : ℕ) → In n (ch q) → In n (link_chain q)
    in_now n q = link_in sh m ch LiveT P.lists (T i).bucket (T i).left (T i).right (T i).own k n q

    in_before : (q n : ℕ) → In n (link_chain q) → (n ≡ (T i).own) ⊎ In n (ch q)
    in_before q n =
        set_cases (λ q ns. In n ns → (n ≡ (T i).own) ⊎ In n (ch q)) ch (T i).bucket (insert_at sh (T i).own k.spot) (λ j. in_insert sh k.spot j)
        (λ q u j. inr j) q

    holds₅ : (b : ℕ) (q : Element K) (n : ℕ) → Holds sh wd m ch b q n → Holds sh wd link_view link_chain b q n
    holds₅ b q n h =
        record { inside = in_now n b h.inside; clean = clean_new (T i).left (2 * (T i).own) clean₀ (omega arith) n h.clean; key = h.key }

    pub linked_in : Ord sh wd link_view link_chain T g
    linked_in = record {
      whole = record {
        orderly = orderly_store link_view link_chain ahead;
        distinct = O.whole.distinct;
        from = λ q j. let (n, h) = O.whole.from q j in (n, holds₅ (bucket q) q n h);
        into = λ b n s j c e. into n s b c e (in_before b n j);
        pending = λ b n j c e. pending n b c e (in_before b n j);
        ticketed = λ b n j. ticketed n b (in_before b n j);
        current = O.whole.current;
        past = O.whole.past;
        lates = O.whole.lates;
        epochs = λ b n c s j e h. epochs n b c s e h (in_before b n j);
        future = O.whole.future;
        scans = O.whole.scans;
        logged = O.whole.logged;
        entries = O.whole.entries;
        bound = O.whole.bound;
        proper = O.whole.proper;
        finished = O.whole.finished;
        held = O.whole.held;
      };
      parts = λ v lv. part_left sh wd m link_view g g v (T v) (record {
        ends = λ b. refl;
        what = λ b. refl;
        kept = λ e c j. j;
        absent = λ h a. a;
        own = λ b. refl;
        mark = λ a b h. inl (marked_old (T i).left (2 * (T i).own) clean₀ (omega arith) (T v).own h);
        epoch = λ e c s y z. (y, refl, refl);
        scan = λ a j. j;
        rise = λ a h. h;
      }) (O.parts v lv);
    }
      where
        ahead : (v : ℕ) → Mem (scan v) g.order → (q : Element K) → Mem q (run [] g.order) → Ahead sh wd m ch (T v) q
            → Ahead sh wd link_view link_chain (T v) q
        ahead v j q y (n, h, inl e) = (n, holds₅ (T v).bucket q n h, inl e)
        ahead v j q y (n, h, inr (a, b, r)) = (
          n,
          holds₅ (T v).bucket q n h,
          inr (a, b, ahead_link sh m ch LiveT P.lists n (T v).right r (T i).bucket (T i).left (T i).right (T i).own k),
        )

        open_own : (n : ℕ) → n ≡ (T i).own → g.hist.end (m.ticket n) ≡ running
        open_own n e = ap g.hist.end (ap m.ticket e ∙ bears₅) ∙ (O.parts i l).runs busy₅

        old_clean : (n : ℕ) → Clean sh wd link_view n → Clean sh wd m n
        old_clean = clean_old (T i).left (2 * (T i).own) clean₀ (omega arith)

        into : (n s b : ℕ) → Clean sh wd link_view n → g.hist.end (m.ticket n) ≡ ended s → (n ≡ (T i).own) ⊎ In n (ch b)
            → Mem (arr sh wd m n) (run [] g.order)
        into n s b c e (inl f) = absurd (running_ended s (sym (open_own n f) ∙ e))
        into n s b c e (inr j) = O.whole.into b n s j (old_clean n c) e

        pending : (n b : ℕ) → Clean sh wd link_view n → g.hist.end (m.ticket n) ≡ running → (n ≡ (T i).own) ⊎ In n (ch b) → Absent (m.ticket n) g.order
        pending n b c e (inl f) = subst (λ u. Absent u g.order) (sym (ap m.ticket f ∙ bears₅)) ((O.parts i l).unlinked (omega arith) (omega arith) kind)
        pending n b c e (inr j) = O.whole.pending b n j (old_clean n c) e

        ticketed : (n b : ℕ) → (n ≡ (T i).own) ⊎ In n (ch b) → 1 ≤ m.ticket n
        ticketed n b (inl f) = rw (ap m.ticket f ∙ bears₅) (P.positive i l busy₅)
        ticketed n b (inr j) = O.whole.ticketed b n j

        epochs : (n b c s : ℕ) → g.hist.end c ≡ ended s → s < m.ticket n → (n ≡ (T i).own) ⊎ In n (ch b) → g.hist.late c ≤ m.epoch n
        epochs n b c s e h (inl f) = rw f ((O.parts i l).five five c s e (omega (arith, ap m.ticket f, bears₅)))
        epochs n b c s e h (inr j) = O.whole.epochs b n c s j e h

  -- ── 3: right is taken out ──
  module _ (I : Lists sh m ch (Live sh.workers T)) (b₀ left right seen : ℕ) (k : Unlinking sh m ch b₀ left right seen) where
    abbrev pub out_view : View
    out_view = unlinked sh m left right seen

    abbrev pub out_chain : Chains
    out_chain = set_chain ch b₀ (remove_at sh (edge sh m ch (Live sh.workers T) I b₀ left right seen k))

    clean₃ : m.cells left % 2 ≡ 0
    clean₃ = omega (arith, k.was)

    in_old : (q n : ℕ) → In n (out_chain q) → In n (ch q)
    in_old q n =
        set_cases (λ q ns. In n ns → In n (ch q)) ch b₀ (remove_at sh (edge sh m ch LiveT I b₀ left right seen k))
        (λ j. in_remove sh (edge sh m ch LiveT I b₀ left right seen k) j) (λ q u j. j) q

    holds₃ : (b : ℕ) (q : Element K) (n : ℕ) → Holds sh wd m ch b q n → Holds sh wd out_view out_chain b q n
    holds₃ b q n h = record {
      inside =
          un_in sh m ch LiveT I b₀ left right seen k n b h.inside (λ e. omega (arith, h.clean, k.link, k.marked, ap (λ y. m.cells (sh.buckets + y)) e));
      clean = clean_new left (2 * (seen / 2)) clean₃ (omega arith) n h.clean;
      key = h.key;
    }

    pub taken_out : Ord sh wd out_view out_chain T g
    taken_out = record {
      whole = record {
        orderly = orderly_store out_view out_chain ahead;
        distinct = O.whole.distinct;
        from = λ q j. let (n, h) = O.whole.from q j in (n, holds₃ (bucket q) q n h);
        into = λ b n s j c e. O.whole.into b n s (in_old b n j) (old_clean n c) e;
        pending = λ b n j c e. O.whole.pending b n (in_old b n j) (old_clean n c) e;
        ticketed = λ b n j. O.whole.ticketed b n (in_old b n j);
        current = O.whole.current;
        past = O.whole.past;
        lates = O.whole.lates;
        epochs = λ b n c s j e h. O.whole.epochs b n c s (in_old b n j) e h;
        future = O.whole.future;
        scans = O.whole.scans;
        logged = O.whole.logged;
        entries = O.whole.entries;
        bound = O.whole.bound;
        proper = O.whole.proper;
        finished = O.whole.finished;
        held = O.whole.held;
      };
      parts = λ v lv. part_left sh wd m out_view g g v (T v) (record {
        ends = λ b. refl;
        what = λ b. refl;
        kept = λ e c j. j;
        absent = λ h a. a;
        own = λ b. refl;
        mark = λ a b h. inl (marked_old left (2 * (seen / 2)) clean₃ (omega arith) (T v).own h);
        epoch = λ e c s y z. (y, refl, refl);
        scan = λ a j. j;
        rise = λ a h. h;
      }) (O.parts v lv);
    }
      where
        old_clean : (n : ℕ) → Clean sh wd out_view n → Clean sh wd m n
        old_clean = clean_old left (2 * (seen / 2)) clean₃ (omega arith)

        ahead : (v : ℕ) → Mem (scan v) g.order → (q : Element K) → Mem q (run [] g.order) → Ahead sh wd m ch (T v) q
            → Ahead sh wd out_view out_chain (T v) q
        ahead v j q y (n, h, inl e) = (n, holds₃ (T v).bucket q n h, inl e)
        ahead v j q y (n, h, inr (a, b, r)) =
            (n, holds₃ (T v).bucket q n h, inr (a, b, ahead_unlink sh m ch LiveT I n (T v).right r b₀ left right seen k h.clean))

  -- ── 4: a private node's link and epoch ──
  module _ (i : ℕ) (l : i < sh.workers) (four : (T i).stage ≡ 4) (p : Private sh m ch (T i).ticket (T i).own) (u e₀ : ℕ) where
    abbrev pub own_view : View
    own_view = update (cell (sh.buckets + (T i).own)) u (update (field 6 (T i).own) e₀ m)

    same_cell : (n : ℕ) → n ≢ (T i).own → own_view.cells (sh.buckets + n) ≡ m.cells (sh.buckets + n)
    same_cell n h = upd_other (sh.buckets + (T i).own) (sh.buckets + n) u (m.cells (sh.buckets + n)) (λ e. h (omega arith))

    same_epoch : (n : ℕ) → n ≢ (T i).own → own_view.epoch n ≡ m.epoch n
    same_epoch n h = upd_other (T i).own n e₀ (m.epoch n) (λ e. h (sym e))

    not_own : (b n : ℕ) → In n (ch b) → n ≢ (T i).own
    not_own b n j e = p.out b (subst (λ (y : ℕ). In y (ch b)) e j)

    holds₄ : (b : ℕ) (q : Element K) (n : ℕ) → Holds sh wd m ch b q n → Holds sh wd own_view ch b q n
    holds₄ b q n h = record { inside = h.inside; clean = rw (same_cell n (not_own b n h.inside)) h.clean; key = h.key }

    other_own : (v : ℕ) → v < sh.workers → (T v).stage ≢ 0 → (T v).stage ≢ 4 → m.ticket (T v).own ≡ (T v).ticket → (T v).own ≢ (T i).own
    other_own v lv b s e f = P.apart v i lv l (λ z. s (ap (λ j. (T j).stage) z ∙ four)) b (λ z. omega arith) (sym e ∙ ap m.ticket f ∙ p.ticketed)

    pub own_written : Ord sh wd own_view ch T g
    own_written = record {
      whole = record {
        orderly = orderly_store own_view ch ahead;
        distinct = O.whole.distinct;
        from = λ q j. let (n, h) = O.whole.from q j in (n, holds₄ (bucket q) q n h);
        into = λ b n s j c e. O.whole.into b n s j (rw (same_cell n (not_own b n j)) at c) e;
        pending = λ b n j c e. O.whole.pending b n j (rw (same_cell n (not_own b n j)) at c) e;
        ticketed = O.whole.ticketed;
        current = O.whole.current;
        past = O.whole.past;
        lates = O.whole.lates;
        epochs = λ b n c s j e h. rw (same_epoch n (not_own b n j)) (O.whole.epochs b n c s j e h);
        future = O.whole.future;
        scans = O.whole.scans;
        logged = O.whole.logged;
        entries = O.whole.entries;
        bound = O.whole.bound;
        proper = O.whole.proper;
        finished = O.whole.finished;
        held = O.whole.held;
      };
      parts = λ v lv. part_left sh wd m own_view g g v (T v) (record {
        ends = λ b. refl;
        what = λ b. refl;
        kept = λ e c j. j;
        absent = λ h a. a;
        own = λ b. refl;
        mark = λ a b h. inl (rw (same_cell (T v).own (other_own v lv (λ z. omega arith) (λ z. omega arith) ((P.knows v lv).linked a b).ticketed)) at h);
        epoch =
            λ e c s y z. (
              y,
              refl,
              same_epoch (T v).own (other_own v lv (λ z. omega arith) (λ z. omega arith) (((P.knows v lv).search (omega arith) (omega arith)).enqueue_own
                  (put_kind v lv e (P.knows v lv).kinds) (omega arith)).ticketed),
            );
        scan = λ a j. j;
        rise = λ a h. h;
      }) (O.parts v lv);
    }
      where
        put_kind : (v : ℕ) → (lv : v < sh.workers) → (T v).stage ≡ 5 → ((T v).kind ≡ 0) ⊎ ((T v).kind ≡ 1) → (T v).kind ≡ 0
        put_kind v lv e (inl z) = z
        put_kind v lv e (inr z) = absurd (omega (arith, (P.knows v lv).dequeues z (omega arith)))

        ahead : (v : ℕ) → Mem (scan v) g.order → (q : Element K) → Mem q (run [] g.order) → Ahead sh wd m ch (T v) q → Ahead sh wd own_view ch (T v) q
        ahead v j q y (n, h, inl e) = (n, holds₄ (T v).bucket q n h, inl e)
        ahead v j q y (n, h, inr (a, b, r)) =
            let lv : v < sh.workers = (O.whole.scans v j).0 in
            let st = (P.knows v lv).stand a b in (
              n,
              holds₄ (T v).bucket q n h,
              inr (
                a,
                b,
                ahead_private sh m ch LiveT P.lists n (T v).right r (T v).ticket (T i).ticket (T i).own u (v, lv, (λ z. omega arith), refl)
                    st.is_node (P.lists.member (T v).bucket n h.inside).is_node st.safe p,
              ),
            )
