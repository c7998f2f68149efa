-- Starts and the opening.
--     logs                           a call is written down
--     joint_dequeue                  a take begins
--     filled_view, joint_enqueue     a put begins
--     blank, joint_open              the opening
-- Assumes nothing.
use Rattle.std.specs.Prelude.{◌≡◌, refl, cond, ◌≢◌, ◌⊎◌, ℕ, ◌+◌, ◌*◌, ◌≤◌, ◌<◌, eqb}
use Rattle.std.proofs.Common.{sym, ap, ◌∙◌, subst, inl, inr, arith}
use Rattle.std.proofs.Math.Option.{Option, none, some}
use mathlib.Core.List.{[], Memᴰ as Mem}
use Rattle.std.proofs.Math.Decide.{ℕ_discrete}
use Rattle.arrival.specs.declared.Shape.{Shape}
use Rattle.arrival.specs.declared.Worker.{Worker}
use Rattle.arrival.specs.declared.Item.{Item}
use Rattle.arrival.specs.Keys.{item_bucket}
use Rattle.laws.specs.Tests.{upd_same, upd_other}
use Rattle.calendar.specs.rules.Layout.{word}
use Rattle.calendar.specs.rules.Outcome.{with_stage}
use Rattle.calendar.specs.facts.Views.{View, update, item_in}
use Rattle.order.specs.Entries.{Keys, Element, Entry, enqueue, dequeue, empty, scan, ticket, bucket, run}
use Rattle.order.specs.RealTime.{running}
use Rattle.order.specs.Scans.{running_ended}
use Rattle.lists.specs.Chain.{In}
use Rattle.lists.specs.LinkInvariant.{Chains}
use Rattle.lists.specs.AllCalls.{Live, with_record}
use Rattle.lists.specs.Filling.{filled, Free, key_same, not_in, not_safe}
use Rattle.lists.specs.StartsKeepLists.{inv_dequeue, inv_enqueue, inv_open, here_key}
use Rattle.interleavings.specs.ItemKeys.{keys, Holds}
use Rattle.interleavings.specs.Joint.{held_close, Ghost, Absent, Logged, part_left, orderly_shift, parts_close, scans_close, Joint}

abbrev pub logs : {K : Keys} → Ghost K → ℕ → Option K.X → Ghost K
logs g c d = record { hist = g.hist; order = g.order; what = λ n. cond (eqb c n) d (g.what n); said = g.said }

module _ (sh : Shape) (wd : 0 < sh.width) (m : View) (ch : Chains) (T : ℕ → Worker) (g : Ghost (keys sh wd)) (J : Joint sh wd m ch T g) (i : ℕ)
    (l : i < sh.workers) (idle : (T i).stage ≡ 0) (w : Worker) (new : w.ticket ≡ m.started + 1) where
  abbrev K : Keys
  K = keys sh wd

  module _ (d : Option Item) where
    old_what : (n : ℕ) → n ≤ m.started → (logs {K = K} g (m.started + 1) d).what n ≡ g.what n
    old_what n h = upd_other (m.started + 1) n d (g.what n) (λ e. omega arith)

    no_scan : Mem (scan i) g.order → ⊥
    no_scan j = omega (arith, (J.ord.whole.scans i j).1)

    entries : (e : Entry K) → Mem e g.order → Logged {K = K} (logs {K = K} g (m.started + 1) d).what e
    entries (enqueue x) j = old_what (ticket x) (J.ord.whole.bound (enqueue x) j) ∙ J.ord.whole.entries (enqueue x) j
    entries (dequeue z c) j = old_what c (J.ord.whole.bound (dequeue z c) j) ∙ J.ord.whole.entries (dequeue z c) j
    entries (empty c) j = old_what c (J.ord.whole.bound (empty c) j) ∙ J.ord.whole.entries (empty c) j
    entries (scan v) j = tt

    small : (v : ℕ) → v < sh.workers → (T v).stage ≢ 0 → (T v).ticket ≤ m.started
    small v lv b = J.pool.lists.live (T v).ticket (v, lv, b, refl)

    fresh : Absent (m.started + 1) g.order
    fresh e j k f = omega (arith, J.ord.whole.bound e j)

  -- ── a dequeue ──
  pub joint_dequeue : w.stage ≡ 8 → w.kind ≡ 1 → Joint sh wd (update (word 1) (m.started + 1) m) ch (with_record T i w) (logs g (m.started + 1) none)
  joint_dequeue eight kind = record {
    pool = inv_dequeue sh m ch T J.pool i l w new eight kind;
    ord = record {
      whole = record {
        orderly = orderly_shift sh wd m ch m ch T i w g.hist g.order (λ j. absurd (no_scan none j)) (λ v u j q k h. h) J.ord.whole.orderly;
        distinct = J.ord.whole.distinct;
        from = J.ord.whole.from;
        into = J.ord.whole.into;
        pending = J.ord.whole.pending;
        ticketed = J.ord.whole.ticketed;
        current = J.ord.whole.current;
        past = λ c s e. omega (arith, J.ord.whole.past c s e);
        lates = J.ord.whole.lates;
        epochs = J.ord.whole.epochs;
        future = λ c h. J.ord.whole.future c (omega arith);
        scans = scans_close sh wd T i w g.order (λ j. absurd (no_scan none j)) (λ v u j. J.ord.whole.scans v j);
        logged = λ n ln h. old_what none (m.ticket n) (J.pool.bounded n ln) ∙ J.ord.whole.logged n ln h;
        entries = entries none;
        bound = λ e j. omega (arith, J.ord.whole.bound e j);
        proper = J.ord.whole.proper;
        finished = J.ord.whole.finished;
        held = λ z c j e. held_close sh wd m m T i w z c (λ h. absurd (omega (arith, h.lo))) (λ v u lv h. h) (J.ord.whole.held z c j e);
      };
      parts = parts_close sh wd (update (word 1) (m.started + 1) m) T (logs g (m.started + 1) none) i w (record {
        runs = λ b. rw new (J.ord.whole.future (m.started + 1) (omega arith));
        dequeuer = λ b k. rw new (upd_same (m.started + 1) (m.started + 1) none (g.what (m.started + 1)) refl);
        unlinked = λ a b k. absurd (omega arith);
        walking = λ a. rw new (fresh none);
        linked = λ a b. absurd (omega arith);
        marked_own = λ a b k. absurd (omega arith);
        five = λ e. absurd (omega arith);
        scanned = λ a. absurd (omega arith);
        rises = λ a. absurd (omega arith);
        seven = λ e. absurd (omega arith);
        last = λ e. absurd (omega arith);
      }) (λ v u lv. part_left sh wd m (update (word 1) (m.started + 1) m) g (logs g (m.started + 1) none) v (T v) (record {
        ends = λ b. refl;
        what = λ b. old_what none (T v).ticket (small none v lv b);
        kept = λ e c j. j;
        absent = λ h a. a;
        own = λ b. refl;
        mark = λ a b h. inl h;
        epoch = λ e c s y z. (y, refl, refl);
        scan = λ a j. j;
        rise = λ a h. h;
      }) (J.ord.parts v lv));
    };
  }

  -- ── an enqueue on the free node x ──
  module _ (x : ℕ) (a : Item) (is_node : x < sh.nodes) (free : Free m (Live sh.workers T) x) (ticket-a : a.ticket ≡ m.started + 1)
      (in_b : item_bucket sh a < sh.buckets) where
    abbrev LiveT : ℕ → Type 0
    LiveT = Live sh.workers T

    abbrev pub filled_view : View
    filled_view = update (word 2) x (update (word 1) (m.started + 1) (filled x a m))

    other : (b n : ℕ) → In n (ch b) → x ≢ n
    other b n j = not_in sh m ch LiveT J.pool.lists x a free n b j

    key : (n : ℕ) → x ≢ n → item_in filled_view n ≡ item_in m n
    key n u = key_same sh m ch LiveT J.pool.lists x a free n u

    stamp_same : (n : ℕ) → x ≢ n → filled_view.ticket n ≡ m.ticket n
    stamp_same n u = upd_other x n a.ticket (m.ticket n) u

    holds : (b : ℕ) (q : Element K) (n : ℕ) → Holds sh wd m ch b q n → Holds sh wd filled_view ch b q n
    holds b q n h = record { inside = h.inside; clean = h.clean; key = key n (other b n h.inside) ∙ h.key }

    pub joint_enqueue : w.kind ≡ 0 → w.own ≡ x → w.bucket ≡ item_bucket sh a
        → Joint sh wd filled_view ch (with_record T i (with_stage 1 w)) (logs g (m.started + 1) (some a))
    joint_enqueue kind own bk = record {
      pool = inv_enqueue sh m ch T J.pool i l w new x a is_node free ticket-a in_b kind own bk;
      ord = record {
        whole = record {
          orderly = orderly_shift sh wd m ch filled_view ch T i (with_stage 1 w) g.hist g.order (λ j. absurd (no_scan none j))
              (λ v u j q k (n, h, z). (n, holds (T v).bucket q n h, z)) J.ord.whole.orderly;
          distinct = J.ord.whole.distinct;
          from = λ q j. let (n, h) = J.ord.whole.from q j in (n, holds (bucket q) q n h);
          into = λ b n s j c e. let u = other b n j in
              subst (λ (d : Item). Mem (record { it = d }) (run [] g.order)) (sym (key n u))
              (J.ord.whole.into b n s j c (ap g.hist.end (sym (stamp_same n u)) ∙ e));
          pending = λ b n j c e. let u = other b n j in
              subst (λ y. Absent y g.order) (sym (stamp_same n u)) (J.ord.whole.pending b n j c (ap g.hist.end (sym (stamp_same n u)) ∙ e));
          ticketed = λ b n j. rw (stamp_same n (other b n j)) (J.ord.whole.ticketed b n j);
          current = J.ord.whole.current;
          past = λ c s e. omega (arith, J.ord.whole.past c s e);
          lates = J.ord.whole.lates;
          epochs = λ b n c s j e h. J.ord.whole.epochs b n c s j e (rw (stamp_same n (other b n j)) at h);
          future = λ c h. J.ord.whole.future c (omega arith);
          scans = scans_close sh wd T i (with_stage 1 w) g.order (λ j. absurd (no_scan none j)) (λ v u j. J.ord.whole.scans v j);
          logged = λ n ln h. logged n ln h (ℕ_discrete x n);
          entries = entries (some a);
          bound = λ e j. omega (arith, J.ord.whole.bound e j);
          proper = J.ord.whole.proper;
          finished = J.ord.whole.finished;
          held = λ z c j e. held_close sh wd m filled_view T i (with_stage 1 w) z c (λ h. absurd (omega (arith, h.lo)))
              (λ v u lv h. record {
                isDequeue = h.isDequeue;
                lo = h.lo;
                hi = h.hi;
                bears = h.bears;
                key = key (T v).own (own_other v lv (inl (h.lo, h.hi, h.isDequeue))) ∙ h.key;
              }) (J.ord.whole.held z c j e);
        };
        parts = parts_close sh wd filled_view T (logs g (m.started + 1) (some a)) i (with_stage 1 w) (record {
          runs = λ b. rw new (J.ord.whole.future (m.started + 1) (omega arith));
          dequeuer = λ b k. absurd (omega arith);
          unlinked = λ p q k. rw new (fresh none);
          walking = λ p. absurd (omega arith);
          linked = λ p q. absurd (omega arith);
          marked_own = λ p q k. absurd (omega arith);
          five = λ e. absurd (omega arith);
          scanned = λ p. absurd (omega arith);
          rises = λ p. absurd (omega arith);
          seven = λ e. absurd (omega arith);
          last = λ e. absurd (omega arith);
        }) (λ v u lv. part_left sh wd m filled_view g (logs g (m.started + 1) (some a)) v (T v) (record {
          ends = λ b. refl;
          what = λ b. old_what (some a) (T v).ticket (small none v lv b);
          kept = λ e c j. j;
          absent = λ h p. p;
          own = λ b. key (T v).own (own_other v lv b);
          mark = λ p q h. inl h;
          epoch = λ e c s y z. (y, refl, refl);
          scan = λ p j. j;
          rise = λ p h. h;
        }) (J.ord.parts v lv));
      };
    }
      where
        logged : (n : ℕ) → n < sh.nodes → filled_view.ticket n ≢ 0 → Dec (x ≡ n)
            → (logs {K = K} g (m.started + 1) (some a)).what (filled_view.ticket n) ≡ some (item_in filled_view n)
        logged n ln h (yes e) =
            upd_same (m.started + 1) (filled_view.ticket n) (some a) (g.what (filled_view.ticket n)) (sym (upd_same x n a.ticket (m.ticket n) e
            ∙ ticket-a))
            ∙ ap some (sym (subst (λ y. item_in filled_view y ≡ a) e (here_key sh m ch T J.pool i l w new x a is_node free ticket-a in_b)))
        logged n ln h (no u) =
            let k = stamp_same n u in
            ap (λ y. (logs {K = K} g (m.started + 1) (some a)).what y) k
            ∙ old_what (some a) (m.ticket n) (J.pool.bounded n ln)
            ∙ J.ord.whole.logged n ln (λ z. h (k ∙ z))
            ∙ ap some (sym (key n u))

        own_other : (v : ℕ) → (lv : v < sh.workers) → ((1 ≤ (T v).stage) × ((T v).stage ≤ 3) × ((T v).kind ≡ 1)) ⊎ ((6 ≤ (T v).stage) × ((T v).stage ≤ 7))
            → x ≢ (T v).own
        own_other v lv (inl (p, q, k)) =
            not_safe sh m ch LiveT J.pool.lists x a free (T v).ticket (T v).own (v, lv, (λ e. omega arith), refl)
            (((J.pool.knows v lv).search p (omega arith)).dequeue_own k q).stands.safe
        own_other v lv (inr (p, q)) =
            not_safe sh m ch LiveT J.pool.lists x a free (T v).ticket (T v).own (v, lv, (λ e. omega arith), refl)
            ((J.pool.knows v lv).linked p q).node.safe

-- ── the opening ──
abbrev pub blank : (K : Keys) → Ghost K
blank K = record { hist = record { end = λ n. running; late = λ n. 0 }; order = []; what = λ n. none; said = λ n. empty n }

pub joint_open : (sh : Shape) (wd : 0 < sh.width) (m : View) (T : ℕ → Worker) → ((b : ℕ) → b < sh.buckets → m.cells b ≡ 2 * sh.nodes)
    → ((n : ℕ) → n < sh.nodes → (m.standing n ≡ 0) × (m.ticket n ≡ 0))
    → ((i : ℕ) → i < sh.workers → ((T i).stage ≡ 0) × ((T i).kind ≡ 0)) → Joint sh wd m (λ b. []) T (blank (keys sh wd))
joint_open sh wd m T heads nodes idle = record {
  pool = inv_open sh m T heads nodes idle;
  ord = record {
    whole = record {
      orderly = record { legal = tt; aged = tt; done = λ q j. elim j [ ]; timely = tt; marks = tt };
      distinct = tt;
      from = λ q j. elim j [ ];
      into = λ b n s j. elim j [ ];
      pending = λ b n j. elim j [ ];
      ticketed = λ b n j. elim j [ ];
      current = λ q j. elim j [ ];
      past = λ c s e. absurd (running_ended s e);
      lates = λ c s e. absurd (running_ended s e);
      epochs = λ b n c s j. elim j [ ];
      future = λ c h. refl;
      scans = λ v j. elim j [ ];
      logged = λ n ln h. absurd (h (nodes n ln).1);
      entries = λ e j. elim j [ ];
      bound = λ e j. elim j [ ];
      proper = λ e j. elim j [ ];
      finished = λ c s e. absurd (running_ended s e);
      held = λ z c j. elim j [ ];
    };
    parts = λ v lv. let z = (idle v lv).0 in
        record {
          runs = λ b. absurd (b z);
          dequeuer = λ b. absurd (b z);
          unlinked = λ a b k. absurd (omega arith);
          walking = λ a. absurd (omega arith);
          linked = λ a b. absurd (omega arith);
          marked_own = λ a b k. absurd (omega arith);
          five = λ e. absurd (omega arith);
          scanned = λ a. absurd (omega arith);
          rises = λ a. absurd (omega arith);
          seven = λ e. absurd (omega arith);
          last = λ e. absurd (omega arith);
        };
  };
}
