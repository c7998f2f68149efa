-- What every history from an opening reaches: lengths, ranges, and the invariant of lists and records.
--     Reached                                            lengths, ranges and the invariant
--     table_set                                          a table with one record changed
--     reached_open                                       the opening reaches it
--     performed                                          what an outcome must bring
--     free_node                                          a free node, in the words of the invariant
--     reached_enqueue, reached_dequeue                   starts keep it
--     tight                                              the leak of ranges does not occur
--     reached_step                                       turns keep it
-- Assumes nothing.
use Rattle.std.specs.Prelude.{◌≡◌, refl, List, [], Bool, true, false, cond, not, ◌&&◌, ◌||◌, ◌≢◌, ◌⊎◌, ℕ, ◌+◌, ◌-◌, ◌≤◌, ◌<◌, eqb, leb, length, get_or, set}
use Rattle.std.proofs.Common.{sym, ap, inl, inr, arith, lit<, length-set, get_or-set_same, get_or-set_other, eqb-true, leb-true, leb-false, ne_eqb}
use Rattle.std.proofs.Math.Path.{subst⁻¹}
use Rattle.std.proofs.lemmas.Bool.{eqb-false}
use Rattle.arrival.specs.declared.Shape.{Shape}
use Rattle.arrival.specs.declared.Arrival.{Arrival}
use Rattle.arrival.specs.declared.Worker.{Worker}
use Rattle.arrival.specs.declared.Action.TheVariants.{Enqueue, Dequeue, Step}
use Rattle.arrival.specs.Keys.{bucket_of}
use Rattle.arrival.proofs.Keys.{item_bucket_lem, bucket_below}
use Rattle.laws.specs.Tests.{never, parts, upd_cases}
use Rattle.laws.specs.Counting.{every}
use Rattle.laws.proofs.Counting.{every_at}
use Rattle.calendar.specs.rules.Layout.{started, standing, write_all}
use Rattle.calendar.specs.rules.Ranges.{blank, worker}
use Rattle.calendar.specs.rules.Reclaim.{started_by, is_free, is_free_node, first_free}
use Rattle.calendar.specs.rules.Opening.{open_store, open_table}
use Rattle.calendar.specs.rules.Outcome.{Outcome}
use Rattle.calendar.specs.rules.Starts.{item_of, begun, enqueue_start, dequeue_start}
use Rattle.calendar.specs.rules.SearchSteps.{left_holds}
use Rattle.calendar.specs.rules.Operations.{Memory, perform, outcome}
use Rattle.calendar.specs.facts.Views.{view, updates, AllInside}
use Rattle.calendar.proofs.facts.Views.{view_write_all}
use Rattle.calendar.specs.facts.RangeFacts.{StoreRanges, RecordRanges}
use Rattle.calendar.proofs.facts.FirstFree.{first_free_node, first_free_free}
use Rattle.calendar.proofs.facts.FreshPool.{open_head, open_field, open_worker, open_store_ranged, open_table_ranged}
use Rattle.calendar.specs.facts.Accepted.{Lent, EnqueueAccepted, DequeueAccepted, StepAccepted}
use Rattle.calendar.proofs.facts.Changes.{Change}
use Rattle.calendar.proofs.facts.Inside.{enqueue_inside, dequeue_inside, change_inside, length_write_all}
use Rattle.calendar.specs.facts.RangesKept.{leaks}
use Rattle.calendar.proofs.facts.RangesKept.{enqueue_ranged, dequeue_ranged, step_ranged}
use Rattle.lists.specs.Chain.{edge_in}
use Rattle.lists.specs.LinkInvariant.{Chains, edge}
use Rattle.lists.specs.Filling.{Free}
use Rattle.lists.specs.AllCalls.{Live, Inv, with_record}
use Rattle.lists.specs.StartsKeepLists.{inv_dequeue, inv_enqueue, inv_open}
use Rattle.lists.specs.TurnsKeepLists.{unlinking, chains_after, inv_step}

abbrev pub Reached : Shape → Memory → Chains → Type 0
Reached sh m ch = record {
  lent : Lent sh m.store m.table;
  store : StoreRanges sh (view sh m.store);
  table : (j : ℕ) → j < sh.workers → RecordRanges sh (worker m.table j);
  inv : Inv sh (view sh m.store) ch (worker m.table);
}

-- the table as a function, one record changed
pub table_set : (t : List Worker) (i : ℕ) (w : Worker) → i < length t → worker (set t i w) ≡ with_record (worker t) i w
table_set t i w l = λ k j. at j k
  where
    at : (j : ℕ) → get_or (set t i w) j blank ≡ cond (eqb i j) w (get_or t j blank)
    at j = go (eqb i j) refl
      where
        go : (b : Bool) → eqb i j ≡ b → get_or (set t i w) j blank ≡ cond b w (get_or t j blank)
        go true e = rw (← eqb-true i j e) (get_or-set_same t i w blank l)
        go false e = get_or-set_other t i j w blank (λ q. eqb-false i j e (sym q))

-- ── the opening ──
pub reached_open : (sh : Shape) (m : Memory) → Lent sh m.store m.table → Lent sh (open_store sh m.store) (open_table sh m.table)
    → Reached sh (record { store = open_store sh m.store; table = open_table sh m.table }) (λ b. [])
unfolding blank
reached_open sh m A B = record {
  lent = B;
  store = open_store_ranged sh m.store A.limits;
  table = open_table_ranged sh m.table A.limits;
  inv = inv_open sh (view sh (open_store sh m.store)) (worker (open_table sh m.table)) (λ b h. open_head sh m.store b h)
      (λ n h. (open_field sh m.store 7 n (lit< tt) h, open_field sh m.store 2 n (lit< tt) h))
      (λ i h. (ap (λ (w : Worker). w.stage) (open_worker sh m.table i h), ap (λ (w : Worker). w.kind) (open_worker sh m.table i h)));
}

-- ── an action that is not refused ──
-- what an outcome of worker i must bring
pub performed : (sh : Shape) (m : Memory) (i : ℕ) (o : Outcome) (ch' : Chains) → Lent sh m.store m.table
    → ((j : ℕ) → j < sh.workers → RecordRanges sh (worker m.table j)) → i < sh.workers → AllInside sh o.writes
    → StoreRanges sh (updates o.writes (view sh m.store)) → RecordRanges sh o.worker
    → Inv sh (updates o.writes (view sh m.store)) ch' (with_record (worker m.table) i o.worker)
    → Reached sh (perform sh m i o).memory ch'
performed sh m i o ch' A table l ins store rec inv =
    let v : view sh (write_all sh m.store o.writes) ≡ updates o.writes (view sh m.store) = view_write_all sh m.store o.writes A.store ins in
    let t : worker (set m.table i o.worker)
    ≡ with_record (worker m.table) i o.worker = table_set m.table i o.worker (omega (arith, A.table)) in
    record {
      lent = record {
        limits = A.limits;
        store = rw (length_write_all sh m.store o.writes) A.store;
        table = rw (length-set m.table i o.worker) A.table;
      };
      store = subst⁻¹ (λ x. StoreRanges sh x) v store;
      table = subst⁻¹ (λ T. (j : ℕ) → j < sh.workers → RecordRanges sh (T j)) t
          (upd_cases (λ j w. j < sh.workers → RecordRanges sh w) (worker m.table) i o.worker (λ h. rec) (λ j u h. table j h));
      inv = subst⁻¹ (λ T. Inv sh (view sh (write_all sh m.store o.writes)) ch' T) t
          (subst⁻¹ (λ x. Inv sh x ch' (with_record (worker m.table) i o.worker)) v inv);
    }

-- what may be handed out has a free standing
handed_out : (sh : Shape) (s : List ℕ) (t : List Worker) (x : ℕ) → is_free_node sh s t x ≡ true → is_free sh t (standing sh s x) ≡ true
handed_out sh s t x h = go (is_free sh t (standing sh s x)) refl
  where
    go : (b : Bool) → is_free sh t (standing sh s x) ≡ b → is_free sh t (standing sh s x) ≡ true
    go true e = e
    go false e = never (rw e at h)

-- in the words of the invariant: no call in progress is as old
pub free_node : (sh : Shape) (s : List ℕ) (t : List Worker) (x : ℕ) → is_free_node sh s t x ≡ true → Free (view sh s) (Live sh.workers (worker t)) x
unfolding is_free
free_node sh s t x h = go (eqb (standing sh s x) 0) refl (handed_out sh s t x h)
  where
    k : ℕ
    k = standing sh s x - 2

    young : (w : Worker) → not (started_by (standing sh s x - 2) w) ≡ true → w.stage ≢ 0 → standing sh s x - 2 < w.ticket
    young w q u = pick (leb w.ticket (standing sh s x - 2)) refl
      where
        pick : (b : Bool) → leb w.ticket (standing sh s x - 2) ≡ b → standing sh s x - 2 < w.ticket
        pick true e = never (rw (ne_eqb w.stage 0 u, e) at q)
        pick false e = leb-false w.ticket (standing sh s x - 2) e

    go : (b : Bool) → eqb (standing sh s x) 0 ≡ b
        → (b || (leb 2 (standing sh s x) && every sh.workers (λ i. not (started_by (standing sh s x - 2) (worker t i))))) ≡ true
        → Free (view sh s) (Live sh.workers (worker t)) x
    go true e q = inl (eqb-true (standing sh s x) 0 e)
    go false e q =
        let (two, all) = parts (leb 2 (standing sh s x)) _ q in
        inr (
          standing sh s x - 2,
          omega (arith, leb-true 2 (standing sh s x) two),
          λ c (i, l, u, b). rw (← b) (young (worker t i) (every_at _ sh.workers all i l) u),
        )

-- ── the two starts and the turn ──
pub reached_enqueue : (sh : Shape) (m : Memory) (ch : Chains) (i : ℕ) (a : Arrival) → Reached sh m ch → EnqueueAccepted sh m.store m.table i a
    → Reached sh (perform sh m i (outcome sh m (Enqueue i a))).memory ch
unfolding enqueue_start
reached_enqueue sh m ch i a K A =
    let s = m.store in
    let x = first_free sh s m.table in
    let c = started sh s + 1 in
    let is_node = first_free_node sh s m.table K.store.last A.node in
    let (store, rec) = enqueue_ranged sh s m.table i a A in
    performed sh m i (outcome sh m (Enqueue i a)) ch K.lent K.table A.usable.exists (enqueue_inside sh s x a (worker m.table i) is_node) store rec
    (inv_enqueue sh (view sh s) ch (worker m.table) K.inv i A.usable.exists (begun (worker m.table i) 1 0 x (bucket_of sh a.time) c) refl x
    (item_of a c) is_node
    (free_node sh s m.table x (first_free_free sh s m.table K.store.last A.node)) refl
    (rw item_bucket_lem (bucket_below sh a.time K.lent.limits.some_bucket)) refl refl (sym (item_bucket_lem sh (item_of a c))))

pub reached_dequeue : (sh : Shape) (m : Memory) (ch : Chains) (i : ℕ) → Reached sh m ch → DequeueAccepted sh m.store m.table i
    → Reached sh (perform sh m i (outcome sh m (Dequeue i))).memory ch
unfolding dequeue_start
reached_dequeue sh m ch i K A =
    let s = m.store in
    let (store, rec) = dequeue_ranged sh s m.table i A in
    performed sh m i (outcome sh m (Dequeue i)) ch K.lent K.table A.usable.exists (dequeue_inside sh s (worker m.table i)) store rec
    (inv_dequeue sh (view sh s) ch (worker m.table) K.inv i A.usable.exists
    (begun (worker m.table i) 8 1 (worker m.table i).own (worker m.table i).bucket (started sh s + 1)) refl refl refl)

-- the leak does not occur: what 3 unlinks is in a chain, so in use, so its distance is not 0
pub tight : (sh : Shape) (m : Memory) (ch : Chains) (i : ℕ) → Reached sh m ch → i < sh.workers → (worker m.table i).stage ≢ 0
    → leaks sh m.store (worker m.table i) ≡ false
tight sh m ch i K l busy =
    go (eqb (worker m.table i).stage 3) refl (left_holds sh m.store (worker m.table i)) refl
    (eqb ((view sh m.store).distance (worker m.table i).right) 0) refl
  where
    go : (a : Bool) → eqb (worker m.table i).stage 3 ≡ a → (b : Bool) → left_holds sh m.store (worker m.table i) ≡ b → (c : Bool)
        → eqb ((view sh m.store).distance (worker m.table i).right) 0 ≡ c → (a && b && c) ≡ false
    go false e b f c g = refl
    go true e false f c g = refl
    go true e true f false g = refl
    go true e true f true g =
        let w = worker m.table i in
        let T = worker m.table in
        let v = view sh m.store in
        let U = unlinking sh m.store T i l busy ch K.inv (eqb-true w.stage 3 e) f in
        let j = edge_in sh (edge sh v ch (Live sh.workers T) K.inv.lists w.bucket w.left w.right w.seen U) in
        absurd (far (K.store.nodes w.right U.is_node).far (K.inv.lists.member w.bucket w.right j).used
        (eqb-true (v.distance w.right) 0 g))
      where
        far : {d k : ℕ} → (1 ≤ d) ⊎ (k ≡ 0) → k ≡ 1 → d ≡ 0 → ⊥
        far (inl p) q r = omega arith
        far (inr p) q r = omega arith

pub reached_step : (sh : Shape) (m : Memory) (ch : Chains) (i : ℕ) (K : Reached sh m ch) (A : StepAccepted sh m.store m.table i)
    (c : Change sh m.store (worker m.table i) (outcome sh m (Step i)))
    → Reached sh (perform sh m i (outcome sh m (Step i))).memory (chains_after sh m.store (worker m.table) i A.usable.exists A.busy ch K.inv c)
reached_step sh m ch i K A c =
    let s = m.store in
    let T = worker m.table in
    let l = A.usable.exists in
    let (rec, store) = step_ranged sh s m.table i A c in
    performed sh m i (outcome sh m (Step i)) (chains_after sh s T i l A.busy ch K.inv c) K.lent K.table l
    (change_inside sh s (T i) (K.table i l) c)
    (store (tight sh m ch i K l A.busy)) rec (inv_step sh s T i l A.busy ch K.inv K.store.current c)
