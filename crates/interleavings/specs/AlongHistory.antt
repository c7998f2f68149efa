-- Along every history from an opening the joint invariant holds and agrees with the ledger.
--     Followed                               the joint invariant, and that it agrees with the ledger
--     performed                              what an outcome must bring
--     followed_open                          after an opening
--     followed_enqueue, followed_dequeue     starts keep it
--     followed_step                          turns keep it
--     followed_act, followed_run             any action, and any history
--     followed                               after every history from an opening
-- Assumes nothing.
use Rattle.std.specs.Prelude.{◌≡◌, ℕ, ◌+◌, ◌≤◌, ◌<◌, set}
use Rattle.std.proofs.Math.Path.{refl, ap, subst, subst⁻¹}
use Rattle.std.proofs.Common.{sym, arith, lit<}
use Rattle.std.proofs.Math.Option.{none, some}
use mathlib.Core.List.{List, [], ◌∷◌}
use Rattle.arrival.specs.declared.Shape.{Shape}
use Rattle.arrival.specs.declared.Arrival.{Arrival}
use Rattle.arrival.specs.declared.Worker.{Worker}
use Rattle.arrival.specs.declared.Action.{Action}
use Rattle.arrival.specs.declared.Action.TheVariants.{Enqueue, Dequeue, Step}
use Rattle.arrival.specs.declared.Response.TheVariants.{Opened}
use Rattle.arrival.specs.Keys.{bucket_of}
use Rattle.arrival.proofs.Keys.{item_bucket_lem, bucket_below}
use Rattle.arrival.specs.Queue as queue
use Rattle.calendar.specs.rules.Layout.{write_all, started}
use Rattle.calendar.specs.rules.Ranges.{blank, worker}
use Rattle.calendar.specs.rules.Reclaim.{first_free}
use Rattle.calendar.specs.rules.Opening.{open_store, open_table}
use Rattle.calendar.specs.rules.Outcome.{Outcome}
use Rattle.calendar.specs.rules.Starts.{item_of, begun, enqueue_start, dequeue_start}
use Rattle.calendar.specs.rules.Operations.{Memory, perform, open_pool, actor, refusal, outcome, act, run}
use Rattle.calendar.specs.rules.Ledger.{Ledger, new, begins, hears, sees, notes, reads, ledger}
use Rattle.calendar.specs.facts.Views.{view, updates, AllInside}
use Rattle.calendar.proofs.facts.Views.{view_write_all}
use Rattle.calendar.proofs.facts.FirstFree.{first_free_node, first_free_free}
use Rattle.calendar.proofs.facts.FreshPool.{open_started, open_head, open_field, open_worker}
use Rattle.calendar.specs.facts.Accepted.{EnqueueAccepted, DequeueAccepted, StepAccepted}
use Rattle.calendar.proofs.facts.Accepted.{enqueue_accepted, dequeue_accepted, step_accepted}
use Rattle.calendar.proofs.facts.Changes.{Change, step_is}
use Rattle.calendar.proofs.facts.Inside.{enqueue_inside, dequeue_inside, change_inside}
use Rattle.calendar.proofs.facts.Acting.{by_act}
use Rattle.order.specs.Scans.{running_ended}
use Rattle.lists.specs.LinkInvariant.{Chains}
use Rattle.lists.specs.Filling.{key_same, not_safe}
use Rattle.lists.specs.AllCalls.{Live, with_record}
use Rattle.lists.specs.FromOpening.{Reached, table_set, reached_enqueue, reached_dequeue, reached_step, free_node}
use Rattle.lists.specs.NodeReuse.{opened, open_reaches}
use Rattle.lists.specs.TurnsKeepLists.{chains_after}
use Rattle.interleavings.specs.ItemKeys.{keys}
use Rattle.interleavings.specs.Joint.{Ghost, Ord}
use Rattle.interleavings.specs.StartsKeepOrder.{logs, joint_enqueue, joint_dequeue, joint_open}
use Rattle.interleavings.specs.StartsKeepOrder as starting
use Rattle.interleavings.specs.TurnsKeepOrder.{joint_step}
use Rattle.interleavings.specs.Effects.{effect}
use Rattle.interleavings.specs.Agreement.{Agrees, agrees_start, agrees_step}

pub record Followed (sh : Shape) (wd : 1 ≤ sh.width) (m : Memory) (L : Ledger) : Type 0 where
  pub chains : Chains
  pub ghost : Ghost (keys sh wd)
  pub reached : Reached sh m chains
  pub ord : Ord sh wd (view sh m.store) chains (worker m.table) ghost
  pub agrees : Agrees sh wd (view sh m.store) (worker m.table) ghost L

module _ (sh : Shape) (wd : 1 ≤ sh.width) where
  -- the joint invariant of what was performed, in the terms of the new memory
  performed : (m : Memory) (i : ℕ) (o : Outcome) (ch : Chains) (g : Ghost (keys sh wd)) (L : Ledger) (ch₀ : Chains) → Reached sh m ch₀ → i < sh.workers
      → AllInside sh o.writes
      → Reached sh (perform sh m i o).memory ch → Ord sh wd (updates o.writes (view sh m.store)) ch (with_record (worker m.table) i o.worker) g
      → Agrees sh wd (updates o.writes (view sh m.store)) (with_record (worker m.table) i o.worker) g L
      → Followed sh wd (perform sh m i o).memory L
  performed m i o ch g L ch₀ K l ins reached ord agrees =
      let v : view sh (write_all sh m.store o.writes)
      ≡ updates o.writes (view sh m.store) = view_write_all sh m.store o.writes K.lent.store ins in
      let t : worker (set m.table i o.worker)
      ≡ with_record (worker m.table) i o.worker = table_set m.table i o.worker (omega (arith, K.lent.table)) in
      record {
        chains = ch;
        ghost = g;
        reached = reached;
        ord = subst⁻¹ (λ T. Ord sh wd (view sh (write_all sh m.store o.writes)) ch T g) t
            (subst⁻¹ (λ x. Ord sh wd x ch (with_record (worker m.table) i o.worker) g) v ord);
        agrees = subst⁻¹ (λ T. Agrees sh wd (view sh (write_all sh m.store o.writes)) T g L) t
            (subst⁻¹ (λ x. Agrees sh wd x (with_record (worker m.table) i o.worker) g L) v agrees);
      }

  -- ── the opening ──
  followed_open : (m : Memory) → (open_pool sh m).response ≡ Opened → Followed sh wd (open_pool sh m).memory new
  unfolding blank
  followed_open m e =
      let (z, q) = opened sh m e in
      subst⁻¹ (λ (n : Memory). Followed sh wd n new) q (record {
        chains = λ b. [];
        ghost = starting.blank (keys sh wd);
        reached = subst (λ (n : Memory). Reached sh n (λ b. [])) q (open_reaches sh m e);
        ord = (joint_open sh wd (view sh (open_store sh m.store)) (worker (open_table sh m.table)) (λ b h. open_head sh m.store b h)
            (λ n h. (open_field sh m.store 7 n (lit< tt) h, open_field sh m.store 2 n (lit< tt) h)) (λ i h. (idle i h, kind i h))).ord;
        agrees = record {
          started = open_started sh m.store;
          what = λ c. refl;
          finish = λ c. refl;
          said = λ c s h. absurd (running_ended s h);
          calls = λ j h b. absurd (b (idle j h));
          marks = λ j h b. absurd (b (idle j h));
          status = λ c lo hi. absurd (omega (arith, open_started sh m.store));
          fresh = λ c h. refl;
        };
      })
    where
      idle : (i : ℕ) → i < sh.workers → (worker (open_table sh m.table) i).stage ≡ 0
      idle i h = ap (λ (w : Worker). w.stage) (open_worker sh m.table i h)

      kind : (i : ℕ) → i < sh.workers → (worker (open_table sh m.table) i).kind ≡ 0
      kind i h = ap (λ (w : Worker). w.kind) (open_worker sh m.table i h)

  -- ── the starts ──
  followed_enqueue : (m : Memory) (L : Ledger) (i : ℕ) (a : Arrival) → Followed sh wd m L → EnqueueAccepted sh m.store m.table i a
      → Followed sh wd (perform sh m i (outcome sh m (Enqueue i a))).memory (begins i (queue.enqueue (item_of a (L.started + 1))) L)
  unfolding enqueue_start
  followed_enqueue m L i a F A =
      let s = m.store in
      let v = view sh s in
      let T = worker m.table in
      let x = first_free sh s m.table in
      let c = started sh s + 1 in
      let l = A.usable.exists in
      let K = F.reached in
      let is_node = first_free_node sh s m.table K.store.last A.node in
      let free = free_node sh s m.table x (first_free_free sh s m.table K.store.last A.node) in
      let w = begun (T i) 1 0 x (bucket_of sh a.time) c in
      let J = joint_enqueue sh wd v F.chains T F.ghost (record { pool = K.inv; ord = F.ord }) i l A.idle w refl x (item_of a c) is_node free refl
      (rw item_bucket_lem (bucket_below sh a.time K.lent.limits.some_bucket)) refl refl (sym (item_bucket_lem sh (item_of a c))) in
      performed m i (outcome sh m (Enqueue i a)) F.chains (logs F.ghost c (some (item_of a c))) (begins i (queue.enqueue (item_of a (L.started + 1))) L)
      F.chains K l
      (enqueue_inside sh s x a (T i) is_node) (reached_enqueue sh m F.chains i a K A) J.ord
      (agrees_start sh wd v T F.ghost L F.agrees i l (updates (outcome sh m (Enqueue i a)).writes v) w (queue.enqueue (item_of a (L.started + 1)))
      (some (item_of a c)) (ap (λ n. some (item_of a (n + 1))) (sym F.agrees.started))
      A.idle (λ z. omega arith) refl refl (λ z p q. omega arith)
      (λ j h b. (
        K.inv.lists.live (T j).ticket (j, h, b, refl),
        λ z p q. key_same sh v F.chains (Live sh.workers T) K.inv.lists x (item_of a c) free (T j).own
            (not_safe sh v F.chains (Live sh.workers T) K.inv.lists x (item_of a c) free (T j).ticket (T j).own (j, h, b, refl)
            (((K.inv.knows j h).search p (omega arith)).dequeue_own z q).stands.safe),
      )))

  followed_dequeue : (m : Memory) (L : Ledger) (i : ℕ) → Followed sh wd m L → DequeueAccepted sh m.store m.table i
      → Followed sh wd (perform sh m i (outcome sh m (Dequeue i))).memory (begins i queue.dequeue L)
  unfolding dequeue_start
  followed_dequeue m L i F A =
      let s = m.store in
      let v = view sh s in
      let T = worker m.table in
      let c = started sh s + 1 in
      let l = A.usable.exists in
      let K = F.reached in
      let w = begun (T i) 8 1 (T i).own (T i).bucket c in
      let J = joint_dequeue sh wd v F.chains T F.ghost (record { pool = K.inv; ord = F.ord }) i l A.idle w refl refl refl in
      performed m i (outcome sh m (Dequeue i)) F.chains (logs F.ghost c none) (begins i queue.dequeue L) F.chains K l
      (dequeue_inside sh s (T i)) (reached_dequeue sh m F.chains i K A) J.ord
      (agrees_start sh wd v T F.ghost L F.agrees i l (updates (outcome sh m (Dequeue i)).writes v) w queue.dequeue none refl A.idle
      (λ z. omega arith) refl refl (λ z p q. omega arith)
      (λ j h b. (K.inv.lists.live (T j).ticket (j, h, b, refl), λ z p q. refl)))

  -- ── a turn ──
  followed_step : (m : Memory) (L : Ledger) (i : ℕ) → Followed sh wd m L → StepAccepted sh m.store m.table i
      → Followed sh wd (perform sh m i (outcome sh m (Step i))).memory (hears i (outcome sh m (Step i)).response (sees sh m i L))
  followed_step m L i F A =
      let s = m.store in
      let v = view sh s in
      let T = worker m.table in
      let l = A.usable.exists in
      let K = F.reached in
      let r = K.table i l in
      let o = outcome sh m (Step i) in
      let c : Change sh s (T i) o = step_is sh s (T i) A.busy r.stage in
      let (g', J, tells, z) = joint_step sh wd s T F.ghost i l A.busy F.chains (record { pool = K.inv; ord = F.ord }) A.epoch
      K.store.current c in
      performed m i o (chains_after sh s T i l A.busy F.chains K.inv c) g' (hears i o.response (sees sh m i L)) F.chains K l
      (change_inside sh s (T i) r c) (reached_step sh m F.chains i K A c) J.ord
      (agrees_step sh wd m F.ghost L F.agrees i l A.busy (K.inv.positive i l A.busy) (K.inv.lists.live (T i).ticket (i, l, A.busy, refl))
      (λ j h u b. K.inv.apart j i h l u b A.busy) ((F.ord.parts i l).runs A.busy)
      r.kind r.enqueues (λ h. r.dequeues h r.stage) o (effect sh s (T i) r.enqueues c) g' z tells)

  followed_act : (m : Memory) (L : Ledger) (a : Action) → Followed sh wd m L → Followed sh wd (act sh m a).memory (reads sh m a L)
  followed_act m L a F = by_act sh (Followed sh wd) m L a F (accepted a)
    where
      accepted : (a : Action) → refusal sh m a ≡ 0
          → Followed sh wd (perform sh m (actor a) (outcome sh m a)).memory (notes sh m a (outcome sh m a).response L)
      accepted (Enqueue i x) e = followed_enqueue m L i x F (enqueue_accepted sh m.store m.table i x e)
      accepted (Dequeue i) e = followed_dequeue m L i F (dequeue_accepted sh m.store m.table i e)
      accepted (Step i) e = followed_step m L i F (step_accepted sh m.store m.table i e)

  followed_run : (m : Memory) (L : Ledger) (h : List Action) → Followed sh wd m L → Followed sh wd (run sh m h) (ledger sh m h L)
  unfolding run ledger
  followed_run m L [] F = F
  followed_run m L (a ∷ h) F = followed_run (act sh m a).memory (reads sh m a L) h (followed_act m L a F)

  -- EVERY HISTORY FROM AN OPENING
  pub followed : (m : Memory) → (open_pool sh m).response ≡ Opened → (h : List Action)
      → Followed sh wd (run sh (open_pool sh m).memory h) (ledger sh (open_pool sh m).memory h new)
  followed m e h = followed_run (open_pool sh m).memory new h (followed_open m e)
