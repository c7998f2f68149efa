-- Over every history from an opening: while a call stands on a node, the arrival in it stays, and so does its epoch, but where
-- the call itself prepares it at 4.
--     kept                                   what one action leaves of a node that a call stands on
--     arrival_fixed, key_fixed               its arrival stays, and so its key: its words of time, order and ticket
--     epoch_fixed                            and its epoch
-- Assumes nothing.
use Rattle.std.specs.Prelude.{◌≡◌, true, false, ◌≢◌, ℕ, ◌+◌, ◌<◌}
use Rattle.std.proofs.Math.Path.{refl, ap, subst⁻¹}
use Rattle.std.proofs.Common.{sym, ◌∙◌, inl, inr, arith}
use mathlib.Core.List.Memᴰ
use mathlib.Core.List.{List, [], ◌∷◌}
use Rattle.std.proofs.Math.Decide.{ℕ_discrete}
use Rattle.arrival.specs.declared.Shape.{Shape}
use Rattle.arrival.specs.declared.Worker.{Worker}
use Rattle.arrival.specs.declared.Action.{Action}
use Rattle.arrival.specs.declared.Action.TheVariants.{Enqueue, Dequeue, Step}
use Rattle.arrival.specs.declared.Response.TheVariants.{Opened}
use Rattle.arrival.specs.Keys.{key_of}
use Rattle.laws.specs.Tests.{never, upd_other}
use Rattle.calendar.specs.rules.Layout.{Write, item_at, epoch_at, started}
use Rattle.calendar.specs.rules.Ranges.{worker}
use Rattle.calendar.specs.rules.Reclaim.{first_free}
use Rattle.calendar.specs.rules.Outcome.{Outcome}
use Rattle.calendar.specs.rules.Starts.{item_of, enqueue_start, dequeue_start}
use Rattle.calendar.specs.rules.EnqueueSteps.{own_epoch}
use Rattle.calendar.specs.rules.Snapshot.{holds}
use Rattle.calendar.specs.rules.Ledger.{new}
use Rattle.calendar.specs.rules.Operations.{Memory, open_pool, refusal, outcome, act, run}
use Rattle.calendar.specs.facts.Views.{View, view, updates, item_in}
use Rattle.calendar.proofs.facts.Views.{view_write_all}
use Rattle.calendar.proofs.facts.FirstFree.{first_free_node, first_free_free}
use Rattle.calendar.proofs.facts.Accepted.{enqueue_accepted, step_accepted}
use Rattle.calendar.proofs.facts.Changes.{Change, head_read, mark_seen, passed, stopped, unlinked, again_3, prepared, linked, again_5, stored_6, on_7, stored_7}
use Rattle.calendar.proofs.facts.Changes.{back_6, current_read, first_read, mark_passed, newer, on_11, marked, back_10, advanced, back_12, emptied, back_13}
use Rattle.calendar.proofs.facts.Changes.{step_is}
use Rattle.calendar.proofs.facts.Inside.{found_writes, settled_writes, walked_writes}
use Rattle.calendar.proofs.facts.Untouched.{outcome_inside}
use Rattle.calendar.proofs.facts.Acting.{by_act}
use Rattle.lists.specs.LinkInvariant.{Chains, Safe, home}
use Rattle.lists.specs.Knowledge.{Private}
use Rattle.lists.specs.Filling.{key_same}
use Rattle.lists.specs.AllCalls.{Live}
use Rattle.lists.specs.TurnsKeepLists.{enqueues}
use Rattle.lists.specs.SafeNodes.{not_stood_on}
use Rattle.lists.specs.FromOpening.{Reached, free_node}
use Rattle.lists.specs.NodeReuse.{SomeReached, history_reaches, act_reaches, free_not_stood_on}
use Rattle.lists.specs.Fixed.{Throughout, StandsOn, OnlyStandsOn}

-- ── one action ──
-- the arrival in x, and where the actor does not prepare x its epoch, are as they were
abbrev Kept : ℕ → View → View → Type 0 → Type 0
Kept x m m' NotPrepared = (item_in m' x ≡ item_in m x) × (NotPrepared → m'.epoch x ≡ m.epoch x)

module _ (sh : Shape) (s : List ℕ) (w : Worker) (x : ℕ) where
  abbrev m : View
  m = view sh s

  nothing : {ws : List Write} → ws ≡ [] → Kept x (view sh s) (updates ws (view sh s)) (w.stage ≡ 4 → w.own ≢ x)
  nothing e = rw e (refl, λ h. refl)

  -- a turn writes no arrival, and an epoch only at 4, its own node's
  changed : {o : Outcome} → Change sh s w o → Kept x (view sh s) (updates o.writes (view sh s)) (w.stage ≡ 4 → w.own ≢ x)
  changed (head_read a b) = nothing (settled_writes sh s b)
  changed (mark_seen a b) = (refl, λ h. refl)
  changed (passed a b c d) = nothing (settled_writes sh s d)
  changed (stopped a b c d) = nothing (found_writes sh s d)
  changed (unlinked a b c) = rw (settled_writes sh s c) (refl, λ h. refl)
  changed (again_3 a b) = (refl, λ h. refl)
  changed (prepared q) = (refl, λ h. upd_other w.own x (own_epoch sh s) (m.epoch x) (h q))
  changed (linked a b) = (refl, λ h. refl)
  changed (again_5 a b) = (refl, λ h. refl)
  changed (stored_6 a b) = (refl, λ h. refl)
  changed (on_7 a b) = (refl, λ h. refl)
  changed (stored_7 a b) = (refl, λ h. refl)
  changed (back_6 a b) = (refl, λ h. refl)
  changed (current_read a) = (refl, λ h. refl)
  changed (first_read a b) = nothing (walked_writes sh s b)
  changed (mark_passed a b c) = nothing (walked_writes sh s c)
  changed (newer a b c) = (refl, λ h. refl)
  changed (on_11 a b c) = (refl, λ h. refl)
  changed (marked a b) = (refl, λ h. refl)
  changed (back_10 a b) = (refl, λ h. refl)
  changed (advanced a b) = (refl, λ h. refl)
  changed (back_12 a b) = (refl, λ h. refl)
  changed (emptied a b) = (refl, λ h. refl)
  changed (back_13 a b) = (refl, λ h. refl)

module _ (sh : Shape) (m : Memory) (ch : Chains) (K : Reached sh m ch) (j x : ℕ) (l : j < sh.workers) (is_node : x < sh.nodes)
    (stood : holds sh (worker m.table j) x ≡ true) where
  abbrev v : View
  v = view sh m.store

  abbrev T : ℕ → Worker
  T = worker m.table

  -- another put's own node at 4 is private to it
  not_another's : (i : ℕ) → i < sh.workers → i ≢ j → (worker m.table i).stage ≡ 4 → (worker m.table i).own ≢ x
  not_another's i li apart four q =
      never (sym stood_off ∙ stood)
    where
      kind : (worker m.table i).kind ≡ 0
      kind = enqueues sh m.store T i li (λ e. omega arith) ch K.inv (omega arith) (omega arith)

      private : Private sh (view sh m.store) ch (worker m.table i).ticket (worker m.table i).own
      private = ((K.inv.knows i li).search (omega arith) (omega arith)).enqueue_own kind (omega arith)

      not_safe : (c n : ℕ) → Safe sh (view sh m.store) ch c n → n ≢ x
      not_safe c n (inl y) e = private.out (home sh v n) (Memᴰ.cast (q ∙ sym e) y)
      not_safe c n (inr (k, z, h)) e = omega (arith, ap v.standing (e ∙ sym q), private.used)

      stood_off : holds sh (worker m.table j) x ≡ false
      stood_off =
          not_stood_on sh v ch (T j) (K.inv.knows j l) x is_node (λ b n busy st. not_safe (T j).ticket n st.safe)
          (λ busy p e. K.inv.apart i j li l apart (λ z. omega arith) busy (sym private.ticketed ∙ ap v.ticket (q ∙ sym e) ∙ p.ticketed))

  -- what is written, and is not refused
  accepted : (a : Action) → refusal sh m a ≡ 0
      → Kept x (view sh m.store) (updates (outcome sh m a).writes (view sh m.store)) ((worker m.table j).stage ≡ 4 → (worker m.table j).own ≢ x)
  unfolding enqueue_start dequeue_start
  accepted (Enqueue i y) e =
      let A = enqueue_accepted sh m.store m.table i y e in
      let n = first_free sh m.store m.table in
      let isFirst = first_free_node sh m.store m.table K.store.last A.node in
      let free = free_node sh m.store m.table n (first_free_free sh m.store m.table K.store.last A.node) in (
        key_same sh v ch (Live sh.workers T) K.inv.lists n (item_of y (started sh m.store + 1)) free x
            (λ q. never (sym (free_not_stood_on sh v ch T K.inv n isFirst free j l) ∙ ap (holds sh (T j)) q ∙ stood)),
        λ h. refl,
      )
  accepted (Dequeue i) e = (refl, λ h. refl)
  accepted (Step i) e =
      let A = step_accepted sh m.store m.table i e in
      let (same, fixed) = changed sh m.store (T i) x (step_is sh m.store (T i) A.busy (K.table i A.usable.exists).stage) in
      (same, λ h. fixed (mine A.usable.exists (ℕ_discrete i j) h))
    where
      mine : i < sh.workers → Dec (i ≡ j) → ((worker m.table j).stage ≡ 4 → (worker m.table j).own ≢ x) → (worker m.table i).stage ≡ 4
          → (worker m.table i).own ≢ x
      mine li (yes q) h = rw q h
      mine li (no q) h = not_another's i li q

  pub kept : (a : Action) → Kept x (view sh m.store) (view sh (act sh m a).memory.store) ((worker m.table j).stage ≡ 4 → (worker m.table j).own ≢ x)
  kept a =
      by_act sh (λ n L. Kept x v (view sh n.store) ((T j).stage ≡ 4 → (T j).own ≢ x)) m new a (refl, λ h. refl)
      (λ e. subst⁻¹ (λ u. Kept x v u ((T j).stage ≡ 4 → (T j).own ≢ x))
      (view_write_all sh m.store (outcome sh m a).writes K.lent.store (outcome_inside sh m a e).1) (accepted a e))

module _ (sh : Shape) (j x : ℕ) (l : j < sh.workers) (is_node : x < sh.nodes) where
  arrival_kept : (m : Memory) → SomeReached sh m → (h : List Action) → Throughout sh (StandsOn sh x) j m h
      → item_at sh (run sh m h).store x ≡ item_at sh m.store x
  unfolding run
  arrival_kept m K [] t = refl
  arrival_kept m K (a ∷ h) t = arrival_kept (act sh m a).memory (act_reaches sh m a K) h t.1 ∙ (kept sh m K.0 K.1 j x l is_node t.0 a).0

  epoch_kept : (m : Memory) → SomeReached sh m → (h : List Action) → Throughout sh (OnlyStandsOn sh x) j m h
      → epoch_at sh (run sh m h).store x ≡ epoch_at sh m.store x
  unfolding run
  epoch_kept m K [] t = refl
  epoch_kept m K (a ∷ h) t = epoch_kept (act sh m a).memory (act_reaches sh m a K) h t.1 ∙ (kept sh m K.0 K.1 j x l is_node t.0.0 a).1 t.0.1

  -- A NODE'S ARRIVAL STAYS WHILE A CALL STANDS ON IT,
  pub arrival_fixed : (m : Memory) → (open_pool sh m).response ≡ Opened → (g h : List Action) → let n = run sh (open_pool sh m).memory g in
      Throughout sh (StandsOn sh x) j n h → item_at sh (run sh n h).store x ≡ item_at sh n.store x
  arrival_fixed m e g h = arrival_kept (run sh (open_pool sh m).memory g) (history_reaches sh m e g) h

  -- SO ITS KEY DOES: TIME, ORDER AND TICKET,
  pub key_fixed : (m : Memory) → (open_pool sh m).response ≡ Opened → (g h : List Action) → let n = run sh (open_pool sh m).memory g in
      Throughout sh (StandsOn sh x) j n h → key_of (item_at sh (run sh n h).store x) ≡ key_of (item_at sh n.store x)
  key_fixed m e g h t = ap key_of (arrival_fixed m e g h t)

  -- AND ITS EPOCH
  pub epoch_fixed : (m : Memory) → (open_pool sh m).response ≡ Opened → (g h : List Action) → let n = run sh (open_pool sh m).memory g in
      Throughout sh (OnlyStandsOn sh x) j n h → epoch_at sh (run sh n h).store x ≡ epoch_at sh n.store x
  epoch_fixed m e g h = epoch_kept (run sh (open_pool sh m).memory g) (history_reaches sh m e g) h
