-- Entries of the order, and the calls, marks and ends of the ledger.
--     one_entry, asked_put, asked_take, end_known     of entries, calls and ends
--     in_progress_or_ended, in_progress_not_ended     a call that started is one of both
--     marked_status                                   what is marked is marked by a call in progress or one that has ended
--     holder, answered                                it holds the item, or has answered it
--     marked_entry, entry_marked                      what is marked has its entry, and the other way round
--     empty_ended                                     an entry that answers empty is of a call that has ended
-- Assumes nothing.
use Rattle.std.specs.Prelude.{◌≡◌, refl, Bool, true, false, ◌≢◌, ◌⊎◌, ℕ, ◌≤◌, ◌<◌, leb}
use Rattle.std.proofs.Common.{sym, ap, ◌∙◌, subst, inl, inr, pos_of_ne-zero, arith, leb-true, leb-false}
use Rattle.std.proofs.Math.Option.{none, some, none-ne-some, some-injective}
use mathlib.Core.List.Memᴰ.{head as here}
use mathlib.Core.List.Memᴰ.{tail as there}
use mathlib.Core.List.{[], ◌∷◌, Memᴰ as Mem}
use Rattle.arrival.specs.declared.Shape.{Shape}
use Rattle.arrival.specs.declared.Item.{Item}
use Rattle.arrival.specs.declared.Worker.{Worker}
use Rattle.arrival.specs.Queue as queue
use Rattle.laws.specs.Tests.{isnt, is_not, by_size}
use Rattle.calendar.specs.rules.Ranges.{worker}
use Rattle.calendar.specs.rules.Operations.{Memory}
use Rattle.calendar.specs.rules.Ledger.{Ledger}
use Rattle.calendar.specs.rules.Linearizability.{Finished, InProgress}
use Rattle.calendar.specs.facts.Views.{View, view, item_in}
use Rattle.order.specs.Entries.{Keys, Element, Entry, enqueue, dequeue, empty, scan, Order}
use Rattle.order.specs.RealTime.{End, running, ended, ticket_of_lem}
use Rattle.order.specs.Scans.{running_ended}
use Rattle.order.specs.Calls.{Call, Distinct}
use Rattle.interleavings.specs.ItemKeys.{keys}
use Rattle.interleavings.specs.Joint.{Absent, Part}
use Rattle.interleavings.specs.Agreement.{item_asked, ended_at, Same, MarkOf, Status}
use Rattle.interleavings.specs.AlongHistory.{Followed}

-- two entries of one ticket are one
pub one_entry : {K : Keys} (L : Order K) (e f : Entry K) → Distinct L → Mem e L → Mem f L → Call e → Call f → ticket_of_lem e ≡ ticket_of_lem f → e ≡ f
one_entry [] e f D m _ a b t = elim m [ ]
one_entry (g ∷ L) e f D (here p) (here q) a b t = p ∙ sym q
one_entry (g ∷ L) e f D (here p) (there q) a b t = absurd (D.0 f q (subst Call p a) b (ap ticket_of_lem (sym p) ∙ t))
one_entry (g ∷ L) e f D (there p) (here q) a b t = absurd (D.0 e p (subst Call q b) a (ap ticket_of_lem (sym q) ∙ sym t))
one_entry (g ∷ L) e f D (there p) (there q) a b t = one_entry L e f D.1 p q a b t

-- a call that puts x
pub asked_put : (c : queue.Call) (x : Item) → item_asked c ≡ some x → c ≡ queue.enqueue x
asked_put (queue.enqueue y) x e = let z : y ≡ x = cc in ap queue.enqueue z
asked_put queue.dequeue x e = absurd (none-ne-some _ e)

pub asked_take : (c : queue.Call) → item_asked c ≡ none → c ≡ queue.dequeue
asked_take (queue.enqueue y) e = absurd (none-ne-some _ (sym e))
asked_take queue.dequeue e = refl

-- a finished call's end
pub end_known : (d : End) (s : ℕ) → ended_at d ≡ some s → d ≡ ended s
end_known running s e = absurd (let z : ◌≡◌ {A = ℕ} 0 1 = cc in omega arith)
end_known (ended t) s e = let z : t ≡ s = cc in ap ended z

module _ (sh : Shape) (wd : 1 ≤ sh.width) (m : Memory) (L : Ledger) (F : Followed sh wd m L) where
  abbrev v : View
  v = view sh m.store

  abbrev T : ℕ → Worker
  T = worker m.table

  abbrev elem : Item → Element (keys sh wd)
  elem x = record { it = x }

  abbrev order : Order (keys sh wd)
  order = F.ghost.order

  pub in_progress_or_ended : (c : ℕ) → 1 ≤ c → c ≤ L.started → InProgress sh m L c ⊎ Finished L c
  in_progress_or_ended c lo hi = go (F.agrees.status c lo (omega (arith, F.agrees.started)))
    where
      go : Status sh.workers (worker m.table) F.ghost.hist.end c → InProgress sh m L c ⊎ Finished L c
      go (inl (j, h, b, t)) = inl (j, h, F.agrees.calls j h b ∙ t, is_not (T j).stage 0 b)
      go (inr (s, e)) = inr (s, F.agrees.finish c ∙ ap ended_at e)

  pub in_progress_not_ended : (c : ℕ) → InProgress sh m L c → L.ended c ≡ none
  in_progress_not_ended c (j, h, q, e) =
      let b = isnt (T j).stage 0 e in
      let t : (T j).ticket ≡ c = sym (F.agrees.calls j h b) ∙ q in
      F.agrees.finish c ∙ ap ended_at (ap F.ghost.hist.end (sym t) ∙ (F.ord.parts j h).runs b)

  -- what is marked is marked by a call that started
  marked_within : (d : ℕ) (x : Item) → L.marked d ≡ some x → (1 ≤ d) × (d ≤ v.started)
  marked_within d x e = (
    by_size 0 d (λ h. omega arith) (λ h. absurd (none_marked (F.agrees.fresh d (inl (omega arith))))),
    by_size v.started d (λ h. absurd (none_marked (F.agrees.fresh d (inr h)))) (λ h. h),
  )
    where
      none_marked : L.marked d ≡ none → ⊥
      none_marked f = none-ne-some _ (sym f ∙ e)

  -- it is in progress or has ended
  pub marked_status : (d : ℕ) (x : Item) → L.marked d ≡ some x → Status sh.workers T F.ghost.hist.end d
  marked_status d x e = let (lo, hi) = marked_within d x e in F.agrees.status d lo hi

  -- a call in progress that marked something is a take at 1 to 3, and holds it
  pub holder : (j d : ℕ) (x : Item) → j < sh.workers → (T j).stage ≢ 0 → (T j).ticket ≡ d → L.marked d ≡ some x
      → ((T j).kind ≡ 1) × (1 ≤ (T j).stage) × ((T j).stage ≤ 3) × (item_in v (T j).own ≡ x)
  holder j d x h b t e = by_kind (F.reached.inv.knows j h).kinds
    where
      mark : L.marked (worker m.table j).ticket ≡ some x
      mark = ap L.marked t ∙ e

      M : MarkOf (view sh m.store) (worker m.table j) (L.marked (worker m.table j).ticket)
      M = F.agrees.marks j h b

      by_stage : (worker m.table j).kind ≡ 1 → (c : Bool) → leb (worker m.table j).stage 7 ≡ c
          → ((worker m.table j).kind ≡ 1) × (1 ≤ (worker m.table j).stage) × ((worker m.table j).stage ≤ 3)
          × (item_in (view sh m.store) (worker m.table j).own ≡ x)
      by_stage z true q =
          let hi = (F.reached.inv.knows j h).dequeues z (leb-true (T j).stage 7 q) in
          let lo : 1 ≤ (T j).stage = pos_of_ne-zero b in
          (z, lo, hi, some-injective _ _ (sym (M.holding z lo hi) ∙ mark))
      by_stage z false q = absurd (none-ne-some _ (sym (M.clear (inr (leb-false (T j).stage 7 q))) ∙ mark))

      by_kind : ((worker m.table j).kind ≡ 0) ⊎ ((worker m.table j).kind ≡ 1) → ((worker m.table j).kind ≡ 1) × (1 ≤ (worker m.table j).stage)
          × ((worker m.table j).stage ≤ 3) × (item_in (view sh m.store) (worker m.table j).own ≡ x)
      by_kind (inl z) = absurd (none-ne-some _ (sym (M.clear (inl z)) ∙ mark))
      by_kind (inr z) = by_stage z (leb (T j).stage 7) refl

  -- a finished call that marked something answered it
  pub answered : (d s : ℕ) (x : Item) → F.ghost.hist.end d ≡ ended s → L.marked d ≡ some x
      → (F.ghost.said d ≡ dequeue (elem x) d) × (L.response d ≡ queue.taken x)
  answered d s x e k = go (F.ghost.said d) (F.agrees.said d s e) (F.ord.whole.finished d s e).2
    where
      go : (f : Entry (keys sh wd)) → Same sh wd f (L.response d) (L.marked d) → ticket_of_lem f ≡ d
          → (f ≡ dequeue (record { it = x }) d) × (L.response d ≡ queue.taken x)
      go (enqueue y) (r, n) t = absurd (none-ne-some _ (sym n ∙ k))
      go (dequeue z c) (r, n) t = let q : z.it ≡ x = some-injective _ _ (sym n ∙ k) in (λ i. dequeue (record { it = q i }) (t i), r ∙ ap queue.taken q)
      go (empty c) (r, n) t = absurd (none-ne-some _ (sym n ∙ k))
      go (scan w) n t = absurd n

  -- what is marked has its entry
  pub marked_entry : (d : ℕ) (x : Item) → L.marked d ≡ some x → Mem (dequeue (elem x) d) order
  marked_entry d x e = go (marked_status d x e)
    where
      go : Status sh.workers (worker m.table) F.ghost.hist.end d → Mem (dequeue (record { it = x }) d) F.ghost.order
      go (inl (j, h, b, t)) =
          let (z, lo, hi, q) = holder j d x h b t e in
          subst (λ n. Mem (dequeue (elem x) n) order) t
          (subst (λ (y : Item). Mem (dequeue (elem y) (T j).ticket) order) q ((F.ord.parts j h).marked_own lo hi z))
      go (inr (s, q)) = subst (λ f. Mem f order) (answered d s x q e).0 (F.ord.whole.finished d s q).0

  -- and the other way round
  pub entry_marked : (d : ℕ) (x : Item) → Mem (dequeue (elem x) d) order → L.marked d ≡ some x
  entry_marked d x k = go (F.ghost.hist.end d) refl
    where
      go : (y : End) → F.ghost.hist.end d ≡ y → L.marked d ≡ some x
      go running e =
          let (j, h, H) = F.ord.whole.held (elem x) d k e in
          let b : (T j).stage ≢ 0 = λ q. omega (arith, H.lo) in
          ap L.marked (sym H.bears) ∙ (F.agrees.marks j h b).holding H.isDequeue H.lo H.hi ∙ ap some H.key
      go (ended s) e =
          let (i, c, t) = F.ord.whole.finished d s e in
          let q = one_entry order (F.ghost.said d) (dequeue (elem x) d) F.ord.whole.distinct i k c tt t in
          (subst (λ f. Same sh wd f (L.response d) (L.marked d)) q (F.agrees.said d s e)).1

  -- an entry that answers empty is of a call that has ended
  pub empty_ended : (d : ℕ) → Mem (empty d) order → F.ghost.hist.end d ≡ running → ⊥
  empty_ended d k r =
      go (F.agrees.status d (F.ord.whole.proper (empty d) k tt) (F.ord.whole.bound (empty d) k))
    where
      go : Status sh.workers (worker m.table) F.ghost.hist.end d → ⊥
      go (inr (s, e)) = running_ended s (sym r ∙ e)
      go (inl (j, h, b, t)) = by_kind (F.reached.inv.knows j h).kinds
        where
          P : Part sh wd (view sh m.store) F.ghost j (worker m.table j)
          P = F.ord.parts j h

          present : Absent (worker m.table j).ticket F.ghost.order → ⊥
          present f = f (empty d) k tt (sym t)

          -- a put's entry is no answer of empty
          put : (worker m.table j).kind ≡ 0 → 6 ≤ (worker m.table j).stage → (worker m.table j).stage ≤ 7 → ⊥
          put z lo hi =
              let K = (F.reached.inv.knows j h).linked lo hi in
              let q = F.ord.whole.logged (T j).own K.node.is_node (λ e. omega (arith, K.ticketed, F.reached.inv.positive j h b)) in
              none-ne-some _ (sym (F.ord.whole.entries (empty d) k) ∙ ap F.ghost.what (sym (K.ticketed ∙ t)) ∙ q)

          by_kind : ((worker m.table j).kind ≡ 0) ⊎ ((worker m.table j).kind ≡ 1) → ⊥
          by_kind (inl z) =
              by_size 5 (T j).stage (λ h6. put z h6 ((F.reached.inv.knows j h).enqueues z)) (λ h5. present (P.unlinked (pos_of_ne-zero b) h5 z))
          by_kind (inr z) = by_size 7 (T j).stage (λ h8. present (P.walking h8)) (λ h7. take ((F.reached.inv.knows j h).dequeues z h7))
            where
              take : (worker m.table j).stage ≤ 3 → ⊥
              take hi =
                  let x = item_in v (T j).own in
                  let own = P.marked_own (pos_of_ne-zero b) hi z in
                  let q : dequeue (elem x) (T j).ticket
                  ≡ empty d = one_entry order (dequeue (elem x) (T j).ticket) (empty d) F.ord.whole.distinct own k tt tt t in
                  let y : ◌≡◌ {A = ℕ} 0 1 = cc in
                  omega arith
