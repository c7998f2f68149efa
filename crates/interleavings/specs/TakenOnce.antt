-- What becomes of an item: one take marks it, and holds or has answered it; until then a put that has ended has it unmarked
-- in its bucket's list, once.
--     marked_put      what is marked was put
--     marked_once     no two takes mark one arrival
--     marked_kept     whoever marked it holds it or has answered it
--     held_marked     whoever holds it has marked it
--     marks_new       a take marks at most once
--     not_lost        a put that ended: unmarked in its list once, or marked
--     listed_put      what a list holds unmarked was put
-- Assumes nothing.
use Rattle.std.specs.Prelude.{◌≡◌, true, false, ◌≢◌, ◌⊎◌, ℕ, ◌≤◌, ◌<◌, eqb}
use Rattle.std.proofs.Common.{sym, ap, ◌∙◌, subst, inl, inr, arith, eqb-true, eq-eqb, le-leb}
use Rattle.std.proofs.Math.Option.{none, some, none-ne-some, some-injective}
use mathlib.Core.List.{[], Memᴰ as Mem}
use Rattle.arrival.specs.declared.Shape.{Shape}
use Rattle.arrival.specs.declared.Item.{Item}
use Rattle.arrival.specs.declared.Worker.{Worker}
use Rattle.arrival.specs.Keys.{bucket_of, item_bucket}
use Rattle.arrival.proofs.Keys.{item_bucket_lem}
use Rattle.arrival.specs.Queue as queue
use Rattle.laws.specs.Tests.{parts}
use Rattle.calendar.specs.rules.Layout.{link, item_at, is_marked}
use Rattle.calendar.specs.rules.Ranges.{worker}
use Rattle.calendar.specs.rules.Operations.{Memory}
use Rattle.calendar.specs.rules.Ledger.{Ledger, succeeds_11}
use Rattle.calendar.specs.rules.Snapshot.{unmarked_of, has_marked}
use Rattle.calendar.specs.rules.Linearizability.{Finished, HeldBy, AnsweredBy, ListedOrMarked}
use Rattle.calendar.specs.facts.Views.{View, view, item_in}
use Rattle.calendar.proofs.facts.StoodOn.{marked_stage}
use Rattle.order.specs.Entries.{Element, Entry, enqueue, dequeue, empty, scan, ticket, run}
use Rattle.order.specs.RealTime.{ended, ticket_of_lem}
use Rattle.order.specs.Calls.{Call}
use Rattle.order.specs.EntriesAfterMark.{taken_gone, taken_enqueued}
use Rattle.order.specs.ElementFate.{taken_once, enqueued_or_taken}
use Rattle.lists.specs.LinkInvariant.{chain_distinct}
use Rattle.lists.specs.Walks.{unmarked_none, unmarked_once}
use Rattle.interleavings.specs.ItemKeys.{keys}
use Rattle.interleavings.specs.Nodes.{one_node}
use Rattle.interleavings.specs.Agreement.{item_asked, ended_at, Status}
use Rattle.interleavings.specs.AlongHistory.{Followed}
use Rattle.interleavings.specs.CallEntries.{asked_put, end_known, marked_status, holder, answered, marked_entry, entry_marked}

module _ (sh : Shape) (wd : 1 ≤ sh.width) (m : Memory) (L : Ledger) (F : Followed sh wd m L) where
  abbrev v : View
  v = view sh m.store

  abbrev T : ℕ → Worker
  T = worker m.table

  abbrev elem : Item → Element (keys sh wd)
  elem x = record { it = x }

  abbrev order : Rattle.order.specs.Entries.Order (keys sh wd)
  order = F.ghost.order

  -- what is taken was put
  put_entry : (d : ℕ) (x : Item) → Mem (dequeue (elem x) d) order → Mem (enqueue (elem x)) order
  put_entry d x k = go (taken_enqueued [] order (elem x) d F.ord.whole.orderly.legal k)
    where
      go : Mem {A = Element (keys sh wd)} (record { it = x }) [] ⊎ Mem (enqueue (record { it = x })) F.ghost.order
          → Mem (enqueue (record { it = x })) F.ghost.order
      go (inl j) = elim j [ ]
      go (inr j) = j

  pub marked_put : (d : ℕ) (x : Item) → L.marked d ≡ some x → L.asked x.ticket ≡ queue.enqueue x
  marked_put d x e =
      let put = put_entry d x (marked_entry sh wd m L F d x e) in
      asked_put (L.asked x.ticket) x (sym (F.agrees.what x.ticket) ∙ F.ord.whole.entries (enqueue (elem x)) put)

  pub marked_once : (c d : ℕ) (x y : Item) → L.marked c ≡ some x → L.marked d ≡ some y → x.ticket ≡ y.ticket → c ≡ d
  marked_once c d x y e f t =
      let q : x ≡ y = some-injective _ _ (sym (F.ord.whole.entries (enqueue (elem x)) (put_entry c x (marked_entry sh wd m L F c x e)))
      ∙ ap F.ghost.what t
      ∙ F.ord.whole.entries (enqueue (elem y)) (put_entry d y (marked_entry sh wd m L F d y f))) in
      taken_once [] order (elem x) c d F.ord.whole.orderly.legal F.ord.whole.distinct (λ j. elim j [ ]) (marked_entry sh wd m L F c x e)
      (subst (λ (z : Item). Mem (dequeue (elem z) d) order) (sym q) (marked_entry sh wd m L F d y f))

  holds_bits : (w : Worker) → w.kind ≡ 1 → 1 ≤ w.stage → w.stage ≤ 3 → has_marked w ≡ true
  holds_bits w z lo hi = rw (eq-eqb w.kind 1 z, le-leb 1 w.stage lo, le-leb w.stage 3 hi)

  pub marked_kept : (d : ℕ) (x : Item) → L.marked d ≡ some x → HeldBy sh m L d x ⊎ AnsweredBy L d x
  marked_kept d x e = go (marked_status sh wd m L F d x e)
    where
      go : Status sh.workers (worker m.table) F.ghost.hist.end d → HeldBy sh m L d x ⊎ AnsweredBy L d x
      go (inl (j, h, b, t)) = let (z, lo, hi, q) = holder sh wd m L F j d x h b t e in inl (j, h, F.agrees.calls j h b ∙ t, holds_bits (T j) z lo hi, q)
      go (inr (s, q)) = inr ((s, F.agrees.finish d ∙ ap ended_at q), (answered sh wd m L F d s x q e).1)

  pub held_marked : (d : ℕ) (x : Item) → HeldBy sh m L d x → L.marked d ≡ some x
  held_marked d x (i, h, c, e, q) =
      let (kind, lo, hi) = marked_stage (T i) e in
      let b : (T i).stage ≢ 0 = λ z. omega arith in
      ap L.marked (sym c ∙ F.agrees.calls i h b) ∙ (F.agrees.marks i h b).holding kind lo hi ∙ ap some q

  pub marks_new : (i : ℕ) → i < sh.workers → succeeds_11 sh m.store (worker m.table i) ≡ true → L.marked (L.call_of i) ≡ none
  marks_new i h e =
      let eleven = eqb-true (T i).stage 11 (parts (eqb (T i).stage 11) _ e).0 in
      let b : (T i).stage ≢ 0 = λ q. omega arith in
      ap L.marked (F.agrees.calls i h b) ∙ (F.agrees.marks i h b).clear (inr (omega arith))

  -- ── a put that has ended ──
  ended_entry : (c s : ℕ) (x : Item) → L.asked c ≡ queue.enqueue x → F.ghost.hist.end c ≡ ended s → (x.ticket ≡ c) × Mem (enqueue (elem x)) order
  ended_entry c s x a e = go (F.ghost.said c) (F.ord.whole.finished c s e)
    where
      what : F.ghost.what c ≡ some x
      what = F.agrees.what c ∙ ap item_asked a

      go : (f : Entry (keys sh wd)) → Mem f F.ghost.order × Call f × (ticket_of_lem f ≡ c)
          → (x.ticket ≡ c) × Mem (enqueue (record { it = x })) F.ghost.order
      go (enqueue y) (k, b, t) =
          let q : y.it ≡ x = some-injective _ _ (sym (F.ord.whole.entries (enqueue y) k) ∙ ap F.ghost.what t ∙ what) in
          (ap (λ (z : Item). z.ticket) (sym q) ∙ t, subst (λ (z : Item). Mem (enqueue (elem z)) order) q k)
      go (dequeue z n) (k, b, t) = absurd (none-ne-some _ (sym (F.ord.whole.entries (dequeue z n) k) ∙ ap F.ghost.what t ∙ what))
      go (empty n) (k, b, t) = absurd (none-ne-some _ (sym (F.ord.whole.entries (empty n) k) ∙ ap F.ghost.what t ∙ what))
      go (scan w) (k, b, t) = absurd b

  in_queue_once : (x : Item) → Mem (elem x) (run [] order)
      → (unmarked_of sh m.store x (F.chains (bucket_of sh x.time)) ≡ 1) × ((d : ℕ) → L.marked d ≢ some x)
  in_queue_once x k =
      let (n, H) = F.ord.whole.from (elem x) k in
      let I = F.reached.inv in
      let b = item_bucket_lem sh x in (
        subst (λ q. unmarked_of sh m.store x (F.chains q) ≡ 1) b
            (unmarked_once sh m.store x n (F.chains (item_bucket sh x))
            (chain_distinct sh v (F.chains (item_bucket sh x)) (I.lists.ascends (item_bucket sh x))) H.inside H.clean H.key
            (λ j i u q. u (one_node sh v F.chains T I j n (I.lists.member (item_bucket sh x) j i).is_node
            (I.lists.member (item_bucket sh x) n H.inside).is_node (F.ord.whole.ticketed (item_bucket sh x) j i)
            (ap (λ (y : Item). y.ticket) q ∙ ap (λ (y : Item). y.ticket) (sym H.key))))),
        λ d e. taken_gone [] order (elem x) d F.ord.whole.orderly.legal F.ord.whole.distinct (λ j. elim j [ ]) (marked_entry sh wd m L F d x e) k,
      )

  taken_nowhere : (c s : ℕ) (x : Item) (d : ℕ) → x.ticket ≡ c → F.ghost.hist.end c ≡ ended s → Mem (dequeue (elem x) d) order
      → unmarked_of sh m.store x (F.chains (bucket_of sh x.time)) ≡ 0
  taken_nowhere c s x d t e k =
      unmarked_none sh m.store x (F.chains (bucket_of sh x.time))
      (λ n i clean q. taken_gone [] order (elem x) d F.ord.whole.orderly.legal F.ord.whole.distinct (λ j. elim j [ ]) k
      (subst (λ (y : Item). Mem (elem y) (run [] order)) q (F.ord.whole.into (bucket_of sh x.time) n s i clean (ap F.ghost.hist.end
      (ap (λ (y : Item). y.ticket) q ∙ t)
      ∙ e))))

  pub not_lost : (c : ℕ) (x : Item) → L.asked c ≡ queue.enqueue x → Finished L c
      → ListedOrMarked L x (unmarked_of sh m.store x (F.chains (bucket_of sh x.time)))
  not_lost c x a (s, q) = go (enqueued_or_taken [] order (elem x) (inr (ended_entry c s x a e).1))
    where
      e : F.ghost.hist.end c ≡ ended s
      e = end_known (F.ghost.hist.end c) s (sym (F.agrees.finish c) ∙ q)

      go : Mem (record { it = x }) (run [] F.ghost.order) ⊎ ((d : ℕ) × Mem (dequeue (record { it = x }) d) F.ghost.order)
          → ListedOrMarked L x (unmarked_of sh m.store x (F.chains (bucket_of sh x.time)))
      go (inl k) = inl (in_queue_once x k)
      go (inr (d, k)) = inr (taken_nowhere c s x d (ended_entry c s x a e).0 e k, (d, entry_marked sh wd m L F d x k))

  -- ── what a list holds ──
  pub listed_put : (b n : ℕ) → b < sh.buckets → Mem n (F.chains b) → is_marked (link sh m.store n) ≡ false
      → (L.asked (item_at sh m.store n).ticket ≡ queue.enqueue (item_at sh m.store n)) × (bucket_of sh (item_at sh m.store n).time ≡ b)
  listed_put b n h k e =
      let x = item_in v n in
      let M = F.reached.inv.lists.member b n k in
      let some-ticket : v.ticket n ≢ 0 = λ z. omega (arith, F.ord.whole.ticketed b n k) in (
        asked_put (L.asked x.ticket) x (sym (F.agrees.what x.ticket) ∙ F.ord.whole.logged n M.is_node some-ticket),
        sym (item_bucket_lem sh x) ∙ M.at_home,
      )
