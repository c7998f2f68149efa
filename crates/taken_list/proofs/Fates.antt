-- Promise 5: what a finished take answered was put, and what was put is answered once, held once, or in the lists.
--     in_lists, lists_put     an arrival is in the lists where its nodes count, and only what was put is
--     holder_busy             who holds an arrival is in progress
--     once_each               the promise
-- Assumes nothing.
use Rattle.std.specs.Prelude.{◌≡◌, refl, ◌≢◌, ◌⊎◌, ℕ}
use Rattle.std.proofs.Common.{sym, ap, ◌∙◌, subst, inl, inr, arith}
use Rattle.std.proofs.Math.Option.{Option, none, some, none-ne-some, some-injective}
use mathlib.Core.List.{List, Memᴰ as Mem}
use Rattle.arrival.specs.declared.Shape.{Shape}
use Rattle.arrival.specs.declared.Item.{Item}
use Rattle.arrival.specs.declared.Response.TheVariants.{Stored, Empty}
use Rattle.arrival.specs.Keys.{bucket_of}
use Rattle.arrival.specs.Queue.{enqueue, dequeue, Reply, lowest, dequeued, reply}
use Rattle.arrival.proofs.QueueLaws.{lowest_in}
use Rattle.laws.specs.Tests.{is_not}
use Rattle.calendar.specs.rules.Ranges.{worker}
use Rattle.calendar.specs.rules.Operations.{Memory}
use Rattle.calendar.specs.rules.Ledger.{Ledger}
use Rattle.calendar.specs.rules.Snapshot.{unmarked_of}
use Rattle.calendar.specs.rules.Linearizability.{Finished, pool_reply, InProgress, HeldBy, AnsweredBy, ListedOrMarked, Correct}
use Rattle.taken_list.specs.Promises.{Answers, InLists, Fate, OnceEach}
use Rattle.taken_list.proofs.LedgerLaws.{Lawful}
use Rattle.calendar.proofs.facts.StoodOn.{marked_stage}
use Rattle.lists.specs.Walks.{unmarked_there, there_unmarked}
use Rattle.taken_list.proofs.OneTake.{marked_is, Met, met}

module _ (sh : Shape) (m : Memory) (L : Ledger) (C : Correct sh m L) (G : Lawful sh L) where
  -- ── in the lists ──
  pub in_lists : (x : Item) → L.asked x.ticket ≡ enqueue x → unmarked_of sh m.store x (C.lists (bucket_of sh x.time)) ≢ 0 → InLists sh m x
  in_lists x a u =
      let b = bucket_of sh x.time in
      let l = (G.put x.ticket x a).3 in
      let (n, i, clean, e) = unmarked_there sh m.store x (C.lists b) u in
      (b, n, C.lists b, l, C.listed b l, i, clean, e)

  -- where it is in the lists: in that of its bucket, and it was put
  pub lists_put : (x : Item) → InLists sh m x → (L.asked x.ticket ≡ enqueue x) × (unmarked_of sh m.store x (C.lists (bucket_of sh x.time)) ≢ 0)
  lists_put x (b, n, ns, l, e, i, clean, q) =
      let same : ns ≡ C.lists b = some-injective _ _ (sym e ∙ C.listed b l) in
      let j : Mem n (C.lists b) = subst (λ (k : List ℕ). Mem n k) same i in
      let (a, home) = C.listed_put b n l j clean in (
        subst (λ (y : Item). L.asked y.ticket ≡ enqueue y) q a,
        there_unmarked sh m.store x n (C.lists (bucket_of sh x.time))
            (subst (λ c. Mem n (C.lists c)) (sym home ∙ ap (λ (y : Item). bucket_of sh y.time) q) j) clean q,
      )

  -- ── a finished call ──
  stored : (c : ℕ) (x : Item) → L.asked c ≡ enqueue x → Finished L c → L.response c ≡ Stored c
  stored c x a f =
      let M = met sh m L C G c f in
      let said : reply M.items (enqueue x) ≡ pool_reply L c = sym (ap (reply M.items) a) ∙ M.replied in
      sym (ap (λ (r : Reply). r.response) said) ∙ ap Stored (G.put c x a).0

  answer : (d : ℕ) → L.asked d ≡ dequeue → Finished L d → (L.response d ≡ Empty) ⊎ ((x : Item) × Answers L d x × (L.asked x.ticket ≡ enqueue x))
  answer d a f = go (met sh m L C G d f)
    where
      go : Met sh m L C G d → (L.response d ≡ Empty) ⊎ ((x : Item) × Answers L d x × (L.asked x.ticket ≡ enqueue x))
      go M = by_lowest (lowest M.items) refl (sym (ap (reply M.items) a) ∙ M.replied)
        where
          by_lowest : (o : Option Item) → lowest M.items ≡ o → dequeued (lowest M.items) ≡ pool_reply L d
              → (L.response d ≡ Empty) ⊎ ((x : Item) × Answers L d x × (L.asked x.ticket ≡ enqueue x))
          by_lowest none e r = inl (ap (λ (u : Reply). u.response) (sym r ∙ ap dequeued e))
          by_lowest (some x) e r =
              let put = M.were_put x (lowest_in M.items x e) in
              let said : pool_reply L d ≡ dequeued (some x) = sym r ∙ ap dequeued e in
              inr (x, ((f, ap (λ (u : Reply). u.response) said), marked_is sh m L C G d x put (ap (λ (u : Reply). u.ticket) said)), put)

  -- ── a finished put ──
  -- who holds an arrival is in progress
  pub holder_busy : (d : ℕ) (x : Item) → HeldBy sh m L d x → InProgress sh m L d
  holder_busy d x (i, l, c, e, q) =
      let (kind, lo, hi) = marked_stage (worker m.table i) e in (i, l, c, is_not (worker m.table i).stage 0 (λ z. omega arith))

  holds_on : (d : ℕ) (x : Item) → HeldBy sh m L d x → Finished L d → ⊥
  holds_on d x h (s, f) = none-ne-some _ (sym (C.in_progress_not_ended d (holder_busy d x h)) ∙ f)

  fate_of : (c : ℕ) (x : Item) → L.asked c ≡ enqueue x → Finished L c → Fate sh m L x
  fate_of c x a f = go (C.not_lost c x a f)
    where
      only : (d e : ℕ) → L.marked d ≡ some x → L.marked e ≡ some x → e ≡ d
      only d e k j = C.marked_once e d x x j k refl

      kept : unmarked_of sh m.store x (C.lists (bucket_of sh x.time)) ≡ 0 → (d : ℕ) → L.marked d ≡ some x → HeldBy sh m L d x ⊎ AnsweredBy L d x
          → Fate sh m L x
      kept z d k (inl h) = inr (inl (
        (d, h, λ e g. only d e k (C.held_marked e x g)),
        λ e g. holds_on d x h (subst (λ n. Finished L n) (only d e k g.1) g.0.0),
        λ i. (lists_put x i).1 z,
      ))
      kept z d k (inr h) = inl (
        (d, (h, k), λ e g. only d e k g.1),
        λ e g. holds_on e x g (subst (λ n. Finished L n) (sym (only d e k (C.held_marked e x g))) h.0),
        λ i. (lists_put x i).1 z,
      )

      go : ListedOrMarked L x (unmarked_of sh m.store x (C.lists (bucket_of sh x.time))) → Fate sh m L x
      go (inl (one, nobody)) =
          let listed = in_lists x (ap L.asked (G.put c x a).0 ∙ a) (λ z. omega arith) in
          inr (inr (listed, λ e g. nobody e g.1, λ e g. nobody e (C.held_marked e x g)))
      go (inr (z, (d, k))) = kept z d k (C.marked_kept d x k)

  pub once_each : OnceEach sh m L
  once_each = record {
    put_stored = stored;
    answered_put = answer;
    answered_once = λ c d x y g h t. C.marked_once c d x y g.1 h.1 t;
    fate = λ c x a f. ((G.put c x a).0, fate_of c x a f);
  }
