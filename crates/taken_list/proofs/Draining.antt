-- Promise 6: from a place where no call is in progress, takes in turn answer what is in the lists, in the order of keys, and then empty.
-- L is the ledger at the place, M the ledger later.
--     drained_from     the promise, from what is known of both
-- Assumes nothing.
use Rattle.std.specs.Prelude.{◌≡◌, refl, ◌≢◌, ◌⊎◌, ℕ, suc, ◌+◌, ◌≤◌, ◌<◌, length}
use Rattle.std.proofs.Common.{sym, ap, ◌∙◌, subst, inl, inr, arith}
use Rattle.std.proofs.Math.Option.{some}
use mathlib.Core.List.Memᴰ
use mathlib.Core.List.{List, [], ◌++◌, Memᴰ as Mem}
use Rattle.arrival.specs.declared.Shape.{Shape}
use Rattle.arrival.specs.declared.Item.{Item}
use Rattle.arrival.specs.Keys.{bucket_of}
use Rattle.arrival.specs.Queue.{enqueue, dequeue, Items, dequeued}
use Rattle.arrival.specs.QueueLaws.{drained, Told}
use Rattle.arrival.proofs.QueueLaws.{drained_in, in_drained}
use Rattle.laws.specs.Tests.{never}
use Rattle.laws.specs.Lists.{words_in, Once, once_front, once_behind}
use Rattle.calendar.specs.rules.Operations.{Memory}
use Rattle.calendar.specs.rules.Ledger.{Ledger}
use Rattle.calendar.specs.rules.Snapshot.{unmarked_of}
use Rattle.calendar.specs.rules.Linearizability.{Finished, RespectsTime, mark_ticket, pool_reply, InProgress, HeldBy, AnsweredBy, ListedOrMarked, Correct}
use Rattle.taken_list.specs.Promises.{InLists, Quiet, TakesInTurn, nth, Drained}
use Rattle.taken_list.proofs.LedgerLaws.{Lawful, Kept}
use Rattle.taken_list.proofs.Along.{remaining, Fits, fits, fits_front, fits_behind, Put, Marked, remaining_put, in_or_marked, marked_gone}
use Rattle.taken_list.proofs.OneTake.{time_behind, one_put, marked_is, met, marks_takes}
use Rattle.taken_list.proofs.Fates.{in_lists, lists_put, holder_busy}
use Rattle.taken_list.proofs.InTurn.{count_from, in_turn}
use Rattle.taken_list.proofs.TakesAlone.{Divided, divided, ascending_drained, drained_answers}

module _ (sh : Shape) (m : Memory) (L : Ledger) (C : Correct sh m L) (G : Lawful sh L) (quiet : Quiet sh m) where
  nobody : (c : ℕ) → InProgress sh m L c → ⊥
  nobody c (i, l, q, e) = never (sym (quiet i l) ∙ e)

  -- so every call has ended
  ended : (c : ℕ) → 1 ≤ c → c ≤ L.started → (s : ℕ) × (L.ended c ≡ some s) × (s ≤ L.started)
  ended c lo hi = go (C.in_progress_or_ended c lo hi)
    where
      go : InProgress sh m L c ⊎ Finished L c → (s : ℕ) × (L.ended c ≡ some s) × (s ≤ L.started)
      go (inl p) = absurd (nobody c p)
      go (inr (s, e)) = (s, e, (G.ended c s e).1)

  -- and nobody holds anything
  marked_ended : (d : ℕ) (x : Item) → L.marked d ≡ some x → Finished L d
  marked_ended d x k = go (C.marked_kept d x k)
    where
      go : HeldBy sh m L d x ⊎ AnsweredBy L d x → Finished L d
      go (inl h) = absurd (nobody d (holder_busy sh m L C G d x h))
      go (inr h) = h.0

  module _ (n : Memory) (M : Ledger) (D : Correct sh n M) (H : Lawful sh M) (K : Kept L M) (turns : TakesInTurn L.started M) where
    -- ── the order falls into the calls before the place, and the takes behind it ──
    parts_of : Divided L.started D.linearization.order
    parts_of =
        divided M L.started D.linearization.order D.linearization.real_time
        (λ c i h. let (s, e, l) = ended c (D.linearization.calls c i).0 h in (s, K.ended c s e, l))

    module _ (front rest : List ℕ) (whole : D.linearization.order ≡ front ++ rest) (low : (c : ℕ) → Mem c front → c ≤ L.started)
        (high : (c : ℕ) → Mem c rest → L.started < c) where
      along : Fits M [] (front ++ rest)
      along = subst (λ (o : List ℕ). Fits M [] o) whole (fits M [] D.linearization.order D.linearization.agrees D.linearization.marked_ahead)

      one : Once (front ++ rest)
      one = subst (λ (o : List ℕ). Once o) whole D.linearization.once

      -- where a call stands
      called : (c : ℕ) → Mem c (front ++ rest) → (1 ≤ c) × (c ≤ M.started)
      called c i = D.linearization.calls c (subst (λ (o : List ℕ). Mem c o) (sym whole) i)

      placed : (c : ℕ) → Finished M c → Mem c front ⊎ Mem c rest
      placed c f = Memᴰ.append_cases front (subst (λ (o : List ℕ). Mem c o) whole (D.linearization.finished c f))

      in_front : (c : ℕ) → 1 ≤ c → c ≤ L.started → Mem c front
      in_front c lo hi = let (s, e, l) = ended c lo hi in go (placed c (s, K.ended c s e))
        where
          go : Mem c front ⊎ Mem c rest → Mem c front
          go (inl i) = i
          go (inr i) = absurd (omega (arith, high c i))

      in_rest : (c : ℕ) → L.started < c → Finished M c → Mem c rest
      in_rest c h f = go (placed c f)
        where
          go : Mem c front ⊎ Mem c rest → Mem c rest
          go (inl i) = absurd (omega (arith, low c i))
          go (inr i) = i

      -- ── what the queue holds at the place is what the lists hold ──
      abbrev items : Items
      items = remaining M [] front

      -- an arrival of the queue was put before the place
      put_before : (x : Item) → Mem x items → L.asked x.ticket ≡ enqueue x
      put_before x i = go (remaining_put M [] front x i)
        where
          go : Mem x [] ⊎ Put M front x → L.asked x.ticket ≡ enqueue x
          go (inl j) = absurd (Memᴰ.not-nil j)
          go (inr (c, j, a)) =
              let t : x.ticket ≡ c = (H.put c x a).0 in
              ap L.asked t ∙ sym (K.asked c (low c j)) ∙ a

      items_told : Told items
      items_told x y i j t = one_put sh m L C G x y (put_before x i) (put_before y j) t

      listed : (x : Item) → Mem x items → InLists sh m x
      listed x i =
          let a = put_before x i in
          let (t, lo, hi, b) = G.put x.ticket x a in
          let (s, e, l) = ended x.ticket lo hi in
          go a lo (C.not_lost x.ticket x a (s, e))
        where
          go : L.asked x.ticket ≡ enqueue x → 1 ≤ x.ticket
              → ListedOrMarked L x (unmarked_of sh m.store x (C.lists (bucket_of sh x.time))) → InLists sh m x
          go a lo (inl (u, none_marked)) = in_lists sh m L C G x a (λ z. omega arith)
          go a lo (inr (z, (d, k))) =
              let (s, e) = marked_ended d x k in
              let (from, to) = C.linearization.calls d (C.linearization.finished d (s, e)) in
              let mark : M.marked d ≡ some x = K.marked d s e ∙ k in
              let take : M.asked d ≡ dequeue = marks_takes sh n M D H d x (met sh n M D H d (s, K.ended d s e)) mark in
              absurd (marked_gone M (λ c y q. (H.put c y q).0) [] front x.ticket (fits_front M [] front rest along) (once_front front rest one)
              (λ y j. absurd (Memᴰ.not-nil j)) lo (d, in_front d from to, take, ap mark_ticket mark) x i refl)

      unlisted : (x : Item) → InLists sh m x → Mem x items
      unlisted x i =
          let (a, u) = lists_put sh m L C G x i in
          let (t, lo, hi, b) = G.put x.ticket x a in
          let a' : M.asked x.ticket ≡ enqueue x = K.asked x.ticket hi ∙ a in
          let (s, e, l) = ended x.ticket lo hi in
          go a' (in_or_marked M [] front x (fits_front M [] front rest along) (inr (x.ticket, in_front x.ticket lo hi, a')))
          (C.not_lost x.ticket x a (s, e)) u
        where
          go : M.asked x.ticket ≡ enqueue x → Mem x items ⊎ Marked M front x.ticket
              → ListedOrMarked L x (unmarked_of sh m.store x (C.lists (bucket_of sh x.time)))
              → unmarked_of sh m.store x (C.lists (bucket_of sh x.time)) ≢ 0 → Mem x items
          go a (inl j) fate u = j
          go a (inr p) (inr (z, w)) u = absurd (u z)
          go a (inr (c, j, q, t)) (inl (w, none_marked)) u =
              let (from, to) = called c (Memᴰ.append_left rest j) in
              let (s, e, l) = ended c from (low c j) in
              absurd (none_marked c (sym (K.marked c s e) ∙ marked_is sh n M D H c x a t))

      -- ── the takes behind it ──
      counted : rest ≡ count_from (suc L.started) (length rest)
      counted =
          in_turn M rest L.started (time_behind M front rest (subst (λ (o : List ℕ). RespectsTime M o) whole D.linearization.real_time))
          (once_behind front rest one) (λ c i. (high c i, (called c (Memᴰ.append_right front i)).1)) in_rest
          (λ c l h. let (s, e, b) = (turns c l (omega arith)).1 h in (s, e, omega arith))

      behind : Fits M items (count_from (suc L.started) (length rest))
      behind = subst (λ (o : List ℕ). Fits M items o) counted (fits_behind M [] front rest along)

      takes : (c : ℕ) → Mem c (count_from (suc L.started) (length rest)) → M.asked c ≡ dequeue
      takes c i =
          let j : Mem c rest = subst (λ (o : List ℕ). Mem c o) (sym counted) i in
          (turns c (high c j) (called c (Memᴰ.append_right front j)).1).0

      answered : (k : ℕ) → Finished M (L.started + suc k) → pool_reply M (L.started + suc k) ≡ dequeued (nth (drained (length items) items) k)
      answered k f =
          let e : suc L.started + k ≡ L.started + suc k = omega arith in
          let i : Mem (L.started + suc k) rest = in_rest (L.started + suc k) (omega arith) f in
          let (j, l, q) = words_in (λ c. c) (suc L.started) (length rest) (L.started + suc k)
          (subst (λ (o : List ℕ). Mem (L.started + suc k) o) counted i) in
          subst (λ c. pool_reply M c ≡ dequeued (nth (drained (length items) items) k)) e
          (drained_answers M (length items) items (suc L.started) (length rest) k (omega arith) behind takes (omega arith)
          (subst (λ c. Finished M c) (sym e) f))

      drained_parts : Drained sh m L.started M
      drained_parts = record {
        left = drained (length items) items;
        ascending = ascending_drained (length items) items;
        left_listed = λ x i. listed x (drained_in (length items) items x i);
        listed_left = λ x i. in_drained (length items) items x items_told (omega arith) (unlisted x i);
        answers = answered;
      }

    pub drained_from : Drained sh m L.started M
    drained_from = let (front, rest, whole, low, high) = parts_of in drained_parts front rest whole low high
