-- All orders of a ledger's calls that may be a linearization, listed by a search: an order is built from the front, and a call
-- comes next only if no call that is left had ended before it started, the sequential queue answers as the pool did, and gives
-- an unfinished take what it has marked. The order of every linearization is in the list; where the list is empty, there is none.
--     linearization_admitted                 the order of every linearization is among them
-- Assumes nothing.
use Rattle.std.specs.Prelude.{◌≡◌, refl, Bool, true, false, not, ◌||◌, length}
use Rattle.std.proofs.Common.{sym, subst, arith, eq-eqb, ltb-true}
use mathlib.Core.List.Memᴰ
use mathlib.Core.List.{List, [], ◌∷◌, map, Memᴰ}
use Rattle.std.proofs.Math.Option.{Option, none, some}
use Prim.Native.Nat.{ℕ, zero, suc, ◌≤◌}
use Rattle.arrival.specs.declared.Item.{Item}
use Rattle.arrival.specs.Queue.{Call, enqueue, dequeue, Reply, Items, dequeued, reply, after, replies}
use Rattle.laws.specs.Lists.{mem_behind, Once, without, without_in, in_without, without_less, up_to, up_to_in, length_up_to}
use Rattle.laws.specs.Lists.{same_numbers_lem, all_true, gathered_in}
use Rattle.calendar.specs.rules.Ledger.{Ledger}
use Rattle.calendar.specs.rules.Linearizability.{Finished, EndedBefore, RespectsTime, pool_reply, Agree, MarkedAhead, Linearization}
use Rattle.calendar.specs.facts.AdmittedOrders.{is_finished, ended_before, numbers, same_reply, marks_that, may_end, may_be_next, ended, next}
use Rattle.calendar.specs.facts.AdmittedOrders.{orders_of, admitted}

-- what the statement asks of a finished call's reply, and the test
abbrev Same : Reply → Reply → Type 0
Same r q = r ≡ q

-- ── every linearization is found ──
same_reply_lem : (r q : Reply) → Same r q → same_reply r q ≡ true
same_reply_lem r q e = rw (← e, eq-eqb r.ticket r.ticket refl) (same_numbers_lem (numbers r.response))

module _ (L : Ledger) where
  not_finished : (c : ℕ) → (Finished L c → ⊥) → not (is_finished (L.ended c)) ≡ true
  not_finished c h = go (L.ended c) refl
    where
      go : (x : Option ℕ) → L.ended c ≡ x → not (is_finished x) ≡ true
      go none e = refl
      go (some s) e = absurd (h (s, e))

  not_ended : (y c : ℕ) → (EndedBefore L y c → ⊥) → not (ended_before (L.ended y) c) ≡ true
  not_ended y c h = go (L.ended y) refl
    where
      go : (x : Option ℕ) → L.ended y ≡ x → not (ended_before x c) ≡ true
      go none e = refl
      go (some s) e = pick (ended_before (some s) c) refl
        where
          pick : (t : Bool) → ended_before (some s) c ≡ t → not t ≡ true
          pick true q = absurd (h (s, e, ltb-true s c q))
          pick false q = refl

  answered : (c : ℕ) (r : Reply) → (Finished L c → Same r (pool_reply L c)) → (not (is_finished (L.ended c)) || same_reply r (pool_reply L c)) ≡ true
  answered c r h = go (L.ended c) refl
    where
      go : (x : Option ℕ) → L.ended c ≡ x → (not (is_finished x) || same_reply r (pool_reply L c)) ≡ true
      go none e = refl
      go (some s) e = same_reply_lem r (pool_reply L c) (h (s, e))

  ahead : (c : ℕ) (r : Reply) → (L.asked c ≡ dequeue → L.ended c ≡ none → (x : Item) × (L.marked c ≡ some x) × (r ≡ dequeued (some x)))
      → (is_finished (L.ended c) || marks_that (L.asked c) (L.marked c) r) ≡ true
  ahead c r h = go (L.ended c) refl (L.asked c) refl
    where
      go : (o : Option ℕ) → L.ended c ≡ o → (a : Call) → L.asked c ≡ a → (is_finished o || marks_that a (L.marked c) r) ≡ true
      go (some s) e a q = refl
      go none e (enqueue x) q = refl
      go none e dequeue q =
          let (x, k, f) = h q e in
          subst (λ (o : Option Item). marks_that dequeue o r ≡ true) (sym k) (subst (λ (u : Reply). same_reply r u ≡ true) f (same_reply_lem r r refl))

  -- nothing that is left has finished
  stops : (rest : List ℕ) → ((c : ℕ) → Memᴰ c rest → Finished L c → Memᴰ c []) → may_end L rest ≡ true
  stops rest fin = all_true (λ c. not (is_finished (L.ended c))) rest (λ c i. not_finished c (λ f. Memᴰ.not-nil (fin c i f)))

  -- what stands first may come next
  comes_next : (S : Items) (rest : List ℕ) (c : ℕ) (o : List ℕ) → ((d : ℕ) → Memᴰ d rest → Finished L d → Memᴰ d (c ∷ o)) → RespectsTime L (c ∷ o)
      → (Finished L c → Same (reply S (L.asked c)) (pool_reply L c))
      → (L.asked c ≡ dequeue → L.ended c ≡ none → (x : Item) × (L.marked c ≡ some x) × (reply S (L.asked c) ≡ dequeued (some x)))
      → may_be_next L S rest c ≡ true
  comes_next S rest c o fin time agree marked =
      rw (
        all_true (λ y. not (ended_before (L.ended y) c)) (without c rest) (λ y i. let (j, apart) = without_in c y rest i in
            not_ended y c (λ (s, e, l). time.0 y (mem_behind apart (fin y j (s, e))) (s, e, l))),
        answered c (reply S (L.asked c)) agree,
      )
      (ahead c (reply S (L.asked c)) marked)

  listed : (n : ℕ) (S : Items) (rest o : List ℕ) → length rest ≤ n → ((c : ℕ) → Memᴰ c o → Memᴰ c rest) → Once o
      → ((c : ℕ) → Memᴰ c rest → Finished L c → Memᴰ c o)
      → RespectsTime L o → Agree L o (replies S (map L.asked o)) → MarkedAhead L o (replies S (map L.asked o)) → Memᴰ o (orders_of L n S rest)
  unfolding orders_of
  listed zero S rest [] fuel sub one fin time agree marked = rw (stops rest fin) (Memᴰ.head refl)
  listed (suc n) S rest [] fuel sub one fin time agree marked = rw (stops rest fin) (Memᴰ.head refl)
  listed zero S rest (c ∷ o) fuel sub one fin time agree marked = absurd (omega (arith, without_less c rest (sub c (Memᴰ.head refl))))
  listed (suc n) S rest (c ∷ o) fuel sub one fin time agree marked =
      Memᴰ.append_right (ended (may_end L rest))
      (gathered_in (λ d. next (may_be_next L S rest d) d (orders_of L n (after S (L.asked d)) (without d rest))) rest c (c ∷ o) (sub c (Memᴰ.head refl))
      (rw (comes_next S rest c o fin time agree.0 marked.0)
      (Memᴰ.map (λ (o : List ℕ). c ∷ o)
      (listed n (after S (L.asked c)) (without c rest) o (omega (arith, without_less c rest (sub c (Memᴰ.head refl))))
      (λ d i. in_without c d rest (sub d (Memᴰ.tail i)) (one.0 d i)) one.1
      (λ d i f. let (j, apart) = without_in c d rest i in mem_behind apart (fin d j f)) time.1 agree.1 marked.1))))

  -- THE ORDER OF EVERY LINEARIZATION IS IN THE LIST
  pub linearization_admitted : (X : Linearization L) → Memᴰ X.order (admitted L)
  linearization_admitted X =
      listed L.started [] (up_to L.started) X.order (omega (arith, length_up_to L.started))
      (λ c i. let (lo, hi) = X.calls c i in up_to_in L.started c lo hi) X.once (λ c i. X.finished c) X.real_time X.agrees X.marked_ahead
