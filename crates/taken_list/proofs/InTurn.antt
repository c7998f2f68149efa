-- Calls that do not overlap stand in every order as they started. So promise 1.
--     count_from       i, i + 1, ..
--     in_turn         what stands in an order where calls above n do not overlap
--     agree_on        replies agree along calls as they started, finished or not
--     by_starts       promise 1
-- Assumes nothing.
use Rattle.std.specs.Prelude.{◌≡◌, ◌⊎◌, length}
use Rattle.std.proofs.Math.Path.{refl}
use Rattle.std.proofs.Common.{sym, subst, inl, inr}
use mathlib.Core.List.Memᴰ
use mathlib.Core.List.Memᴰ.{head as here}
use mathlib.Core.List.Memᴰ.{tail as there}
use mathlib.Core.List.{List, [], ◌∷◌, map, Memᴰ as Mem}
use Prim.Native.Nat.{ℕ, zero, suc, ◌+◌, ◌≤◌, ◌<◌}
use native.Mathlib.Omega.{arith}
use Rattle.arrival.specs.declared.Shape.{Shape}
use Rattle.arrival.specs.Queue.{Items, after, replies}
use Rattle.laws.specs.Tests.{by_size}
use Rattle.laws.specs.Lists.{words_from, words_in, in_words, mem_behind, Once}
use Rattle.calendar.specs.rules.Operations.{Memory}
use Rattle.calendar.specs.rules.Ledger.{Ledger}
use Rattle.calendar.specs.rules.Linearizability.{Finished, EndedBefore, RespectsTime, Agree, Linearization, Correct}
use Rattle.taken_list.specs.Promises.{NoOverlap, starts, OneAtATime}
use Rattle.taken_list.proofs.Along.{Fits, fits}

abbrev pub count_from : ℕ → ℕ → List ℕ
count_from i n = words_from (λ c. c) i n

module _ (L : Ledger) where
  pub in_turn : (o : List ℕ) (n : ℕ) → RespectsTime L o → Once o → ((c : ℕ) → Mem c o → (n < c) × (c ≤ L.started))
      → ((c : ℕ) → n < c → Finished L c → Mem c o) → ((c : ℕ) → n < c → c < L.started → EndedBefore L c (c + 1)) → o ≡ count_from (suc n) (length o)
  unfolding words_from
  in_turn [] n t one range fin apart = refl
  in_turn (x ∷ o) n t one range fin apart =
      let behind = in_turn o (suc n) t.1 one.1
      (λ c i. let (lo, hi) = range c (there i) in (omega (arith, first, one.0 c i), hi))
      (λ c l f. mem_behind (λ e. omega (arith, first)) (fin c (omega arith) f)) (λ c l h. apart c (omega arith) h) in
      λ j. first j ∷ behind j
    where
      -- the call after n has ended before any other started, so none stands in front of it
      later : suc n < x → ⊥
      later h =
          let (s, e, l) = apart (suc n) (omega arith) (omega (arith, (range x (here refl)).1)) in
          go (s, e, l) (Memᴰ.cases_cons (fin (suc n) (omega arith) (s, e)))
        where
          go : EndedBefore L (suc n) (suc n + 1) → (suc n ≡ x) ⊎ Mem (suc n) o → ⊥
          go q (inl e) = omega arith
          go (s, e, l) (inr j) = t.0 (suc n) j (s, e, omega arith)

      first : x ≡ suc n
      first = by_size (suc n) x (λ h. absurd (later h)) (λ h. omega (arith, (range x (here refl)).0))

  agree_on : (S : Items) (i k n : ℕ) → k ≤ n → Fits L S (count_from i k) → ((c : ℕ) → i + k ≤ c → Finished L c → ⊥)
      → Agree L (count_from i n) (replies S (map L.asked (count_from i n)))
  unfolding words_from
  agree_on S i zero zero l f out = tt
  agree_on S i zero (suc n) l f out =
      (λ e. absurd (out i (omega arith) e), agree_on (after S (L.asked i)) (suc i) zero n (omega arith) tt (λ c h. out c (omega arith)))
  agree_on S i (suc k) zero l f out = absurd (omega arith)
  agree_on S i (suc k) (suc n) l f out =
      (f.0.0, agree_on (after S (L.asked i)) (suc i) k n (omega arith) f.1 (λ c h. out c (omega arith)))

module _ (L : Ledger) (X : Linearization L) where
  abbrev o : List ℕ
  o = X.order

  module _ (apart : NoOverlap L) where
    counted : o ≡ count_from 1 (length o)
    counted =
        in_turn L o 0 X.real_time X.once (λ c i. X.calls c i) (λ c l f. X.finished c f)
        (λ c l h. let (s, e, b) = apart c l h in (s, e, omega arith))

    short : length o ≤ L.started
    short = by_size L.started (length o) (λ h. absurd (over h)) (λ h. h)
      where
        over : L.started < length X.order → ⊥
        over h =
            let i = in_words (λ c. c) 1 (length o) L.started h in
            omega (arith, (X.calls (1 + L.started) (subst (λ (p : List ℕ). Mem (1 + L.started) p) (sym counted) i)).1)

    no_more : (c : ℕ) → 1 + length o ≤ c → Finished L c → ⊥
    no_more c h f =
        let (j, l, e) = words_in (λ c. c) 1 (length o) c (subst (λ (p : List ℕ). Mem c p) counted (X.finished c f)) in omega arith

    -- the replies to the calls as they started
    by_order : Agree L (starts L) (replies [] (map L.asked (starts L)))
    by_order = agree_on L [] 1 (length o) L.started short (subst (λ (p : List ℕ). Fits L [] p) counted (fits L [] o X.agrees X.marked_ahead)) no_more

pub by_starts : (sh : Shape) (m : Memory) (L : Ledger) → Correct sh m L → OneAtATime sh m L
by_starts sh m L C apart = by_order L C.linearization apart
