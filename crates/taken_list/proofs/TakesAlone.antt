-- An order by the n-th start, and what takes alone answer.
--     Divided, divided      an order falls into the calls up to the n-th, and those after it, where the former have ended by then
--     ascending_drained     what takes alone give ascends
--     drained_answers       takes in turn answer so
-- Assumes nothing.
use Rattle.std.specs.Prelude.{◌≡◌, ◌⊎◌, length}
use Rattle.std.proofs.Math.Path.{refl}
use Rattle.std.proofs.Common.{sym, ap, ◌∙◌, subst, inl, inr}
use Rattle.std.proofs.Math.Option.{Option, none, some}
use mathlib.Core.List.Memᴰ
use mathlib.Core.List.Memᴰ.{head as here}
use mathlib.Core.List.Memᴰ.{tail as there}
use mathlib.Core.List.{List, [], ◌∷◌, ◌++◌, Memᴰ as Mem}
use Prim.Native.Nat.{ℕ, zero, suc, ◌+◌, ◌≤◌, ◌<◌}
use native.Mathlib.Omega.{arith}
use Rattle.arrival.specs.declared.Item.{Item}
use Rattle.arrival.specs.Queue.{dequeue, Items, lowest, remove, dequeued, left_over, reply, after}
use Rattle.arrival.specs.QueueLaws.{drained}
use Rattle.arrival.proofs.QueueLaws.{lowest_in, remove_less, drained_zero, drained_none, drained_some, drained_lower}
use Rattle.laws.specs.Tests.{by_size}
use Rattle.laws.specs.Lists.{words_from}
use Rattle.calendar.specs.rules.Ledger.{Ledger}
use Rattle.calendar.specs.rules.Linearizability.{Finished, RespectsTime, pool_reply}
use Rattle.taken_list.specs.Promises.{Ascending, nth}
use Rattle.taken_list.proofs.Along.{Fits}
use Rattle.taken_list.proofs.InTurn.{count_from}

-- ── an order in two parts ──
-- in front what is at most n, behind it what is more
abbrev pub Divided : ℕ → List ℕ → Type 0
Divided n o = (front : List ℕ) × (rest : List ℕ) × (o ≡ front ++ rest) × ((c : ℕ) → Mem c front → c ≤ n) × ((c : ℕ) → Mem c rest → n < c)

pub divided : (L : Ledger) (n : ℕ) (o : List ℕ) → RespectsTime L o → ((c : ℕ) → Mem c o → c ≤ n → (s : ℕ) × (L.ended c ≡ some s) × (s ≤ n))
    → Divided n o
divided L n [] t old = ([], [], refl, λ c i. absurd (Memᴰ.not-nil i), λ c i. absurd (Memᴰ.not-nil i))
divided L n (x ∷ o) t old = by_size n x (λ h. after_n h) (λ h. before_n h (divided L n o t.1 (λ c i. old c (there i))))
  where
    after_n : n < x → Divided n (x ∷ o)
    after_n h = ([], x ∷ o, refl, λ c i. absurd (Memᴰ.not-nil i), λ c i. go c (Memᴰ.cases_cons i))
      where
        go : (c : ℕ) → (c ≡ x) ⊎ Mem c o → n < c
        go c (inl e) = omega arith
        go c (inr j) = by_size n c (λ l. l) (λ l. absurd (let (s, e, b) = old c (there j) l in t.0 c j (s, e, omega arith)))

    before_n : x ≤ n → Divided n o → Divided n (x ∷ o)
    before_n h (front, rest, e, low, high) = (x ∷ front, rest, ap (λ (p : List ℕ). x ∷ p) e, λ c i. go c (Memᴰ.cases_cons i), high)
      where
        go : (c : ℕ) → (c ≡ x) ⊎ Mem c front → c ≤ n
        go c (inl q) = omega arith
        go c (inr j) = low c j

-- ── takes alone ──
pub ascending_drained : (n : ℕ) (S : Items) → Ascending (drained n S)
ascending_drained zero S = subst Ascending (sym (drained_zero S)) tt
ascending_drained (suc n) S = go (lowest S) refl (ascending_drained n)
  where
    go : (o : Option Item) → lowest S ≡ o → ((R : Items) → Ascending (drained n R)) → Ascending (drained (suc n) S)
    go none e rec = subst Ascending (sym (drained_none (suc n) S e)) tt
    go (some x) e rec = subst Ascending (sym (drained_some n S x e)) (λ y i. drained_lower n S x y e i, rec (remove x.ticket S))

module _ (L : Ledger) where
  pub drained_answers : (f : ℕ) (S : Items) (i k j : ℕ) → length S ≤ f → Fits L S (count_from i k) → ((c : ℕ) → Mem c (count_from i k) → L.asked c ≡ dequeue)
      → j < k → Finished L (i + j) → pool_reply L (i + j) ≡ dequeued (nth (drained f S) j)
  unfolding words_from
  drained_answers f S i zero j l F takes h fin = absurd (omega arith)
  drained_answers f S i (suc k) zero l F takes h fin = by_lowest (lowest S) refl
    where
      same : i + 0 ≡ i
      same = omega arith

      replied : pool_reply L (i + 0) ≡ dequeued (lowest S)
      replied =
          ap (pool_reply L) same ∙ sym (F.0.0 (subst (λ c. Finished L c) same fin)) ∙ ap (reply S) (takes i (here refl))

      by_lowest : (o : Option Item) → lowest S ≡ o → pool_reply L (i + 0) ≡ dequeued (nth (drained f S) 0)
      by_lowest none e = replied ∙ ap dequeued e ∙ ap (λ (q : List Item). dequeued (nth q 0)) (sym (drained_none f S e))
      by_lowest (some x) e = replied ∙ ap dequeued e ∙ first f l
        where
          first : (f : ℕ) → length S ≤ f → dequeued (some x) ≡ dequeued (nth (drained f S) 0)
          first zero l = absurd (omega (arith, remove_less x S (lowest_in S x e)))
          first (suc f) l = ap (λ (q : List Item). dequeued (nth q 0)) (sym (drained_some f S x e))
  drained_answers f S i (suc k) (suc j) l F takes h fin = by_lowest (lowest S) refl f l (λ f R l F. drained_answers f R (suc i) k j l F)
    where
      same : i + suc j ≡ suc i + j
      same = omega arith

      next : (o : Option Item) → lowest S ≡ o → Fits L (left_over S o) (count_from (suc i) k)
      next o e = subst (λ (R : Items). Fits L R (count_from (suc i) k)) (ap (after S) (takes i (here refl)) ∙ ap (left_over S) e) F.1

      by_lowest : (o : Option Item) → lowest S ≡ o → (f : ℕ) → length S ≤ f
          → ((f : ℕ) (R : Items) → length R ≤ f → Fits L R (count_from (suc i) k) → ((c : ℕ) → Mem c (count_from (suc i) k) → L.asked c ≡ dequeue)
          → j < k → Finished L (suc i + j) → pool_reply L (suc i + j) ≡ dequeued (nth (drained f R) j))
          → pool_reply L (i + suc j) ≡ dequeued (nth (drained f S) (suc j))
      by_lowest none e f l rec =
          ap (pool_reply L) same
          ∙ rec f S l (next none e) (λ c m. takes c (there m)) (omega arith) (subst (λ c. Finished L c) same fin)
          ∙ ap (λ (q : List Item). dequeued (nth q j)) (drained_none f S e)
          ∙ ap (λ (q : List Item). dequeued (nth q (suc j))) (sym (drained_none f S e))
      by_lowest (some x) e zero l rec = absurd (omega (arith, remove_less x S (lowest_in S x e)))
      by_lowest (some x) e (suc f) l rec =
          ap (pool_reply L) same
          ∙ rec f (remove x.ticket S) (omega (arith, remove_less x S (lowest_in S x e))) (next (some x) e) (λ c m. takes c (there m)) (omega arith)
          (subst (λ c. Finished L c) same fin)
          ∙ ap (λ (q : List Item). dequeued (nth q (suc j))) (sym (drained_some f S x e))
