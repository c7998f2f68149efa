-- The fate of an element of an order: it is taken once, or is in the queue at the end. Assumes nothing.
use Rattle.std.specs.Prelude.{◌≡◌, refl, ◌⊎◌, ℕ}
use Rattle.std.proofs.Common.{sym, ap, ◌∙◌, subst, inl, inr, arith}
use mathlib.Core.List.Memᴰ.{head as here}
use mathlib.Core.List.Memᴰ.{tail as there}
use mathlib.Core.List.{[], ◌∷◌, Memᴰ as Mem}
use Rattle.order.specs.Entries.{Ok, Legal, same?, without, mem_without, without_mem, step, Keys, Element, Entry, enqueue, dequeue, empty, scan, Q, Order}
use Rattle.order.specs.Entries.{run}
use Rattle.order.specs.RealTime.{ticket_of_lem}
use Rattle.order.specs.Calls.{Distinct}
use Rattle.order.specs.EntriesAfterMark.{taken_enqueued, still_once}

gone_then : {K : Keys} (S : Q K) (L : Order K) (x : Element K) (c d : ℕ) (e : Entry K) → e ≡ dequeue x c → Ok S e × Legal (step S e) L
    → (Mem x S → ¬ Mem (enqueue x) (e ∷ L)) → Mem (dequeue x d) L → ⊥
gone_then {K} S L x c d e f l once j =
    let l' : Ok S (dequeue x c) × Legal (without S x) L = subst (λ h. Ok S h × Legal (step S h) L) f l in
    pick l' (taken_enqueued (without S x) L x d l'.1 j)
  where
    pick : Ok S (dequeue x c) × Legal (without S x) L → Mem x (without S x) ⊎ Mem (enqueue x) L → ⊥
    pick l' (inl k) = (without_mem S x k).1 refl
    pick l' (inr k) = once l'.0.0 (there k)

-- an element that was put once is taken by one entry
pub taken_once : {K : Keys} (S : Q K) (L : Order K) (x : Element K) (c d : ℕ) → Legal S L → Distinct L → (Mem x S → ¬ Mem (enqueue x) L) → Mem (dequeue x c) L
    → Mem (dequeue x d) L → c ≡ d
taken_once S [] x c d l D once m _ = elim m [ ]
taken_once {K} S (e ∷ L) x c d l D once (here f) (here h) = let z : dequeue x c ≡ dequeue x d = f ∙ sym h in ap ticket_of_lem z
taken_once {K} S (e ∷ L) x c d l D once (here f) (there j) = absurd (gone_then S L x c d e (sym f) l once j)
taken_once {K} S (e ∷ L) x c d l D once (there j) (here h) = absurd (gone_then S L x d c e (sym h) l once j)
taken_once {K} S (e ∷ L) x c d l D once (there j) (there k) = taken_once (step S e) L x c d l.1 D.1 (still_once S L x e D.0 once) j k

-- what was put is in the queue or is taken
pub enqueued_or_taken : {K : Keys} (S : Q K) (L : Order K) (x : Element K) → Mem x S ⊎ Mem (enqueue x) L → Mem x (run S L) ⊎ ((c : ℕ) × Mem (dequeue x c) L)
enqueued_or_taken S [] x (inl j) = inl j
enqueued_or_taken S [] x (inr j) = elim j [ ]
enqueued_or_taken {K} S (e ∷ L) x h = go e (enqueued_or_taken (step S e) L x) h
  where
    later : (f : Entry K) → Mem x (run (step S f) L) ⊎ ((c : ℕ) × Mem (dequeue x c) L) → Mem x (run (step S f) L) ⊎ ((c : ℕ) × Mem (dequeue x c) (f ∷ L))
    later f (inl j) = inl j
    later f (inr (c, j)) = inr (c, there j)

    go : (f : Entry K) → (Mem x (step S f) ⊎ Mem (enqueue x) L → Mem x (run (step S f) L) ⊎ ((c : ℕ) × Mem (dequeue x c) L)) → Mem x S ⊎ Mem (enqueue x) (f ∷ L)
        → Mem x (run (step S f) L) ⊎ ((c : ℕ) × Mem (dequeue x c) (f ∷ L))
    go f ih (inr (there j)) = later f (ih (inr j))
    go (enqueue p) ih (inl j) = later (enqueue p) (ih (inl (there j)))
    go (enqueue p) ih (inr (here e)) = let h : x ≡ p = cc in later (enqueue p) (ih (inl (here h)))
    go (dequeue z c) ih (inl j) = pick (same? x z)
      where
        pick : Dec (x ≡ z) → Mem x (run (without S z) L) ⊎ ((d : ℕ) × Mem (dequeue x d) (dequeue z c ∷ L))
        pick (yes e) = inr (c, here (ap (λ t. dequeue t c) e))
        pick (no n) = later (dequeue z c) (ih (inl (mem_without S z n j)))
    go (dequeue z c) ih (inr (here e)) = absurd (let y : ◌≡◌ {A = ℕ} 0 1 = cc in omega arith)
    go (empty c) ih (inl j) = later (empty c) (ih (inl j))
    go (empty c) ih (inr (here e)) = absurd (let y : ◌≡◌ {A = ℕ} 0 1 = cc in omega arith)
    go (scan v) ih (inl j) = later (scan v) (ih (inl j))
    go (scan v) ih (inr (here e)) = absurd (let y : ◌≡◌ {A = ℕ} 0 1 = cc in omega arith)
