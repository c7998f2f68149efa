-- CALLS: each call has at most one entry; what inserting a dequeue at the last place does to the entries, and to the scans' number.
--     one_if, one_if_no                                                          1 where something holds, 0 where it does not
--     Call, Apart, Distinct                                                      an entry of a call; of two calls; each call once
--     strip_own, mem_strip                                                       what is left without the enqueue of x
--     there_yet                                                                  what was enqueued and not taken is there
--     distinct_a, distinct_b                                                     each call once after a dequeue goes in, and with its enqueue
--     scans, scans_append, scans_strip, scans_staying, scans_unscan, scans_a     how many scans a worker has, after each change
-- Assumes nothing.
use Rattle.std.specs.Prelude.{◌≡◌, refl, ◌⊎◌, ℕ, ◌+◌}
use Rattle.std.proofs.Common.{sym, ◌∙◌, ap, subst, inl, inr, arith}
use mathlib.Core.List.Memᴰ.{cases_cons as mem-cons}
use mathlib.Core.List.Memᴰ.{head as here}
use mathlib.Core.List.Memᴰ.{tail as there}
use mathlib.Core.List.{[], ◌∷◌, ◌++◌, Memᴰ as Mem}
use mathlib.Core.List.Memᴰ.{append_left as mem-left}
use mathlib.Core.List.Memᴰ.{append_right as mem-right}
use Rattle.std.proofs.Math.Decide.{ℕ_discrete}
use Rattle.order.specs.Entries.{Keys, Element, Entry, enqueue, dequeue, empty, scan, Q, Order, keep, ticket, same?, without, mem_without, mem?, step, run}
use Rattle.order.specs.LastPlace.{Place, Own, own?, strip}
use Rattle.order.specs.Insertion.{with_dequeue, with_enqueue}
use Rattle.order.specs.RealTime.{ticket_of_lem, Pairs, pairs_right, pairs_insert, pairs_strip, strip_mem}
use Rattle.order.specs.Scans.{staying, moving, only, unscan}

abbrev pub one_if : {P : Type 0} → Dec P → ℕ
one_if (yes h) = 1
one_if (no n) = 0

pub one_if_no : {P : Type 0} (d : Dec P) → ¬ P → one_if d ≡ 0
one_if_no (yes h) n = absurd (n h)
one_if_no (no m) n = refl

module _ {K : Keys} where
  -- an entry of a call
  abbrev pub Call : Entry K → Type 0
  Call (enqueue x) = Unit {0}
  Call (dequeue z c) = Unit {0}
  Call (empty c) = Unit {0}
  Call (scan w) = ⊥

  abbrev pub Apart : Entry K → Entry K → Type 0
  Apart e f = Call e → Call f → ¬ (ticket_of_lem e ≡ ticket_of_lem f)

  abbrev pub Distinct : Order K → Type 0
  Distinct = Pairs Apart

  pub strip_own : (B : Order K) (x : Element K) (f : Entry K) → Mem f (strip B x) → ¬ Own f x
  strip_own [] x f m = elim m [ ]
  strip_own (e ∷ B) x f m = go (own? e x) m (strip_own B x f)
    where
      go : (d : Dec (Own e x)) → Mem f (keep d e (strip B x)) → (Mem f (strip B x) → ¬ Own f x) → ¬ Own f x
      go (yes o) k ih = ih k
      go (no n) (here g) ih = λ o. n (subst (λ t. Own t x) g o)
      go (no n) (there k) ih = ih k

  pub mem_strip : (B : Order K) (x : Element K) (f : Entry K) → ¬ Own f x → Mem f B → Mem f (strip B x)
  mem_strip [] x f n m = elim m [ ]
  mem_strip (e ∷ B) x f n m = go (own? e x) (mem-cons m) (mem_strip B x f n)
    where
      go : (d : Dec (Own e x)) → (f ≡ e) ⊎ Mem f B → (Mem f B → Mem f (strip B x)) → Mem f (keep d e (strip B x))
      go (yes o) (inl g) ih = absurd (n (subst (λ t. Own t x) (sym g) o))
      go (yes o) (inr k) ih = ih k
      go (no l) (inl g) ih = here g
      go (no l) (inr k) ih = there (ih k)

  -- what was enqueued and not taken is there
  pub there_yet : (S : Q K) (A : Order K) (x : Element K) → ((c : ℕ) → ¬ Mem (dequeue x c) A) → Mem x S ⊎ Mem (enqueue x) A → Mem x (run S A)
  there_yet S [] x n (inl m) = m
  there_yet S [] x n (inr m) = elim m [ ]
  there_yet S (e ∷ A) x n h = there_yet (step S e) A x (λ c m. n c (there m)) (go e n h)
    where
      go : (f : Entry K) → ((c : ℕ) → ¬ Mem (dequeue x c) (f ∷ A)) → Mem x S ⊎ Mem (enqueue x) (f ∷ A) → Mem x (step S f) ⊎ Mem (enqueue x) A
      go f k (inr (there m)) = inr m
      go (enqueue p) k (inl m) = inl (there m)
      go (dequeue z c) k (inl m) = inl (mem_without S z (λ g. k c (here (ap (λ t. dequeue t c) g))) m)
      go (empty c) k (inl m) = inl m
      go (scan w) k (inl m) = inl m
      go (enqueue p) k (inr (here g)) = inl (here (let h : x ≡ p = cc in h))
      go (dequeue z c) k (inr (here g)) = absurd (let z : ◌≡◌ {A = ℕ} 0 1 = cc in omega arith)
      go (empty c) k (inr (here g)) = absurd (let z : ◌≡◌ {A = ℕ} 0 1 = cc in omega arith)
      go (scan w) k (inr (here g)) = absurd (let z : ◌≡◌ {A = ℕ} 0 1 = cc in omega arith)

  own_enqueue : (f : Entry K) (x : Element K) → f ≡ enqueue x → Own f x
  own_enqueue f x g = subst (λ t. Own t x) (sym g) refl

  module _ (S : Q K) (x : Element K) (L : Order K) (p : Place S x L) (c : ℕ) (D : Distinct L)
      (fresh : (f : Entry K) → Mem f L → Call f → ¬ (ticket_of_lem f ≡ c)) where
    whole : Distinct (p.front ++ p.back)
    whole = rw p.split D

    in_front : (f : Entry K) → Mem f p.front → Mem f L
    in_front f m = subst (λ M. Mem f M) p.split (mem-left p.back m)

    in_back : (f : Entry K) → Mem f p.back → Mem f L
    in_back f m = subst (λ M. Mem f M) p.split (mem-right p.front m)

    pub distinct_a : Distinct (with_dequeue S x L p c)
    distinct_a =
        pairs_insert Apart p.front p.back _ _ (strip_mem p.back x) (pairs_strip Apart p.back x (pairs_right Apart p.front p.back whole))
        (λ f m a b. fresh f (in_front f m) a) (λ f m a b e. fresh f (in_back f m) b (sym e)) whole

    pub distinct_b : ¬ (ticket x ≡ c) → ((f : Entry K) → Mem f L → Call f → ticket_of_lem f ≡ ticket x → f ≡ enqueue x) → ((d : ℕ) → ¬ Mem (dequeue x d) L)
        → ¬ Mem x (run S p.front) → Distinct (with_enqueue S x L p c)
    distinct_b n o u h = pairs_insert Apart p.front _ _ (enqueue x) (λ f m. m) (pairs_right Apart p.front _ distinct_a) before behind distinct_a
      where
        before : (f : Entry K) → Mem f p.front → Apart f (enqueue x)
        before f m a b e = h (there_yet S p.front x (λ d k. u d (in_front (dequeue x d) k)) (inr (subst (λ t. Mem t p.front) (o f (in_front f m) a e) m)))

        behind : (f : Entry K) → Mem f (dequeue x c ∷ strip p.back x) → Apart (enqueue x) f
        behind f (here g) a b e = n (e ∙ ap ticket_of_lem g)
        behind f (there m) a b e = strip_own p.back x f m (own_enqueue f x (o f (in_back f (strip_mem p.back x f m)) b (sym e)))

  -- ── each scan stays one ──
  abbrev pub scans : ℕ → Order K → ℕ
  scans v [] = 0
  scans v (enqueue x ∷ L) = scans v L
  scans v (dequeue z c ∷ L) = scans v L
  scans v (empty c ∷ L) = scans v L
  scans v (scan w ∷ L) = one_if (ℕ_discrete w v) + scans v L

  pub scans_append : (v : ℕ) (A B : Order K) → scans v (A ++ B) ≡ scans v A + scans v B
  scans_append v [] B = omega arith
  scans_append v (enqueue x ∷ A) B = scans_append v A B
  scans_append v (dequeue z c ∷ A) B = scans_append v A B
  scans_append v (empty c ∷ A) B = scans_append v A B
  scans_append v (scan w ∷ A) B = omega (arith, scans_append v A B)

  pub scans_strip : (v : ℕ) (B : Order K) (x : Element K) → scans v (strip B x) ≡ scans v B
  scans_strip v [] x = refl
  scans_strip v (enqueue p ∷ B) x = go (same? p x) (scans_strip v B x)
    where
      go : (d : Dec (p ≡ x)) → scans v (strip B x) ≡ scans v B → scans v (keep d (enqueue p) (strip B x)) ≡ scans v B
      go (yes o) ih = ih
      go (no n) ih = ih
  scans_strip v (dequeue z c ∷ B) x = scans_strip v B x
  scans_strip v (empty c ∷ B) x = scans_strip v B x
  scans_strip v (scan w ∷ B) x = ap (λ (n : ℕ). one_if (ℕ_discrete w v) + n) (scans_strip v B x)

  pub scans_staying : (v : ℕ) (S : Q K) (x : Element K) (A : Order K) → scans v (staying S x A) + scans v (moving S x A) ≡ scans v A
  scans_staying v S x [] = refl
  scans_staying v S x (enqueue p ∷ A) = scans_staying v (p ∷ S) x A
  scans_staying v S x (dequeue z c ∷ A) = scans_staying v (without S z) x A
  scans_staying v S x (empty c ∷ A) = scans_staying v S x A
  scans_staying v S x (scan w ∷ A) = go (mem? S x) (scans_staying v S x A)
    where
      go : (d : Dec (Mem x S)) → scans v (staying S x A) + scans v (moving S x A) ≡ scans v A
          → scans v (keep d (scan w) (staying S x A)) + scans v (only d (scan w) (moving S x A)) ≡ one_if (ℕ_discrete w v) + scans v A
      go (yes h) ih = omega arith
      go (no n) ih = omega arith

  pub scans_unscan : (v w : ℕ) (L : Order K) → ¬ (v ≡ w) → scans v (unscan L w) ≡ scans v L
  scans_unscan v w [] n = refl
  scans_unscan v w (enqueue p ∷ L) n = scans_unscan v w L n
  scans_unscan v w (dequeue z c ∷ L) n = scans_unscan v w L n
  scans_unscan v w (empty c ∷ L) n = scans_unscan v w L n
  scans_unscan v w (scan u ∷ L) n = go (ℕ_discrete u w) (scans_unscan v w L n)
    where
      go : (d : Dec (u ≡ w)) → scans v (unscan L w) ≡ scans v L → scans v (keep d (scan u) (unscan L w)) ≡ one_if (ℕ_discrete u v) + scans v L
      go (yes e) ih = omega (arith, one_if_no (ℕ_discrete u v) (λ g. n (sym g ∙ e)))
      go (no m) ih = omega arith

  -- so step 11 leaves each other worker's scan one
  pub scans_a : (S : Q K) (x : Element K) (L : Order K) (p : Place S x L) (c v w : ℕ) → ¬ (v ≡ w)
      → scans v (unscan (staying S x p.front ++ dequeue x c ∷ (moving S x p.front ++ strip p.back x)) w) ≡ scans v L
  scans_a S x L p c v w n =
      let A : Order K = staying S x p.front in
      let M : Order K = moving S x p.front in
      let B : Order K = strip p.back x in
      omega (
        arith,
        scans_unscan v w (A ++ dequeue x c ∷ (M ++ B)) n,
        scans_append v A (dequeue x c ∷ (M ++ B)),
        scans_append v M B,
        scans_staying v S x p.front,
        scans_strip v p.back x,
        scans_append v p.front p.back,
        ap (scans v) p.split,
      )
