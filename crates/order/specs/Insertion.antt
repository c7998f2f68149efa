-- What inserting a dequeue at the last place keeps: LEGAL, the queue, REAL TIME, AGE. Assumes nothing.
use Rattle.std.specs.Prelude.{◌≡◌, refl, ◌⊎◌, ℕ}
use Rattle.std.proofs.Common.{sym, ◌∙◌, ap, subst, inl, inr}
use mathlib.Core.List.Memᴰ.{cases_cons as mem-cons}
use mathlib.Core.List.Memᴰ.{head as here}
use mathlib.Core.List.Memᴰ.{tail as there}
use mathlib.Core.List.{[], ◌∷◌, ◌++◌, Memᴰ as Mem}
use Rattle.order.specs.Entries.{Keys, Element, Entry, enqueue, dequeue, empty, scan, Q, Order, keep, ◌≺◌, irrefl, without, without_yes, mem_without}
use Rattle.order.specs.Entries.{Below, step, run, Ok, Legal, Busy, run_append, walk_append, walk_left, walk_right}
use Rattle.order.specs.LastPlace.{Place, Own, own?, Calm, calm, strip, legal_less, run_less}

module _ {K : Keys} where
  pub strip_none : (B : Order K) (x : Element K) → ((e : Entry K) → Mem e B → ¬ Own e x) → strip B x ≡ B
  strip_none [] x n = refl
  strip_none (e ∷ B) x n = go (own? e x) (strip_none B x (λ f m. n f (there m)))
    where
      go : (d : Dec (Own e x)) → strip B x ≡ B → keep d e (strip B x) ≡ e ∷ B
      go (yes o) ih = absurd (n e (here refl) o)
      go (no m) ih = ap (e ∷◌) ih

  -- no entry behind the place dequeues anything that is not below x, and none is empty
  pub calm_all : (S : Q K) (x : Element K) (B : Order K) → Busy S x B → Legal S B → (e : Entry K) → Mem e B → Calm e x
  calm_all S x [] w l e m = elim m [ ]
  calm_all S x (b ∷ B) w l e m = go (mem-cons m) (λ k. calm_all (step S b) x B w.1 l.1 e k)
    where
      go : (e ≡ b) ⊎ Mem e B → (Mem e B → Calm e x) → Calm e x
      go (inl h) ih = rw h (calm S x b w.0 l.0)
      go (inr k) ih = ih k

  -- what is not below x stays in the queue behind the place
  pub stays_step : (S : Q K) (x : Element K) (e : Entry K) (q : Element K) → Calm e x → ¬ (q ≺ x) → Mem q S → Mem q (step S e)
  stays_step S x (enqueue p) q c n m = there m
  stays_step S x (dequeue z d) q c n m = mem_without S z (λ e. n (subst (λ t. t ≺ x) (sym e) c)) m
  stays_step S x (empty d) q c n m = m
  stays_step S x (scan w) q c n m = m

  pub stays : (S : Q K) (x : Element K) (B : Order K) (q : Element K) → ((e : Entry K) → Mem e B → Calm e x) → ¬ (q ≺ x) → Mem q S → Mem q (run S B)
  stays S x [] q c n m = m
  stays S x (e ∷ B) q c n m = stays (step S e) x B q (λ f k. c f (there k)) n (stays_step S x e q (c e (here refl)) n m)

  -- ── the insertions: (a) x is in the queue at the place; (b) it is not, and its enqueue goes in too ──
  module _ (S : Q K) (x : Element K) (L : Order K) (p : Place S x L) (c : ℕ) where
    abbrev pub with_dequeue : Order K
    with_dequeue = p.front ++ dequeue x c ∷ strip p.back x

    abbrev pub with_enqueue : Order K
    with_enqueue = p.front ++ enqueue x ∷ dequeue x c ∷ strip p.back x

    pub legal_a : Legal S L → Mem x (run S p.front) → Legal S with_dequeue
    legal_a l h =
        let l' = rw (sym p.split) at l in
        walk_append Ok S p.front _ (walk_left Ok S p.front p.back l')
        ((h, p.clear), legal_less _ x p.back p.busy (walk_right Ok S p.front p.back l'))

    run_back : run (without (run S p.front) x) (strip p.back x) ≡ without (run S L) x
    run_back = run_less (run S p.front) x p.back ∙ ap (λ T. without T x) (sym (run_append S p.front p.back) ∙ ap (run S) p.split)

    pub run_a : run S with_dequeue ≡ without (run S L) x
    run_a = run_append S p.front _ ∙ run_back

    pub legal_b : Legal S L → Legal S with_enqueue
    legal_b l =
        let l' = rw (sym p.split) at l in
        let T : Q K = run S p.front in
        walk_append Ok S p.front _ (walk_left Ok S p.front p.back l')
        (tt, ((here refl, clear), rw (without_yes x T x refl) (legal_less T x p.back p.busy (walk_right Ok S p.front p.back l'))))
      where
        clear : ¬ Below (x ∷ run S p.front) x
        clear (q, here m, h) = irrefl q x m h
        clear (q, there m, h) = p.clear (q, m, h)

    pub run_b : run S with_enqueue ≡ without (run S L) x
    run_b = run_append S p.front _ ∙ ap (λ T. run T (strip p.back x)) (without_yes x (run S p.front) x refl) ∙ run_back
