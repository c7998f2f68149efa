-- The order after step 11's success, entry by entry.
--     alike_distinct, alike_call                 orders that differ in scans only have the same calls
--     scans_in, scans_out, scans_b               scans, by membership and number
--     still_once, taken_gone, taken_enqueued     what was enqueued once and taken is gone; what is taken was enqueued
--     Found, found                               the order after the step, and that there is one
-- Assumes nothing.
use Rattle.std.specs.Prelude.{◌≡◌, refl, ◌⊎◌, ℕ, ◌+◌, ◌<◌}
use Rattle.std.proofs.Common.{sym, ap, subst, inl, inr, arith}
use mathlib.Core.List.Memᴰ.{append_cases as mem-append}
use mathlib.Core.List.Memᴰ.{head as here}
use mathlib.Core.List.Memᴰ.{tail as there}
use mathlib.Core.List.{[], ◌∷◌, ◌++◌, Memᴰ as Mem}
use mathlib.Core.List.Memᴰ.{append_left as mem-left}
use mathlib.Core.List.Memᴰ.{append_right as mem-right}
use Rattle.std.proofs.Math.Decide.{ℕ_discrete}
use Rattle.order.specs.Entries.{Keys, Element, Entry, enqueue, dequeue, empty, scan, Q, Order, ticket, without, without_mem, mem?, step, run, Ok, Legal}
use Rattle.order.specs.Entries.{run_append}
use Rattle.order.specs.LastPlace.{Place, Own, own?, strip}
use Rattle.order.specs.Insertion.{with_dequeue, with_enqueue}
use Rattle.order.specs.RealTime.{running, Hist, ticket_of_lem, strip_mem}
use Rattle.order.specs.Scans.{Walker, Alike, alike_mem, alike_sym, alike_unscan, alike_pairs, staying, moving, unscan}
use Rattle.order.specs.OrderAfterMark.{Inv, Taking, Where, came, place, after_a, after_b, alike_a, alike_b, inv_a, inv_b, queue_a, queue_b}
use Rattle.order.specs.Appending.{unscan_mem}
use Rattle.order.specs.Calls.{one_if, Call, Apart, Distinct, mem_strip, distinct_a, distinct_b, scans, scans_append, scans_strip, scans_staying}
use Rattle.order.specs.Calls.{scans_unscan, scans_a}

pub alike_distinct : {K : Keys} {L M : Order K} → Alike L M → Distinct L → Distinct M
alike_distinct a d = alike_pairs Apart (λ w f k. absurd k) (λ e w k j. absurd j) a d

-- a call's entry is in both
pub alike_call : {K : Keys} {L M : Order K} → Alike L M → (e : Entry K) → Call e → Mem e L → Mem e M
alike_call {K} {L} {M} a e c m = go (alike_mem (alike_sym a) e m)
  where
    go : Mem e M ⊎ ((w : ℕ) × (e ≡ scan w)) → Mem e M
    go (inl k) = k
    go (inr (w, g)) = absurd (subst Call g c)

one_yes : {P : Type 0} (d : Dec P) → P → one_if d ≡ 1
one_yes (yes h) p = refl
one_yes (no n) p = absurd (n p)

pub scans_in : {K : Keys} (v : ℕ) (L : Order K) → Mem (scan v) L → 0 < scans v L
scans_in v [] m = elim m [ ]
scans_in v (enqueue x ∷ L) (here g) = absurd (let z : ◌≡◌ {A = ℕ} 0 1 = cc in omega arith)
scans_in v (enqueue x ∷ L) (there m) = scans_in v L m
scans_in v (dequeue z c ∷ L) (here g) = absurd (let z : ◌≡◌ {A = ℕ} 0 1 = cc in omega arith)
scans_in v (dequeue z c ∷ L) (there m) = scans_in v L m
scans_in v (empty c ∷ L) (here g) = absurd (let z : ◌≡◌ {A = ℕ} 0 1 = cc in omega arith)
scans_in v (empty c ∷ L) (there m) = scans_in v L m
scans_in v (scan w ∷ L) (here g) = let h : v ≡ w = cc in omega (arith, one_yes (ℕ_discrete w v) (sym h))
scans_in v (scan w ∷ L) (there m) = omega (arith, scans_in v L m)

pub scans_out : {K : Keys} (v : ℕ) (L : Order K) → 0 < scans v L → Mem (scan v) L
scans_out v [] h = absurd (omega arith)
scans_out v (enqueue x ∷ L) h = there (scans_out v L h)
scans_out v (dequeue z c ∷ L) h = there (scans_out v L h)
scans_out v (empty c ∷ L) h = there (scans_out v L h)
scans_out {K} v (scan w ∷ L) h = go (ℕ_discrete w v) h (scans_out v L)
  where
    go : (d : Dec (w ≡ v)) → 0 < one_if d + scans v L → (0 < scans v L → Mem (scan v) L) → Mem (scan v) (scan w ∷ L)
    go (yes e) k ih = here (ap scan (sym e))
    go (no n) k ih = there (ih (omega arith))

pub scans_b : {K : Keys} (S : Q K) (x : Element K) (L : Order K) (p : Place S x L) (c v w : ℕ) → ¬ (v ≡ w)
    → scans v (unscan (staying S x p.front ++ enqueue x ∷ dequeue x c ∷ (moving S x p.front ++ strip p.back x)) w) ≡ scans v L
scans_b {K} S x L p c v w n =
    let A : Order K = staying S x p.front in
    let M : Order K = moving S x p.front in
    let B : Order K = strip p.back x in
    omega (
      arith,
      scans_unscan v w (A ++ enqueue x ∷ dequeue x c ∷ (M ++ B)) n,
      scans_append v A (enqueue x ∷ dequeue x c ∷ (M ++ B)),
      scans_append v M B,
      scans_staying v S x p.front,
      scans_strip v p.back x,
      scans_append v p.front p.back,
      ap (scans v) p.split,
    )

-- ── what was enqueued once and taken is gone ──
-- what is in the queue past an entry is enqueued no more
pub still_once : {K : Keys} (S : Q K) (L : Order K) (x : Element K) (f : Entry K) → ((h : Entry K) → Mem h L → Apart f h)
    → (Mem x S → ¬ Mem (enqueue x) (f ∷ L)) → Mem x (step S f) → ¬ Mem (enqueue x) L
still_once S L x (enqueue p) a o (here g) j = a (enqueue x) j tt tt (ap ticket (sym g))
still_once S L x (enqueue p) a o (there i) j = o i (there j)
still_once S L x (dequeue z c) a o i j = o (without_mem S z i).0 (there j)
still_once S L x (empty c) a o i j = o i (there j)
still_once S L x (scan w) a o i j = o i (there j)

pub taken_gone : {K : Keys} (S : Q K) (L : Order K) (x : Element K) (d : ℕ) → Legal S L → Distinct L → (Mem x S → ¬ Mem (enqueue x) L) → Mem (dequeue x d) L
    → ¬ Mem x (run S L)
taken_gone S [] x d l D once m k = elim m [ ]
taken_gone {K} S (e ∷ L) x d l D once (here g) k = go (subst (λ f. Mem x (run (step S f) L)) (sym g) k) (subst (λ f. Ok S f) (sym g) l.0).0
  where
    go : Mem x (run (without S x) L) → Mem x S → ⊥
    go j i = pick (came (without S x) L x j)
      where
        pick : Mem x (without S x) ⊎ Mem (enqueue x) L → ⊥
        pick (inl y) = (without_mem S x y).1 refl
        pick (inr y) = once i (there y)
taken_gone {K} S (e ∷ L) x d l D once (there m) k = taken_gone (step S e) L x d l.1 D.1 (still_once S L x e D.0 once) m k

-- what is taken was there or was enqueued
pub taken_enqueued : {K : Keys} (S : Q K) (L : Order K) (x : Element K) (d : ℕ) → Legal S L → Mem (dequeue x d) L → Mem x S ⊎ Mem (enqueue x) L
taken_enqueued S [] x d l m = elim m [ ]
taken_enqueued {K} S (e ∷ L) x d l (here g) = inl (subst (λ f. Ok S f) (sym g) l.0).0
taken_enqueued {K} S (e ∷ L) x d l (there m) = go e (taken_enqueued (step S e) L x d l.1 m)
  where
    go : (f : Entry K) → Mem x (step S f) ⊎ Mem (enqueue x) L → Mem x S ⊎ Mem (enqueue x) (f ∷ L)
    go f (inr k) = inr (there k)
    go (enqueue p) (inl (here g)) = inr (here (ap enqueue g))
    go (enqueue p) (inl (there k)) = inl k
    go (dequeue z c) (inl k) = inl (without_mem S z k).0
    go (empty c) (inl k) = inl k
    go (scan w) (inl k) = inl k

pub record Found {K : Keys} (H : Hist) (W : ℕ → Walker K) (L M : Order K) (w : ℕ) (x : Element K) : Type 0 where
  pub inv : Inv H W [] M
  pub queue : run [] M ≡ without (run [] L) x
  pub distinct : Distinct M
  pub kept : (e : Entry K) → Call e → Mem e L → Mem e M
  pub new : (e : Entry K) → Call e → Mem e M → Mem e L ⊎ (e ≡ dequeue x (W w).call) ⊎ (e ≡ enqueue x)
  pub has_dequeue : Mem (dequeue x (W w).call) M
  pub has_enqueue : Mem (enqueue x) M
  pub scan_in : (v : ℕ) → ¬ (v ≡ w) → Mem (scan v) L → Mem (scan v) M
  pub scan_out : (v : ℕ) → Mem (scan v) M → Mem (scan v) L × ¬ (v ≡ w)

module _ {K : Keys} (H : Hist) (W : ℕ → Walker K) (L : Order K) (w : ℕ) (x : Element K) (I : Inv H W [] L) (G : Taking H W [] L w x) (D : Distinct L)
    (fresh : (f : Entry K) → Mem f L → Call f → ¬ (ticket_of_lem f ≡ (W w).call))
    (only : (f : Entry K) → Mem f L → Call f → ticket_of_lem f ≡ ticket x → f ≡ enqueue x) (apart : ¬ (ticket x ≡ (W w).call))
    (untaken : (d : ℕ) → ¬ Mem (dequeue x d) L) where
  split_mem : (p : Place [] x L) (e : Entry K) → Mem e L → Mem e p.front ⊎ Mem e p.back
  split_mem p e m = mem-append p.front (subst (λ N. Mem e N) (sym p.split) m)

  whole_mem : (p : Place [] x L) (e : Entry K) → Mem e p.front ⊎ Mem e p.back → Mem e L
  whole_mem p e (inl m) = subst (λ N. Mem e N) p.split (mem-left p.back m)
  whole_mem p e (inr m) = subst (λ N. Mem e N) p.split (mem-right p.front m)

  own_is : (e : Entry K) → Own e x → e ≡ enqueue x
  own_is (enqueue p) o = ap enqueue o
  own_is (dequeue z d) o = absurd o
  own_is (empty d) o = absurd o
  own_is (scan v) o = absurd o

  kept_a : (p : Place [] x L) → Mem (enqueue x) p.front → (e : Entry K) → Mem e p.front ⊎ Mem e p.back → Mem e (with_dequeue [] x L p (W w).call)
  kept_a p i e (inl m) = mem-left _ m
  kept_a p i e (inr m) = go (own? e x)
    where
      go : Dec (Own e x) → Mem e (with_dequeue [] x L p (W w).call)
      go (yes o) = mem-left _ (subst (λ f. Mem f p.front) (sym (own_is e o)) i)
      go (no n) = mem-right p.front (there (mem_strip p.back x e n m))

  kept_b : (p : Place [] x L) → (e : Entry K) → Mem e p.front ⊎ Mem e p.back → Mem e (with_enqueue [] x L p (W w).call)
  kept_b p e (inl m) = mem-left _ m
  kept_b p e (inr m) = go (own? e x)
    where
      go : Dec (Own e x) → Mem e (with_enqueue [] x L p (W w).call)
      go (yes o) = mem-right p.front (here (own_is e o))
      go (no n) = mem-right p.front (there (there (mem_strip p.back x e n m)))

  new_a : (p : Place [] x L) (e : Entry K) → Mem e p.front ⊎ Mem e (dequeue x (W w).call ∷ strip p.back x)
      → Mem e L ⊎ (e ≡ dequeue x (W w).call) ⊎ (e ≡ enqueue x)
  new_a p e (inl m) = inl (whole_mem p e (inl m))
  new_a p e (inr (here g)) = inr (inl g)
  new_a p e (inr (there m)) = inl (whole_mem p e (inr (strip_mem p.back x e m)))

  new_b : (p : Place [] x L) (e : Entry K) → Mem e p.front ⊎ Mem e (enqueue x ∷ dequeue x (W w).call ∷ strip p.back x)
      → Mem e L ⊎ (e ≡ dequeue x (W w).call) ⊎ (e ≡ enqueue x)
  new_b p e (inl m) = inl (whole_mem p e (inl m))
  new_b p e (inr (here g)) = inr (inr g)
  new_b p e (inr (there (here g))) = inr (inl g)
  new_b p e (inr (there (there m))) = inl (whole_mem p e (inr (strip_mem p.back x e m)))

  enqueue_in : (A : Order K) → Mem x (run [] A) → Mem (enqueue x) A
  enqueue_in A h = go (came [] A x h)
    where
      go : Mem x [] ⊎ Mem (enqueue x) A → Mem (enqueue x) A
      go (inl m) = elim m [ ]
      go (inr m) = m

  found_a : (u : Where H W [] L w x I G) → Mem x (run [] u.at.front) → Found H W L (unscan (after_a H W [] L w x I G u.at) w) w x
  found_a u h =
      let p : Place [] x L = u.at in
      let a : Alike (with_dequeue [] x L p (W w).call) (after_a H W [] L w x I G p) = alike_a H W [] L w x I G p in
      let b : Alike (after_a H W [] L w x I G p) (unscan (after_a H W [] L w x I G p) w) = alike_unscan (after_a H W [] L w x I G p) w in
      let i : Mem (enqueue x) p.front = enqueue_in p.front h in
      record {
        inv = inv_a H W [] L w x I G u h;
        queue = queue_a H W [] L w x I G p;
        distinct = alike_distinct b (alike_distinct a (distinct_a [] x L p (W w).call D fresh));
        kept = λ e k m. alike_call b e k (alike_call a e k (kept_a p i e (split_mem p e m)));
        new = λ e k m. new_a p e (mem-append p.front (alike_call (alike_sym a) e k (alike_call (alike_sym b) e k m)));
        has_dequeue = alike_call b (dequeue x (W w).call) tt (alike_call a (dequeue x (W w).call) tt (mem-right p.front (here refl)));
        has_enqueue = alike_call b (enqueue x) tt (alike_call a (enqueue x) tt (mem-left _ i));
        scan_in = λ v n m. scans_out v _ (omega (arith, scans_a [] x L p (W w).call v w n, scans_in v L m));
        scan_out = λ v m. let n = unscan_mem (after_a H W [] L w x I G p) w v m in
            (scans_out v L (omega (arith, scans_a [] x L p (W w).call v w n, scans_in v _ m)), n);
      }

  found_b : (u : Where H W [] L w x I G) → ¬ Mem x (run [] u.at.front) → (H.end (ticket x) ≡ running) ⊎ Mem (enqueue x) u.at.back
      → Found H W L (unscan (after_b H W [] L w x I G u.at) w) w x
  found_b u h o =
      let p : Place [] x L = u.at in
      let a : Alike (with_enqueue [] x L p (W w).call) (after_b H W [] L w x I G p) = alike_b H W [] L w x I G p in
      let b : Alike (after_b H W [] L w x I G p) (unscan (after_b H W [] L w x I G p) w) = alike_unscan (after_b H W [] L w x I G p) w in
      record {
        inv = inv_b H W [] L w x I G u o;
        queue = queue_b H W [] L w x I G p;
        distinct = alike_distinct b (alike_distinct a (distinct_b [] x L p (W w).call D fresh apart only untaken h));
        kept = λ e k m. alike_call b e k (alike_call a e k (kept_b p e (split_mem p e m)));
        new = λ e k m. new_b p e (mem-append p.front (alike_call (alike_sym a) e k (alike_call (alike_sym b) e k m)));
        has_dequeue = alike_call b (dequeue x (W w).call) tt (alike_call a (dequeue x (W w).call) tt (mem-right p.front (there (here refl))));
        has_enqueue = alike_call b (enqueue x) tt (alike_call a (enqueue x) tt (mem-right p.front (here refl)));
        scan_in = λ v n m. scans_out v _ (omega (arith, scans_b [] x L p (W w).call v w n, scans_in v L m));
        scan_out = λ v m. let n = unscan_mem (after_b H W [] L w x I G p) w v m in
            (scans_out v L (omega (arith, scans_b [] x L p (W w).call v w n, scans_in v _ m)), n);
      }

  pub found : (M : Order K) × Found H W L M w x
  found = go (place H W [] L w x I G) (mem? (run [] (place H W [] L w x I G).at.front) x) G.kept_or_open
    where
      go : (u : Where H W [] L w x I G) → Dec (Mem x (run [] u.at.front)) → Mem x (run [] L) ⊎ (H.end (ticket x) ≡ running)
          → (M : Order K) × Found H W L M w x
      go u (yes h) o = (_, found_a u h)
      go u (no n) (inr o) = (_, found_b u n (inl o))
      go u (no n) (inl m) = (_, found_b u n (inr (back (came _ u.at.back x (rw (← run_append, u.at.split) m)))))
        where
          back : Mem x (run [] u.at.front) ⊎ Mem (enqueue x) u.at.back → Mem (enqueue x) u.at.back
          back (inl k) = absurd (n k)
          back (inr k) = k
