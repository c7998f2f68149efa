-- Step 11's success on x by the walker w: the order after it, and that it keeps LEGAL, AGE, REAL TIME and SCAN.
--     Inv                                          LEGAL, AGE, REAL TIME and SCAN
--     came, inv_alike, inv_unscan                  what is in the queue came into it; scans apart; less a scan
--     Taking, Where, place                         what is known when the swap succeeds, and the place for the dequeue
--     rest, after_a, after_b, alike_a, alike_b     the order after it, with the dequeue, and with the enqueue too
--     queue_a, queue_b                             its queue is the old one without x
--     inv_a, inv_b, taken                          it keeps the invariants; both cases in one
-- Assumes nothing.
use Rattle.std.specs.Prelude.{◌≡◌, refl, ◌⊎◌, ℕ, ◌≤◌, ◌<◌}
use Rattle.std.proofs.Common.{sym, ◌∙◌, ap, subst, inl, inr, arith}
use mathlib.Core.List.Memᴰ.{append_right as mem-right}
use mathlib.Core.List.Memᴰ.{head as here}
use mathlib.Core.List.Memᴰ.{tail as there}
use mathlib.Core.List.{[], ◌∷◌, ◌++◌, Memᴰ as Mem}
use Rattle.order.specs.Entries.{Keys, Element, Entry, enqueue, dequeue, empty, scan, Q, Order, ◌≺◌, ticket, bucket, bucket_up, without, without_yes}
use Rattle.order.specs.Entries.{without_mem, Below, mem?, step, run, Ok, Legal, run_append, walk_right}
use Rattle.order.specs.LastPlace.{Place, place_behind, Calm, strip, run_less}
use Rattle.order.specs.Insertion.{calm_all, with_dequeue, with_enqueue, legal_a, legal_b, run_a, run_b}
use Rattle.order.specs.RealTime.{End, running, ended, Hist, NotBefore, end_of, Timely, strip_mem, AgeAt, Aged, Done, after_ticket, aged_a, aged_b}
use Rattle.order.specs.RealTime.{timely_a, timely_b}
use Rattle.order.specs.Scans.{Walker, Sight, Marks, Alike, both, From, alike_run, alike_walk, alike_timely, alike_append, alike_staying, alike_moving}
use Rattle.order.specs.Scans.{alike_mem, alike_unscan, staying, moving, unscan, marks_find, marks_right, marks_back, marks_staying, marks_moving}
use Rattle.order.specs.Scans.{marks_unscan, sight_moved}

pub record Inv {K : Keys} (H : Hist) (W : ℕ → Walker K) (S : Q K) (L : Order K) : Type 0 where
  pub legal : Legal S L
  pub aged : Aged H S L
  pub done : Done H (run S L)
  pub timely : Timely H L
  pub marks : Marks H W S L

-- what is in the queue was there before, or was enqueued since
pub came : {K : Keys} (S : Q K) (B : Order K) (x : Element K) → Mem x (run S B) → Mem x S ⊎ Mem (enqueue x) B
came S [] x m = inl m
came {K} S (b ∷ B) x m = go b (came (step S b) B x m)
  where
    go : (f : Entry K) → Mem x (step S f) ⊎ Mem (enqueue x) B → Mem x S ⊎ Mem (enqueue x) (f ∷ B)
    go f (inr k) = inr (there k)
    go (enqueue p) (inl (here e)) = inr (here (ap enqueue e))
    go (enqueue p) (inl (there k)) = inl k
    go (dequeue z c) (inl k) = inl (without_mem S z k).0
    go (empty c) (inl k) = inl k
    go (scan w) (inl k) = inl k

module _ {K : Keys} (H : Hist) where
  pub inv_alike : (W : ℕ → Walker K) (S : Q K) (L M : Order K) → Alike L M → Legal S L → Aged H S L → Done H (run S L) → Timely H L → Marks H W S M
      → Inv H W S M
  inv_alike W S L M a l g d t m = record {
    legal = alike_walk Ok (λ S w. tt) S a l;
    aged = alike_walk (AgeAt H) (λ S w q m. tt) S a g;
    done = rw (← alike_run S a) d;
    timely = alike_timely H a t;
    marks = m;
  }

  pub inv_unscan : (W : ℕ → Walker K) (S : Q K) (L : Order K) (w : ℕ) → Inv H W S L → Inv H W S (unscan L w)
  inv_unscan W S L w I = inv_alike W S L (unscan L w) (alike_unscan L w) I.legal I.aged I.done I.timely (marks_unscan H W S L w I.marks)

  -- what the store and the table say when w's swap on x succeeds
  pub record Taking (W : ℕ → Walker K) (S : Q K) (L : Order K) (w : ℕ) (x : Element K) : Type 0 where
    pub scanning : Mem (scan w) L
    pub open_call : H.end (W w).call ≡ running
    pub kept_or_open : Mem x (run S L) ⊎ (H.end (ticket x) ≡ running)
    pub bucket_here : bucket x ≡ (W w).floor
    pub first : (z : Element K) → (W w).Ahead z → ¬ (z ≺ x)
    pub epochs : (q : Element K) (s : ℕ) → Mem (enqueue q) L → H.end (ticket q) ≡ ended s → s < ticket x → H.late (ticket q) ≤ (W w).epoch
    pub total : (q : Element K) → Mem q (run S L) → ¬ (q ≡ x) → ¬ (q ≺ x) → x ≺ q
    pub others : (v : ℕ) (q : Element K) → Mem q (run S L) → (W v).Ahead x → x ≺ q → bucket q ≡ bucket x → (W v).Ahead q

  module _ (W : ℕ → Walker K) (S : Q K) (L : Order K) (w : ℕ) (x : Element K) (I : Inv H W S L) (G : Taking W S L w x) where
    -- behind the place nothing was over before the dequeue began, nor before x's enqueue began
    pub record Where : Type 0 where
      pub at : Place S x L
      pub young : (f : Entry K) → Mem f at.back → NotBefore (W w).call (end_of H f)
      pub later : (f : Entry K) → Mem f at.back → NotBefore (ticket x) (end_of H f)

    behind : (p : Place S x L) (D : Order K) (R : Q K) → Sight H (W w) R D → ((f : Entry K) → Mem f p.back → Mem f (scan w ∷ D)) → Where
    behind p D R s i = record { at = p; young = λ f m. young f (i f m); later = later }
      where
        young : (f : Entry K) → Mem f (scan w ∷ D) → NotBefore (W w).call (end_of H f)
        young f (here h) = rw h tt
        young f (there k) = s.young f k

        in_whole : (f : Entry K) → Mem f p.back → Mem f L
        in_whole f m = subst (λ M. Mem f M) p.split (mem-right p.front m)

        enqueue_in : (q : Element K) → Mem (enqueue q) (scan w ∷ D) → Mem (enqueue q) D
        enqueue_in q (here h) = absurd (let z : ◌≡◌ {A = ℕ} 0 1 = cc in omega arith)
        enqueue_in q (there m) = m

        of_end : (q : Element K) → Mem (enqueue q) p.back → q ≺ x → (d : End) → H.end (ticket q) ≡ d → NotBefore (ticket x) d
        of_end q m h running e = tt
        of_end q m h (ended t) e =
            let f : (W w).epoch < H.late (ticket q) = s.fresh q t (enqueue_in q (i (enqueue q) m)) e (omega (arith, bucket_up q x h, G.bucket_here)) in
            let n : ¬ (t < ticket x) = λ l. omega (arith, G.epochs q t (in_whole (enqueue q) m) e l) in
            omega arith

        later : (f : Entry K) → Mem f p.back → NotBefore (ticket x) (end_of H f)
        later =
            after_ticket H (run S p.front) x (ticket x) p.back (λ q m h. absurd (p.clear (q, m, h))) (λ q m h. of_end q m h (H.end (ticket q)) refl)
            p.busy (walk_right (AgeAt H) S p.front p.back (rw p.split I.aged))

    pub place : Where
    place =
        let (A, D, g, s) = marks_find H W S L w I.marks G.scanning in
        let (p, i) = place_behind S x A (scan w ∷ D) L g (clear A D s) in
        behind p D (run S A) s i
      where
        clear : (A D : Order K) → Sight H (W w) (run S A) D → ¬ Below (run S A) x
        clear A D s (q, m, h) =
            let e : bucket q ≡ (W w).floor = omega (arith, bucket_up q x h, s.above q m, G.bucket_here) in
            G.first q (s.ahead q m e) h

    -- ── the order after the step ──
    -- behind the take: the scans that move, and what stood behind the place
    abbrev pub rest : Place S x L → Order K
    rest p = moving S x p.front ++ strip p.back x

    abbrev pub after_a : Place S x L → Order K
    after_a p = staying S x p.front ++ dequeue x (W w).call ∷ rest p

    abbrev pub after_b : Place S x L → Order K
    after_b p = staying S x p.front ++ enqueue x ∷ dequeue x (W w).call ∷ rest p

    module _ (p : Place S x L) where
      split_marks : Marks H W S (p.front ++ p.back)
      split_marks = rw p.split I.marks

      calm_back : (e : Entry K) → Mem e p.back → Calm e x
      calm_back = calm_all _ x p.back p.busy (walk_right Ok S p.front p.back (rw p.split I.legal))

      run_rest : run (without (run S p.front) x) (rest p) ≡ without (run (run S p.front) p.back) x
      run_rest = sym (alike_run _ (alike_moving S x p.front (strip p.back x))) ∙ run_less _ x p.back

      from_rest : (f : Entry K) → Mem f (rest p) → From H p.back f
      from_rest f m = go (alike_mem (alike_moving S x p.front (strip p.back x)) f m)
        where
          go : Mem f (strip p.back x) ⊎ ((v : ℕ) × (f ≡ scan v)) → From H p.back f
          go (inl k) = inl (strip_mem p.back x f k)
          go (inr (v, g)) = inr (ap (end_of H) g)

      marks_rest : Marks H W (without (run S p.front) x) (rest p)
      marks_rest =
          marks_moving H W S x p.front p.back _ (strip p.back x) moved split_marks
          (marks_back H W _ x p.back (marks_right H W S p.front p.back split_marks))
        where
          moved : (v : ℕ) (R : Q K) (D E : Order K) → Sight H (W v) R D → Mem x R → ((f : Entry K) → Mem f p.back → Mem f D) → Alike (strip p.back x) E
              → Sight H (W v) (without (run S p.front) x) E
          moved v R D E s h i a =
              sight_moved H (W v) x R (run S p.front) D p.back E s h i p.clear calm_back a (λ q m. G.others v q (rw (← p.split, run_append) m))
              (λ q m. G.total q (rw (← p.split, run_append) m))

      marks_a : Marks H W S (after_a p)
      marks_a = marks_staying H W S x p.front p.back (dequeue x (W w).call ∷ rest p) run_rest from split_marks (tt, marks_rest)
        where
          from : (f : Entry K) → Mem f (dequeue x (W w).call ∷ rest p) → From H p.back f
          from f (here h) = inr (ap (end_of H) h ∙ G.open_call)
          from f (there m) = from_rest f m

      marks_b : From H p.back (enqueue x) → Marks H W S (after_b p)
      marks_b o =
          marks_staying H W S x p.front p.back (enqueue x ∷ dequeue x (W w).call ∷ rest p)
          (ap (λ T. run T (rest p)) (without_yes x (run S p.front) x refl)
          ∙ run_rest) from split_marks (tt, (tt, rw (without_yes x (run S p.front) x refl) marks_rest))
        where
          from : (f : Entry K) → Mem f (enqueue x ∷ dequeue x (W w).call ∷ rest p) → From H p.back f
          from f (here h) = subst (λ t. From H p.back t) (sym h) o
          from f (there (here h)) = inr (ap (end_of H) h ∙ G.open_call)
          from f (there (there m)) = from_rest f m

    -- ── the theorem: the order after step 11 keeps them all, and its queue is the old one without x ──
    gone : (M : Order K) → run S M ≡ without (run S L) x → Done H (run S M)
    gone M g q m = I.done q (without_mem _ x (subst (λ T. Mem q T) g m)).0

    alike_rest : (p : Place S x L) → Alike (strip p.back x) (rest p)
    alike_rest p = alike_moving S x p.front (strip p.back x)

    pub alike_a : (p : Place S x L) → Alike (with_dequeue S x L p (W w).call) (after_a p)
    alike_a p = alike_append (alike_staying S x p.front) (both (alike_rest p))

    pub alike_b : (p : Place S x L) → Alike (with_enqueue S x L p (W w).call) (after_b p)
    alike_b p = alike_append (alike_staying S x p.front) (both (both (alike_rest p)))

    pub queue_a : (p : Place S x L) → run S (unscan (after_a p) w) ≡ without (run S L) x
    queue_a p = sym (alike_run S (alike_a p) ∙ alike_run S (alike_unscan (after_a p) w)) ∙ run_a S x L p (W w).call

    pub queue_b : (p : Place S x L) → run S (unscan (after_b p) w) ≡ without (run S L) x
    queue_b p = sym (alike_run S (alike_b p) ∙ alike_run S (alike_unscan (after_b p) w)) ∙ run_b S x L p (W w).call

    -- x is in the queue at the place
    pub inv_a : (u : Where) → Mem x (run S u.at.front) → Inv H W S (unscan (after_a u.at) w)
    inv_a u h =
        let p = u.at in
        let c = (W w).call in
        inv_unscan W S (after_a p) w
        (inv_alike W S (with_dequeue S x L p c) (after_a p) (alike_a p)
        (legal_a S x L p c I.legal h)
        (aged_a H S x L p c G.open_call I.aged I.done)
        (gone (with_dequeue S x L p c) (run_a S x L p c))
        (timely_a H S x L p c G.open_call I.timely u.young)
        (marks_a p))

    -- it is not: its enqueue goes in, from where it stood behind the place or as a new one
    pub inv_b : (u : Where) → (H.end (ticket x) ≡ running) ⊎ Mem (enqueue x) u.at.back → Inv H W S (unscan (after_b u.at) w)
    inv_b u o =
        let p = u.at in
        let c = (W w).call in
        inv_unscan W S (after_b p) w
        (inv_alike W S (with_enqueue S x L p c) (after_b p) (alike_b p)
        (legal_b S x L p c I.legal)
        (aged_b H S x L p c G.open_call I.aged I.done I.legal o)
        (gone (with_enqueue S x L p c) (run_b S x L p c))
        (timely_b H S x L p c G.open_call I.timely u.young u.later o)
        (marks_b p (swap o)))
      where
        swap : (H.end (ticket x) ≡ running) ⊎ Mem (enqueue x) u.at.back → From H u.at.back (enqueue x)
        swap (inl e) = inr e
        swap (inr m) = inl m

    -- both: there is an order that keeps the invariants, and whose queue is the old one without x
    pub taken : (M : Order K) × Inv H W S M × (run S M ≡ without (run S L) x)
    taken = go place (mem? (run S place.at.front) x) G.kept_or_open
      where
        go : (u : Where) → Dec (Mem x (run S u.at.front)) → Mem x (run S L) ⊎ (H.end (ticket x) ≡ running)
            → (M : Order K) × Inv H W S M × (run S M ≡ without (run S L) x)
        go u (yes h) o = (unscan (after_a u.at) w, inv_a u h, queue_a u.at)
        go u (no n) (inr o) = (unscan (after_b u.at) w, inv_b u (inl o), queue_b u.at)
        go u (no n) (inl m) = (unscan (after_b u.at) w, inv_b u (inr (back (came _ u.at.back x (rw (← run_append, u.at.split) m)))), queue_b u.at)
          where
            back : Mem x (run S u.at.front) ⊎ Mem (enqueue x) u.at.back → Mem (enqueue x) u.at.back
            back (inl k) = absurd (n k)
            back (inr k) = k
