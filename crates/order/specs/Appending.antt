-- The other changes of the order: a call ends, an entry is appended, a scan is set to the end, a walk goes on.
--     Ends, Past                                                              a call ends; nothing is over later
--     settled_late, not_settled, settled_kept, done_kept, not_before_kept     what an end keeps
--     walk_map, Anew, marks_map                                               walks and scans carried to other tables
--     Longer, marks_snoc                                                      scans where an entry is appended
--     inv_end, inv_enqueue, inv_empty                                         a call ends; its enqueue, or its empty dequeue, is appended
--     unscan_mem, inv_scan                                                    a scan is set to the end
--     walked_out, inv_shift                                                   a walk comes to the end of its bucket; the store changes
-- Assumes nothing.
use Rattle.std.specs.Prelude.{◌≡◌, refl, ◌⊎◌, ℕ, ◌≤◌, ◌<◌}
use Rattle.std.proofs.Common.{sym, ◌∙◌, ap, subst, inl, inr, arith}
use mathlib.Core.List.Memᴰ.{append_cases as mem-append}
use mathlib.Core.List.Memᴰ.{head as here}
use mathlib.Core.List.Memᴰ.{tail as there}
use mathlib.Core.List.{List, [], ◌∷◌, ◌++◌, Memᴰ as Mem}
use mathlib.Core.List.Memᴰ.{append_right as mem-right}
use Rattle.std.proofs.Math.Decide.{ℕ_discrete}
use Rattle.order.specs.Entries.{Keys, Element, Entry, enqueue, dequeue, empty, scan, Q, Order, keep, ticket, bucket, without, step, run, Walk, Ok}
use Rattle.order.specs.Entries.{run_append, walk_append}
use Rattle.order.specs.RealTime.{End, running, ended, Hist, NotBefore, Settled, end_of, ticket_of_lem, InTime, Timely, pairs_snoc, Elder, AgeAt, settled_open}
use Rattle.order.specs.Scans.{Walker, Sight, Marks, marks_find, Alike, nil, both, right, alike_run, alike_unscan, sight_alike, unscan, running_ended}
use Rattle.order.specs.OrderAfterMark.{Inv, came, inv_alike, inv_unscan}

-- the call c, which ran in H, is over in H', at s
pub record Ends (H H' : Hist) (c s : ℕ) : Type 0 where
  pub ran : H.end c ≡ running
  pub over : H'.end c ≡ ended s
  pub other_end : (n : ℕ) → ¬ (n ≡ c) → H'.end n ≡ H.end n
  pub other_late : (n : ℕ) → ¬ (n ≡ c) → H'.late n ≡ H.late n

-- nothing is over later than s
abbrev pub Past : Hist → ℕ → Type 0
Past H s = (n t : ℕ) → H.end n ≡ ended t → t ≤ s

pub settled_late : (a : End) (s : ℕ) → ((t : ℕ) → a ≡ ended t → t ≤ s) → Settled a running → Settled a (ended s)
settled_late running s b h = h
settled_late (ended t) s b h = b t refl

pub not_settled : (a b : End) → a ≡ running → Settled a b → ⊥
not_settled running b e h = h
not_settled (ended t) b e h = running_ended t (sym e)

module _ {H H' : Hist} {c s : ℕ} (E : Ends H H' c s) (B : Past H s) where
  pub settled_kept : (m n : ℕ) → Settled (H.end m) (H.end n) → Settled (H'.end m) (H'.end n)
  settled_kept m n h = go (ℕ_discrete m c) (ℕ_discrete n c)
    where
      go : Dec (m ≡ c) → Dec (n ≡ c) → Settled (H'.end m) (H'.end n)
      go (yes e) d = absurd (not_settled (H.end m) (H.end n) (ap H.end e ∙ E.ran) h)
      go (no k) (yes e) = rw (E.other_end m k, e, E.over) (settled_late (H.end m) s (B m) (settled_open (H.end m) (H.end n) h))
      go (no k) (no l) = rw (E.other_end m k, E.other_end n l) h

  pub done_kept : (m : ℕ) → Settled (H.end m) running → Settled (H'.end m) running
  done_kept m h = go (ℕ_discrete m c)
    where
      go : Dec (m ≡ c) → Settled (H'.end m) running
      go (yes e) = rw (e, E.over) tt
      go (no k) = rw (E.other_end m k) h

  pub not_before_kept : (k n : ℕ) → k ≤ s → NotBefore k (H.end n) → NotBefore k (H'.end n)
  not_before_kept k n l h = go (ℕ_discrete n c)
    where
      go : Dec (n ≡ c) → NotBefore k (H'.end n)
      go (yes e) = rw (e, E.over) l
      go (no m) = rw (E.other_end n m) h

pub walk_map : {K : Keys} (P R : Q K → Entry K → Type 0) → ((S : Q K) (e : Entry K) → P S e → R S e) → (S : Q K) (L : Order K) → Walk P S L → Walk R S L
walk_map P R f S [] w = tt
walk_map P R f S (e ∷ L) w = (f S e w.0, walk_map P R f (step S e) L w.1)

-- scans, when the tables or what their workers know have changed: T and D as they stand in L
abbrev pub Anew : {K : Keys} → Hist → Hist → (ℕ → Walker K) → (ℕ → Walker K) → Q K → Order K → Type 0
Anew {K} H H' W W' S L = (v : ℕ) (T : Q K) (D : Order K) → Mem (scan v) L → ((f : Entry K) → Mem f D → Mem f L) → run T D ≡ run S L → Sight H (W v) T D
    → Sight H' (W' v) T D

pub marks_map : {K : Keys} (H H' : Hist) (W W' : ℕ → Walker K) (S : Q K) (L : Order K) → Anew H H' W W' S L → Marks H W S L → Marks H' W' S L
marks_map H H' W W' S [] f h = tt
marks_map H H' W W' S (enqueue p ∷ L) f h = (tt, marks_map H H' W W' (p ∷ S) L (λ v T D m i. f v T D (there m) (λ d k. there (i d k))) h.1)
marks_map H H' W W' S (dequeue z c ∷ L) f h = (tt, marks_map H H' W W' (without S z) L (λ v T D m i. f v T D (there m) (λ d k. there (i d k))) h.1)
marks_map H H' W W' S (empty c ∷ L) f h = (tt, marks_map H H' W W' S L (λ v T D m i. f v T D (there m) (λ d k. there (i d k))) h.1)
marks_map H H' W W' S (scan w ∷ L) f h =
    (f w S L (here refl) (λ d m. there m) refl h.0, marks_map H H' W W' S L (λ v T D m i. f v T D (there m) (λ d k. there (i d k))) h.1)

-- scans, when e is appended
abbrev pub Longer : {K : Keys} → Hist → (ℕ → Walker K) → Q K → Order K → Entry K → Type 0
Longer {K} H W S L e = (v : ℕ) (T : Q K) (D : Order K) → Mem (scan v) L → run T D ≡ run S L → Sight H (W v) T D → Sight H (W v) T (D ++ e ∷ [])

pub marks_snoc : {K : Keys} (H : Hist) (W : ℕ → Walker K) (S : Q K) (L : Order K) (e : Entry K) → Longer H W S L e → Marks H W (run S L) (e ∷ [])
    → Marks H W S L → Marks H W S (L ++ e ∷ [])
marks_snoc H W S [] e f n h = n
marks_snoc H W S (enqueue p ∷ L) e f n h = (tt, marks_snoc H W (p ∷ S) L e (λ v T D m. f v T D (there m)) n h.1)
marks_snoc H W S (dequeue z c ∷ L) e f n h = (tt, marks_snoc H W (without S z) L e (λ v T D m. f v T D (there m)) n h.1)
marks_snoc H W S (empty c ∷ L) e f n h = (tt, marks_snoc H W S L e (λ v T D m. f v T D (there m)) n h.1)
marks_snoc H W S (scan w ∷ L) e f n h = (f w S L (here refl) refl h.0, marks_snoc H W S L e (λ v T D m. f v T D (there m)) n h.1)

-- ── a call ends ──
module _ {K : Keys} {H H' : Hist} {c s : ℕ} (E : Ends H H' c s) (B : Past H s) (W : ℕ → Walker K) (S : Q K) (L : Order K)
    (tickets : (f : Entry K) → Mem f L → ticket_of_lem f ≤ s)
    (calls : (v : ℕ) → Mem (scan v) L → (W v).call ≤ s)
    (fresh : (v : ℕ) (q : Element K) → Mem (scan v) L → Mem (enqueue q) L → ticket q ≡ c → bucket q ≤ (W v).floor → (W v).epoch < H'.late c) where
  end_kept : (k : ℕ) (f : Entry K) → k ≤ s → NotBefore k (end_of H f) → NotBefore k (end_of H' f)
  end_kept k (enqueue x) l h = not_before_kept E B k (ticket x) l h
  end_kept k (dequeue z n) l h = not_before_kept E B k n l h
  end_kept k (empty n) l h = not_before_kept E B k n l h
  end_kept k (scan w) l h = tt

  elder_kept : (q : Element K) (e : Entry K) → Elder H q e → Elder H' q e
  elder_kept q (enqueue p) (inl g) = inl g
  elder_kept q (enqueue p) (inr h) = inr (settled_kept E B (ticket q) (ticket p) h)
  elder_kept q (dequeue z n) h = settled_kept E B (ticket q) n h
  elder_kept q (empty n) h = settled_kept E B (ticket q) n h
  elder_kept q (scan w) h = tt

  timely_kept : (M : Order K) → ((f : Entry K) → Mem f M → ticket_of_lem f ≤ s) → Timely H M → Timely H' M
  timely_kept [] b t = tt
  timely_kept (e ∷ M) b t = (λ f m. end_kept (ticket_of_lem e) f (b e (here refl)) (t.0 f m), timely_kept M (λ f m. b f (there m)) t.1)

  sight_kept : Anew H H' W W S L
  sight_kept v T D m i g σ = record {
    kept = σ.kept;
    above = σ.above;
    ahead = σ.ahead;
    young = λ f k. end_kept (W v).call f (calls v m) (σ.young f k);
    fresh = λ q t k e b. go q t k e b (ℕ_discrete (ticket q) c);
  }
    where
      go : (q : Element K) (t : ℕ) → Mem (enqueue q) D → H'.end (ticket q) ≡ ended t → bucket q ≤ (W v).floor → Dec (ticket q ≡ c)
          → (W v).epoch < H'.late (ticket q)
      go q t k e b (yes n) = rw n (fresh v q m (i (enqueue q) k) n b)
      go q t k e b (no n) = rw (E.other_late (ticket q) n) (σ.fresh q t k (sym (E.other_end (ticket q) n) ∙ e) b)

  pub inv_end : Inv H W S L → Inv H' W S L
  inv_end I = record {
    legal = I.legal;
    aged = walk_map (AgeAt H) (AgeAt H') (λ T e a q m. elder_kept q e (a q m)) S L I.aged;
    done = λ q m. done_kept E B (ticket q) (I.done q m);
    timely = timely_kept L tickets I.timely;
    marks = marks_map H H' W W S L sight_kept I.marks;
  }

-- ── an entry is appended ──
mem_snoc : {A : Type 0} (L : List A) {e f : A} → Mem f (L ++ e ∷ []) → Mem f L ⊎ (f ≡ e)
mem_snoc {A} L {e} {f} m = go (mem-append L m)
  where
    go : Mem f L ⊎ Mem f (e ∷ []) → Mem f L ⊎ (f ≡ e)
    go (inl k) = inl k
    go (inr (here g)) = inr g
    go (inr (there m)) = elim m [ ]

settled_of_done : (H : Hist) (s n m : ℕ) → Past H s → H.end n ≡ ended s → Settled (H.end m) running → Settled (H.end m) (H.end n)
settled_of_done H s n m B e h = rw e (settled_late (H.end m) s (B m) h)

module _ {K : Keys} (H : Hist) (W : ℕ → Walker K) (S : Q K) (L : Order K) (s : ℕ) (B : Past H s)
    (tickets : (f : Entry K) → Mem f L → ticket_of_lem f ≤ s)
    (calls : (v : ℕ) → Mem (scan v) L → (W v).call ≤ s)
    (I : Inv H W S L) where
  -- the enqueue of x, over at s
  pub inv_enqueue : (x : Element K) → H.end (ticket x) ≡ ended s → ((v : ℕ) → Mem (scan v) L → bucket x ≤ (W v).floor → (W v).epoch < H.late (ticket x))
      → Inv H W S (L ++ enqueue x ∷ [])
  inv_enqueue x e fr = record {
    legal = walk_append Ok S L (enqueue x ∷ []) I.legal (tt, tt);
    aged = walk_append (AgeAt H) S L (enqueue x ∷ []) I.aged (aged, tt);
    done = λ q m. done q (subst (λ T. Mem q T) (run_append S L (enqueue x ∷ [])) m);
    timely = pairs_snoc (InTime H) L (enqueue x) (λ f m. rw e (tickets f m)) I.timely;
    marks = marks_snoc H W S L (enqueue x) sight (tt, tt) I.marks;
  }
    where
      aged : (q : Element K) → Mem q (x ∷ run S L) → Elder H q (enqueue x)
      aged q (here g) = inl g
      aged q (there m) = inr (settled_of_done H s (ticket x) (ticket q) B e (I.done q m))

      done : (q : Element K) → Mem q (x ∷ run S L) → Settled (H.end (ticket q)) running
      done q (here g) = rw (g, e) tt
      done q (there m) = I.done q m

      sight : Longer H W S L (enqueue x)
      sight v T D m g σ = record {
        kept = λ q k. rw (run_append T D (enqueue x ∷ [])) (there (σ.kept q k));
        above = σ.above;
        ahead = σ.ahead;
        young = λ f k. young f (mem_snoc D k);
        fresh = λ q t k. fresh q t (mem_snoc D k);
      }
        where
          young : (f : Entry K) → Mem f D ⊎ (f ≡ enqueue x) → NotBefore (W v).call (end_of H f)
          young f (inl k) = σ.young f k
          young f (inr h) = rw (h, e) (calls v m)

          fresh : (q : Element K) (t : ℕ) → Mem (enqueue q) D ⊎ (enqueue q ≡ enqueue x) → H.end (ticket q) ≡ ended t → bucket q ≤ (W v).floor
              → (W v).epoch < H.late (ticket q)
          fresh q t (inl k) i b = σ.fresh q t k i b
          fresh q t (inr h) i b = let j : q ≡ x = cc in rw j (fr v m (rw j at b))

  -- an empty dequeue, over at s
  pub inv_empty : (c : ℕ) → H.end c ≡ ended s → ((q : Element K) → ¬ Mem q (run S L)) → Inv H W S (L ++ empty c ∷ [])
  inv_empty c e n = record {
    legal = walk_append Ok S L (empty c ∷ []) I.legal (n, tt);
    aged = walk_append (AgeAt H) S L (empty c ∷ []) I.aged ((λ q m. absurd (n q m)), tt);
    done = λ q m. I.done q (subst (λ T. Mem q T) (run_append S L (empty c ∷ [])) m);
    timely = pairs_snoc (InTime H) L (empty c) (λ f m. rw e (tickets f m)) I.timely;
    marks = marks_snoc H W S L (empty c) sight (tt, tt) I.marks;
  }
    where
      sight : Longer H W S L (empty c)
      sight v T D m g σ = record {
        kept = λ q k. rw (run_append T D (empty c ∷ [])) (σ.kept q k);
        above = σ.above;
        ahead = σ.ahead;
        young = λ f k. young f (mem_snoc D k);
        fresh = λ q t k. fresh q t (mem_snoc D k);
      }
        where
          young : (f : Entry K) → Mem f D ⊎ (f ≡ empty c) → NotBefore (W v).call (end_of H f)
          young f (inl k) = σ.young f k
          young f (inr h) = rw (h, e) (calls v m)

          fresh : (q : Element K) (t : ℕ) → Mem (enqueue q) D ⊎ (enqueue q ≡ empty c) → H.end (ticket q) ≡ ended t → bucket q ≤ (W v).floor
              → (W v).epoch < H.late (ticket q)
          fresh q t (inl k) i b = σ.fresh q t k i b
          fresh q t (inr h) i b = absurd (let z : ◌≡◌ {A = ℕ} 0 1 = cc in omega arith)

-- ── a scan is set to the end: w's word seen is now that of W' ──
pub unscan_mem : {K : Keys} (L : Order K) (w v : ℕ) → Mem (scan v) (unscan L w) → ¬ (v ≡ w)
unscan_mem [] w v m = elim m [ ]
unscan_mem (enqueue p ∷ L) w v (here g) = absurd (let z : ◌≡◌ {A = ℕ} 0 1 = cc in omega arith)
unscan_mem (enqueue p ∷ L) w v (there m) = unscan_mem L w v m
unscan_mem (dequeue x c ∷ L) w v (here g) = absurd (let z : ◌≡◌ {A = ℕ} 0 1 = cc in omega arith)
unscan_mem (dequeue x c ∷ L) w v (there m) = unscan_mem L w v m
unscan_mem (empty c ∷ L) w v (here g) = absurd (let z : ◌≡◌ {A = ℕ} 0 1 = cc in omega arith)
unscan_mem (empty c ∷ L) w v (there m) = unscan_mem L w v m
unscan_mem (scan u ∷ L) w v m = go (ℕ_discrete u w) m (unscan_mem L w v)
  where
    go : (d : Dec (u ≡ w)) → Mem (scan v) (keep d (scan u) (unscan L w)) → (Mem (scan v) (unscan L w) → ¬ (v ≡ w)) → ¬ (v ≡ w)
    go (yes e) k ih = ih k
    go (no n) (here g) ih = λ e. n (let h : v ≡ u = cc in sym h ∙ e)
    go (no n) (there k) ih = ih k

alike_snoc : {K : Keys} (D : Order K) (w : ℕ) → Alike D (D ++ scan w ∷ [])
alike_snoc [] w = right nil
alike_snoc (e ∷ D) w = both (alike_snoc D w)

module _ {K : Keys} (H : Hist) (W W' : ℕ → Walker K) (S : Q K) (L : Order K) (w : ℕ) (I : Inv H W S L) (same : (v : ℕ) → ¬ (v ≡ w) → W' v ≡ W v)
    (above : (q : Element K) → Mem q (run S L) → (W' w).floor ≤ bucket q)
    (ahead : (q : Element K) → Mem q (run S L) → bucket q ≡ (W' w).floor → (W' w).Ahead q) where
  unchanged : Anew H H W W' S (unscan L w)
  unchanged v T D m i g σ = subst (λ U. Sight H U T D) (sym (same v (unscan_mem L w v m))) σ

  pub inv_scan : Inv H W' S (unscan L w ++ scan w ∷ [])
  inv_scan =
      let J = inv_unscan H W S L w I in
      let M : Order K = unscan L w in
      let g : run S L ≡ run S M = alike_run S (alike_unscan L w) in
      inv_alike H W' S M (M ++ scan w ∷ []) (alike_snoc M w) J.legal J.aged J.done J.timely
      (marks_snoc H W' S M (scan w) (λ v T D m e σ. sight_alike H (W' v) T D (D ++ scan w ∷ []) (alike_snoc D w) σ) (
        record {
          kept = λ q m. m;
          above = λ q m. above q (subst (λ T. Mem q T) (sym g) m);
          ahead = λ q m. ahead q (subst (λ T. Mem q T) (sym g) m);
          young = λ f m. elim m [ ];
          fresh = λ q t m. elim m [ ];
        },
        tt,
      )
      (marks_map H H W W' S M unchanged J.marks))

-- ── w has walked to the end of its bucket, and no enqueue was answered since: nothing in the queue is as low as that bucket (12, 13) ──
module _ {K : Keys} (H : Hist) (W : ℕ → Walker K) (S : Q K) (L : Order K) (w : ℕ) (I : Inv H W S L) (scanning : Mem (scan w) L)
    (none : (q : Element K) → ¬ ((W w).Ahead q))
    (lates : (q : Element K) (t : ℕ) → Mem (enqueue q) L → H.end (ticket q) ≡ ended t → H.late (ticket q) ≤ (W w).epoch) where
  pub walked_out : (q : Element K) → Mem q (run S L) → (W w).floor < bucket q
  walked_out q m =
      let (A, D, g, σ) = marks_find H W S L w I.marks scanning in
      by_end A D g σ (H.end (ticket q)) refl (I.done q m)
    where
      high : (A D : Order K) → A ++ scan w ∷ D ≡ L → Sight H (W w) (run S A) D → (t : ℕ) → H.end (ticket q) ≡ ended t
          → Mem q (run S A) ⊎ Mem (enqueue q) (scan w ∷ D) → ¬ (bucket q ≤ (W w).floor)
      high A D g σ t e (inl k) b = none q (σ.ahead q k (omega (arith, σ.above q k)))
      high A D g σ t e (inr (here h)) b = let z : ◌≡◌ {A = ℕ} 0 1 = cc in omega arith
      high A D g σ t e (inr (there k)) b = omega (arith, σ.fresh q t k e b, lates q t (subst (λ M. Mem (enqueue q) M) g (mem-right A (there k))) e)

      by_end : (A D : Order K) → A ++ scan w ∷ D ≡ L → Sight H (W w) (run S A) D → (d : End) → H.end (ticket q) ≡ d → Settled (H.end (ticket q)) running
          → (W w).floor < bucket q
      by_end A D g σ running e h = absurd (not_settled (H.end (ticket q)) running e h)
      by_end A D g σ (ended t) e h =
          let n : ¬ (bucket q ≤ (W w).floor) = high A D g σ t e (came (run S A) (scan w ∷ D) q (rw (← run_append, g) m)) in
          omega arith

-- ── what lies ahead of each walk has changed, but holds what is in the queue ──
module _ {K : Keys} (H : Hist) (W W' : ℕ → Walker K) (S : Q K) (L : Order K) (I : Inv H W S L)
    (call : (v : ℕ) → Mem (scan v) L → (W' v).call ≡ (W v).call) (floor : (v : ℕ) → Mem (scan v) L → (W' v).floor ≡ (W v).floor)
    (epoch : (v : ℕ) → Mem (scan v) L → (W' v).epoch ≡ (W v).epoch)
    (ahead : (v : ℕ) → Mem (scan v) L → (q : Element K) → Mem q (run S L) → (W v).Ahead q → (W' v).Ahead q) where
  pub inv_shift : Inv H W' S L
  inv_shift = record { legal = I.legal; aged = I.aged; done = I.done; timely = I.timely; marks = marks_map H H W W' S L shift I.marks }
    where
      shift : Anew H H W W' S L
      shift v T D m i g σ = record {
        kept = σ.kept;
        above = λ q k. rw (floor v m) (σ.above q k);
        ahead = λ q k e. ahead v m q (subst (λ R. Mem q R) g (σ.kept q k)) (σ.ahead q k (e ∙ floor v m));
        young = λ f k. rw (call v m) (σ.young f k);
        fresh = λ q t k e b. rw (epoch v m) (σ.fresh q t k e (rw (floor v m) at b));
      }
