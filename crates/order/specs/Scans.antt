-- Scans: places of the order that are no entries. Orders that differ in scans only; SCAN's invariant and what keeps it.
--     never_early                                                                 nothing is over before call 0
--     Walker                                                                      what is known of a worker whose scan it is
--     running_ended                                                               no call is running and over
--     Alike, alike_refl                                                           orders that differ in scans only
--     alike_run, alike_walk, alike_mem, alike_each                                what is the same of them
--     alike_sym, alike_append                                                     the other way round; one behind the other
--     Sees, sees?, staying, only, moving                                          scans that see x, those that stay and those that move
--     alike_staying, alike_moving, unscan, alike_unscan                           the orders without them
--     alike_pairs, alike_timely                                                   real time is the same of orders alike
--     Sight, At, Marks                                                            SCAN: what is known at a scan, and at each
--     marks_right, marks_find                                                     of a part; of one scan
--     From                                                                        what stood there, or is new and open
--     sight_lost, marks_back                                                      where the queue has lost x
--     scan_from, from_append                                                      what stood there, of a part
--     marks_staying                                                               scans that stay
--     marks_moving, sight_moved                                                   scans that move
--     sight_alike, marks_unscan                                                   a scan taken out
-- Assumes nothing.
use Rattle.std.specs.Prelude.{◌≡◌, refl, ◌⊎◌, ℕ, ◌≤◌, ◌<◌}
use Rattle.std.proofs.Common.{sym, ◌∙◌, ap, subst, inl, inr, arith}
use mathlib.Core.List.Memᴰ.{append_cases as mem-append}
use mathlib.Core.List.Memᴰ.{head as here}
use mathlib.Core.List.Memᴰ.{tail as there}
use mathlib.Core.List.{[], ◌∷◌, ◌++◌, Memᴰ as Mem}
use mathlib.Core.List.Memᴰ.{append_left as mem-left}
use mathlib.Core.List.Memᴰ.{append_right as mem-right}
use Rattle.std.proofs.Math.Decide.{ℕ_discrete}
use Rattle.order.specs.Entries.{Keys, Element, Entry, enqueue, dequeue, empty, scan, Q, Order, keep, ◌≺◌, ticket, bucket, bucket_up, without, mem_without}
use Rattle.order.specs.Entries.{without_mem, Below, mem?, step, run, Walk, run_append}
use Rattle.order.specs.LastPlace.{Own, own?, Calm, step_own_lem, step_less, strip, run_less}
use Rattle.order.specs.Insertion.{stays}
use Rattle.order.specs.RealTime.{End, running, ended, Hist, NotBefore, end_of, InTime, Timely, Pairs, strip_mem}

pub never_early : (d : End) → NotBefore 0 d
never_early running = tt
never_early (ended s) = omega arith

-- what the store and the table say of the walker whose scan it is: its ticket, the bucket and the epoch that it saw, and what lies ahead of it
pub record Walker (K : Keys) : Type 1 where
  pub call : ℕ
  pub floor : ℕ
  pub epoch : ℕ
  pub Ahead : Element K → Type 0

pub running_ended : (t : ℕ) → running ≡ ended t → ⊥
running_ended t h = let z : ◌≡◌ {A = ℕ} 0 1 = cc in omega arith

module _ {K : Keys} where
  -- L and M have the same entries in the same order, scans apart
  pub data Alike : Order K → Order K → Type 0 where
    nil : Alike [] []
    both : {e : Entry K} {L M : Order K} → Alike L M → Alike (e ∷ L) (e ∷ M)
    left : {w : ℕ} {L M : Order K} → Alike L M → Alike (scan w ∷ L) M
    right : {w : ℕ} {L M : Order K} → Alike L M → Alike L (scan w ∷ M)

  pub alike_refl : (L : Order K) → Alike L L
  alike_refl [] = nil
  alike_refl (e ∷ L) = both (alike_refl L)

  pub alike_run : {L M : Order K} (S : Q K) → Alike L M → run S L ≡ run S M
  alike_run S nil = refl
  alike_run S (both {e = e} a) = alike_run (step S e) a
  alike_run S (left a) = alike_run S a
  alike_run S (right a) = alike_run S a

  pub alike_walk : (P : Q K → Entry K → Type 0) → ((S : Q K) (w : ℕ) → P S (scan w)) → {L M : Order K} (S : Q K) → Alike L M → Walk P S L → Walk P S M
  alike_walk P t S nil h = h
  alike_walk P t S (both {e = e} a) h = (h.0, alike_walk P t (step S e) a h.1)
  alike_walk P t S (left a) h = alike_walk P t S a h.1
  alike_walk P t S (right {w = w} a) h = (t S w, alike_walk P t S a h)

  -- an entry of M is one of L, or a scan
  pub alike_mem : {L M : Order K} → Alike L M → (f : Entry K) → Mem f M → Mem f L ⊎ ((w : ℕ) × (f ≡ scan w))
  alike_mem nil f m = inl m
  alike_mem (both a) f (here g) = inl (here g)
  alike_mem (both {e = e} {L = L} a) f (there m) = go (alike_mem a f m)
    where
      go : Mem f L ⊎ ((w : ℕ) × (f ≡ scan w)) → Mem f (e ∷ L) ⊎ ((w : ℕ) × (f ≡ scan w))
      go (inl k) = inl (there k)
      go (inr g) = inr g
  alike_mem (left {w = v} {L = L} a) f m = go (alike_mem a f m)
    where
      go : Mem f L ⊎ ((w : ℕ) × (f ≡ scan w)) → Mem f (scan v ∷ L) ⊎ ((w : ℕ) × (f ≡ scan w))
      go (inl k) = inl (there k)
      go (inr g) = inr g
  alike_mem (right {w = v} a) f (here g) = inr (v, g)
  alike_mem (right {w = v} a) f (there m) = alike_mem a f m

  -- so a fact of every entry that every scan has is kept
  pub alike_each : (P : Entry K → Type 0) → ((w : ℕ) → P (scan w)) → {L M : Order K} → Alike L M → ((f : Entry K) → Mem f L → P f) → (f : Entry K) → Mem f M
      → P f
  alike_each P t {L} a h f m = go (alike_mem a f m)
    where
      go : Mem f L ⊎ ((w : ℕ) × (f ≡ scan w)) → P f
      go (inl k) = h f k
      go (inr (w, g)) = subst P (sym g) (t w)

  pub alike_sym : {L M : Order K} → Alike L M → Alike M L
  alike_sym nil = nil
  alike_sym (both a) = both (alike_sym a)
  alike_sym (left a) = right (alike_sym a)
  alike_sym (right a) = left (alike_sym a)

  pub alike_append : {A B C D : Order K} → Alike A B → Alike C D → Alike (A ++ C) (B ++ D)
  alike_append nil c = c
  alike_append (both a) c = both (alike_append a c)
  alike_append (left a) c = left (alike_append a c)
  alike_append (right a) c = right (alike_append a c)

  -- ── scans before the place: those with x in the queue are taken out (staying) and set behind the dequeue (moving) ──
  abbrev pub Sees : Q K → Element K → Entry K → Type 0
  Sees S x (enqueue p) = ⊥
  Sees S x (dequeue z c) = ⊥
  Sees S x (empty c) = ⊥
  Sees S x (scan w) = Mem x S

  abbrev pub sees? : (S : Q K) (x : Element K) (e : Entry K) → Dec (Sees S x e)
  sees? S x (enqueue p) = no (λ h. h)
  sees? S x (dequeue z c) = no (λ h. h)
  sees? S x (empty c) = no (λ h. h)
  sees? S x (scan w) = mem? S x

  abbrev pub staying : Q K → Element K → Order K → Order K
  staying S x [] = []
  staying S x (e ∷ A) = keep (sees? S x e) e (staying (step S e) x A)

  abbrev pub only : {P : Type 0} → Dec P → Entry K → Order K → Order K
  only (yes h) e l = e ∷ l
  only (no n) e l = l

  abbrev pub moving : Q K → Element K → Order K → Order K
  moving S x [] = []
  moving S x (e ∷ A) = only (sees? S x e) e (moving (step S e) x A)

  pub alike_staying : (S : Q K) (x : Element K) (A : Order K) → Alike A (staying S x A)
  alike_staying S x [] = nil
  alike_staying S x (enqueue p ∷ A) = both (alike_staying (p ∷ S) x A)
  alike_staying S x (dequeue z c ∷ A) = both (alike_staying (without S z) x A)
  alike_staying S x (empty c ∷ A) = both (alike_staying S x A)
  alike_staying S x (scan w ∷ A) = go (mem? S x) (alike_staying S x A)
    where
      go : (d : Dec (Mem x S)) → Alike A (staying S x A) → Alike (scan w ∷ A) (keep d (scan w) (staying S x A))
      go (no n) ih = both ih
      go (yes h) ih = left ih

  pub alike_moving : (S : Q K) (x : Element K) (A C : Order K) → Alike C (moving S x A ++ C)
  alike_moving S x [] C = alike_refl C
  alike_moving S x (enqueue p ∷ A) C = alike_moving (p ∷ S) x A C
  alike_moving S x (dequeue z c ∷ A) C = alike_moving (without S z) x A C
  alike_moving S x (empty c ∷ A) C = alike_moving S x A C
  alike_moving S x (scan w ∷ A) C = go (mem? S x) (alike_moving S x A C)
    where
      go : (d : Dec (Mem x S)) → Alike C (moving S x A ++ C) → Alike C (only d (scan w) (moving S x A) ++ C)
      go (no n) ih = ih
      go (yes h) ih = right ih

  abbrev pub unscan : Order K → ℕ → Order K
  unscan [] w = []
  unscan (enqueue p ∷ L) w = enqueue p ∷ unscan L w
  unscan (dequeue z c ∷ L) w = dequeue z c ∷ unscan L w
  unscan (empty c ∷ L) w = empty c ∷ unscan L w
  unscan (scan v ∷ L) w = keep (ℕ_discrete v w) (scan v) (unscan L w)

  pub alike_unscan : (L : Order K) (w : ℕ) → Alike L (unscan L w)
  alike_unscan [] w = nil
  alike_unscan (enqueue p ∷ L) w = both (alike_unscan L w)
  alike_unscan (dequeue z c ∷ L) w = both (alike_unscan L w)
  alike_unscan (empty c ∷ L) w = both (alike_unscan L w)
  alike_unscan (scan v ∷ L) w = go (ℕ_discrete v w) (alike_unscan L w)
    where
      go : (d : Dec (v ≡ w)) → Alike L (unscan L w) → Alike (scan v ∷ L) (keep d (scan v) (unscan L w))
      go (yes e) ih = left ih
      go (no n) ih = both ih

-- so a fact of every two entries that scans have is kept
pub alike_pairs : {K : Keys} (R : Entry K → Entry K → Type 0) → ((w : ℕ) (f : Entry K) → R (scan w) f) → ((e : Entry K) (w : ℕ) → R e (scan w))
    → {L M : Order K} → Alike L M → Pairs R L → Pairs R M
alike_pairs R s t nil h = h
alike_pairs R s t (both {e = e} a) h = (alike_each (R e) (t e) a h.0, alike_pairs R s t a h.1)
alike_pairs R s t (left a) h = alike_pairs R s t a h.1
alike_pairs R s t (right {w = w} a) h = (λ f m. s w f, alike_pairs R s t a h)

module _ {K : Keys} (H : Hist) where
  pub alike_timely : {L M : Order K} → Alike L M → Timely H L → Timely H M
  alike_timely a t = alike_pairs (InTime H) (λ w f. never_early (end_of H f)) (λ e w. tt) a t

  -- ── SCAN ──
  -- what is known at its scan, with S the queue there and D what stands behind
  pub record Sight (W : Walker K) (S : Q K) (D : Order K) : Type 0 where
    pub kept : (q : Element K) → Mem q S → Mem q (run S D)
    pub above : (q : Element K) → Mem q S → W.floor ≤ bucket q
    pub ahead : (q : Element K) → Mem q S → bucket q ≡ W.floor → W.Ahead q
    pub young : (f : Entry K) → Mem f D → NotBefore W.call (end_of H f)
    pub fresh : (q : Element K) (s : ℕ) → Mem (enqueue q) D → H.end (ticket q) ≡ ended s → bucket q ≤ W.floor → W.epoch < H.late (ticket q)

  abbrev pub At : (ℕ → Walker K) → Q K → Order K → Entry K → Type 0
  At W S D (enqueue p) = Unit {0}
  At W S D (dequeue z c) = Unit {0}
  At W S D (empty c) = Unit {0}
  At W S D (scan w) = Sight (W w) S D

  abbrev pub Marks : (ℕ → Walker K) → Q K → Order K → Type 0
  Marks W S [] = Unit {0}
  Marks W S (e ∷ L) = At W S L e × Marks W (step S e) L

  pub marks_right : (W : ℕ → Walker K) (S : Q K) (A B : Order K) → Marks W S (A ++ B) → Marks W (run S A) B
  marks_right W S [] B h = h
  marks_right W S (e ∷ A) B h = marks_right W (step S e) A B h.1

  pub marks_find : (W : ℕ → Walker K) (S : Q K) (L : Order K) (w : ℕ) → Marks W S L → Mem (scan w) L
      → (A : Order K) × (D : Order K) × (A ++ scan w ∷ D ≡ L) × Sight (W w) (run S A) D
  marks_find W S [] w h m = elim m [ ]
  marks_find W S (e ∷ L) w h (here g) = ([], L, ap (◌∷ L) g, subst (λ f. At W S L f) (sym g) h.0)
  marks_find W S (e ∷ L) w h (there m) =
      let (A, D, g, s) = marks_find W (step S e) L w h.1 m in
      (e ∷ A, D, ap (e ∷◌) g, s)

  -- f is in D, or new and open
  abbrev pub From : Order K → Entry K → Type 0
  From D f = Mem f D ⊎ (end_of H f ≡ running)

  -- a scan that stays, where the queue may have lost x
  pub sight_lost : (W : Walker K) (x : Element K) (S T : Q K) (D E : Order K) → Sight W S D → ((q : Element K) → Mem q T → Mem q S × ¬ (q ≡ x))
      → run T E ≡ without (run S D) x → ((f : Entry K) → Mem f E → From D f) → Sight W T E
  sight_lost W x S T D E s i g o = record {
    kept = λ q m. rw g (mem_without (run S D) x (i q m).1 (s.kept q (i q m).0));
    above = λ q m. s.above q (i q m).0;
    ahead = λ q m. s.ahead q (i q m).0;
    young = λ f m. young f (o f m);
    fresh = λ q t m. fresh q t (o (enqueue q) m);
  }
    where
      young : (f : Entry K) → From D f → NotBefore W.call (end_of H f)
      young f (inl m) = s.young f m
      young f (inr h) = rw h tt

      fresh : (q : Element K) (t : ℕ) → From D (enqueue q) → H.end (ticket q) ≡ ended t → bucket q ≤ W.floor → W.epoch < H.late (ticket q)
      fresh q t (inl m) e = s.fresh q t m e
      fresh q t (inr h) e = absurd (running_ended t (sym h ∙ e))

  -- scans behind the place
  pub marks_back : (W : ℕ → Walker K) (S : Q K) (x : Element K) (B : Order K) → Marks W S B → Marks W (without S x) (strip B x)
  marks_back W S x [] h = tt
  marks_back W S x (e ∷ B) h = go (own? e x) (marks_back W (step S e) x B h.1)
    where
      at : (f : Entry K) → At W S B f → At W (without S x) (strip B x) f
      at (enqueue p) s = tt
      at (dequeue z c) s = tt
      at (empty c) s = tt
      at (scan w) s = sight_lost (W w) x S (without S x) B (strip B x) s (λ q m. without_mem S x m) (run_less S x B) (λ f m. inl (strip_mem B x f m))

      go : (d : Dec (Own e x)) → Marks W (without (step S e) x) (strip B x) → Marks W (without S x) (keep d e (strip B x))
      go (yes o) ih = rw (step_own_lem S x e o) at ih
      go (no n) ih = (at e h.0, rw (step_less S x e n) at ih)

  pub scan_from : {D : Order K} {f : Entry K} → Mem f D ⊎ ((w : ℕ) × (f ≡ scan w)) → From D f
  scan_from (inl m) = inl m
  scan_from (inr (w, g)) = inr (ap (end_of H) g)

  pub from_append : (A B N : Order K) → ((f : Entry K) → Mem f N → From B f) → (f : Entry K) → Mem f (A ++ N) → From (A ++ B) f
  from_append A B N o f m = go (mem-append A m)
    where
      up : From B f → From (A ++ B) f
      up (inl k) = inl (mem-right A k)
      up (inr e) = inr e

      go : Mem f A ⊎ Mem f N → From (A ++ B) f
      go (inl k) = inl (mem-left B k)
      go (inr k) = up (o f k)

  -- those that stay, over any N that stands for B
  pub marks_staying : (W : ℕ → Walker K) (S : Q K) (x : Element K) (A B N : Order K) → run (run S A) N ≡ without (run (run S A) B) x
      → ((f : Entry K) → Mem f N → From B f) → Marks W S (A ++ B) → Marks W (run S A) N → Marks W S (staying S x A ++ N)
  marks_staying W S x [] B N g o h n = n
  marks_staying W S x (enqueue p ∷ A) B N g o h n = (tt, marks_staying W (p ∷ S) x A B N g o h.1 n)
  marks_staying W S x (dequeue z c ∷ A) B N g o h n = (tt, marks_staying W (without S z) x A B N g o h.1 n)
  marks_staying W S x (empty c ∷ A) B N g o h n = (tt, marks_staying W S x A B N g o h.1 n)
  marks_staying W S x (scan w ∷ A) B N g o h n = go (mem? S x) (marks_staying W S x A B N g o h.1 n)
    where
      there_too : Alike (A ++ N) (staying S x A ++ N)
      there_too = alike_append (alike_staying S x A) (alike_refl N)

      same_run : run S (staying S x A ++ N) ≡ without (run S (A ++ B)) x
      same_run = sym (alike_run S there_too) ∙ run_append S A N ∙ g ∙ ap (λ T. without T x) (sym (run_append S A B))

      from : (f : Entry K) → Mem f (staying S x A ++ N) → From (A ++ B) f
      from = alike_each (From (A ++ B)) (λ v. inr refl) there_too (from_append A B N o)

      go : (d : Dec (Mem x S)) → Marks W S (staying S x A ++ N) → Marks W S (keep d (scan w) (staying S x A) ++ N)
      go (yes l) ih = ih
      go (no l) ih = (sight_lost (W w) x S S (A ++ B) (staying S x A ++ N) h.0 (λ q m. (m, λ e. l (subst (λ t. Mem t S) e m))) same_run from, ih)

  -- those that move, over any C that keeps what was seen: U is the queue behind the dequeue
  pub marks_moving : (W : ℕ → Walker K) (S : Q K) (x : Element K) (A B : Order K) (U : Q K) (C : Order K) → ((v : ℕ) (T : Q K) (D E : Order K) → Sight (W v) T D
      → Mem x T → ((f : Entry K) → Mem f B → Mem f D) → Alike C E → Sight (W v) U E) → Marks W S (A ++ B) → Marks W U C → Marks W U (moving S x A ++ C)
  marks_moving W S x [] B U C k h n = n
  marks_moving W S x (enqueue p ∷ A) B U C k h n = marks_moving W (p ∷ S) x A B U C k h.1 n
  marks_moving W S x (dequeue z c ∷ A) B U C k h n = marks_moving W (without S z) x A B U C k h.1 n
  marks_moving W S x (empty c ∷ A) B U C k h n = marks_moving W S x A B U C k h.1 n
  marks_moving W S x (scan w ∷ A) B U C k h n = go (mem? S x) (marks_moving W S x A B U C k h.1 n)
    where
      go : (d : Dec (Mem x S)) → Marks W U (moving S x A ++ C) → Marks W U (only d (scan w) (moving S x A) ++ C)
      go (no l) ih = ih
      go (yes l) ih = (k w S (A ++ B) (moving S x A ++ C) h.0 l (λ f m. mem-right A m) (alike_moving S x A C), ih)

  -- a scan that moves behind the dequeue of x
  pub sight_moved : (W : Walker K) (x : Element K) (S T : Q K) (D B E : Order K) → Sight W S D → Mem x S → ((f : Entry K) → Mem f B → Mem f D)
      → ¬ Below T x → ((e : Entry K) → Mem e B → Calm e x) → Alike (strip B x) E
      → ((q : Element K) → Mem q (run T B) → W.Ahead x → x ≺ q → bucket q ≡ bucket x → W.Ahead q)
      → ((q : Element K) → Mem q (run T B) → ¬ (q ≡ x) → ¬ (q ≺ x) → x ≺ q)
      → Sight W (without T x) E
  sight_moved W x S T D B E s xm i n c a u total = record {
    kept = λ q m. kept q (without_mem T x m);
    above = λ q m. above q (without_mem T x m);
    ahead = λ q m. ahead q (without_mem T x m);
    young = λ f m. young f (scan_from (alike_mem a f m));
    fresh = λ q t m. fresh q t (scan_from (alike_mem a (enqueue q) m));
  }
    where
      over : (q : Element K) → Mem q T × ¬ (q ≡ x) → x ≺ q
      over q (m, e) = total q (stays T x B q c (λ h. n (q, m, h)) m) e (λ h. n (q, m, h))

      low : W.floor ≤ bucket x
      low = s.above x xm

      kept : (q : Element K) → Mem q T × ¬ (q ≡ x) → Mem q (run (without T x) E)
      kept q (m, e) = rw (← alike_run (without T x) a, run_less) (mem_without (run T B) x e (stays T x B q c (λ h. n (q, m, h)) m))

      above : (q : Element K) → Mem q T × ¬ (q ≡ x) → W.floor ≤ bucket q
      above q h = omega (arith, low, bucket_up x q (over q h))

      ahead : (q : Element K) → Mem q T × ¬ (q ≡ x) → bucket q ≡ W.floor → W.Ahead q
      ahead q h e =
          let f : bucket x ≡ W.floor = omega (arith, low, bucket_up x q (over q h)) in
          u q (stays T x B q c (λ g. n (q, h.0, g)) h.0) (s.ahead x xm f) (over q h) (e ∙ sym f)

      young : (f : Entry K) → From (strip B x) f → NotBefore W.call (end_of H f)
      young f (inl m) = s.young f (i f (strip_mem B x f m))
      young f (inr h) = rw h tt

      fresh : (q : Element K) (t : ℕ) → From (strip B x) (enqueue q) → H.end (ticket q) ≡ ended t → bucket q ≤ W.floor → W.epoch < H.late (ticket q)
      fresh q t (inl m) e = s.fresh q t (i (enqueue q) (strip_mem B x (enqueue q) m)) e
      fresh q t (inr h) e = absurd (running_ended t (sym h ∙ e))

  -- ── a scan taken out ──
  pub sight_alike : (W : Walker K) (S : Q K) (D E : Order K) → Alike D E → Sight W S D → Sight W S E
  sight_alike W S D E a s = record {
    kept = λ q m. rw (← alike_run S a) (s.kept q m);
    above = s.above;
    ahead = s.ahead;
    young = alike_each (λ f. NotBefore W.call (end_of H f)) (λ w. tt) a s.young;
    fresh = λ q t m. fresh q t (scan_from (alike_mem a (enqueue q) m));
  }
    where
      fresh : (q : Element K) (t : ℕ) → From D (enqueue q) → H.end (ticket q) ≡ ended t → bucket q ≤ W.floor → W.epoch < H.late (ticket q)
      fresh q t (inl m) e = s.fresh q t m e
      fresh q t (inr h) e = absurd (running_ended t (sym h ∙ e))

  pub marks_unscan : (W : ℕ → Walker K) (S : Q K) (L : Order K) (w : ℕ) → Marks W S L → Marks W S (unscan L w)
  marks_unscan W S [] w h = tt
  marks_unscan W S (enqueue p ∷ L) w h = (tt, marks_unscan W (p ∷ S) L w h.1)
  marks_unscan W S (dequeue z c ∷ L) w h = (tt, marks_unscan W (without S z) L w h.1)
  marks_unscan W S (empty c ∷ L) w h = (tt, marks_unscan W S L w h.1)
  marks_unscan W S (scan v ∷ L) w h = go (ℕ_discrete v w) (marks_unscan W S L w h.1)
    where
      go : (d : Dec (v ≡ w)) → Marks W S (unscan L w) → Marks W S (keep d (scan v) (unscan L w))
      go (yes e) ih = ih
      go (no n) ih = (sight_alike (W v) S L (unscan L w) (alike_unscan L w) h.0, ih)
