-- REAL TIME and AGE of an order, and what inserting a dequeue at the last place keeps of them.
--     End, Hist, NotBefore, Settled                                              when calls ended, and who before whom
--     settled_open, not_before_settled, ticket_of_lem, end_of                        of ends and of entries
--     strip_mem                                                                  who is left without the enqueue of x
--     Pairs, pairs_right, pairs_cross, pairs_insert, pairs_strip, pairs_snoc     a relation of each entry to those behind it
--     InTime, Timely                                                             REAL TIME
--     Elder, AgeAt, Aged, Done                                                   AGE; every enqueue in the queue is over
--     aged_less, done_at_place, after_ticket, elder_behind                       what stands behind the place
--     aged_a, aged_b, timely_a, timely_b                                         both after a dequeue goes in, and with its enqueue
-- Assumes nothing.
use Rattle.std.specs.Prelude.{◌≡◌, refl, ◌⊎◌, ℕ, ◌≤◌}
use Rattle.std.proofs.Common.{sym, ◌∙◌, ap, subst, inl, inr, arith}
use mathlib.Core.List.Memᴰ.{cases_cons as mem-cons}
use mathlib.Core.List.Memᴰ.{head as here}
use mathlib.Core.List.Memᴰ.{tail as there}
use mathlib.Core.List.{[], ◌∷◌, ◌++◌, Memᴰ as Mem}
use mathlib.Core.List.Memᴰ.{append_cases as mem-append}
use mathlib.Core.List.Memᴰ.{append_left as mem-left}
use mathlib.Core.List.Memᴰ.{append_right as mem-right}
use Rattle.order.specs.Entries.{Keys, Element, Entry, enqueue, dequeue, empty, scan, Q, Order, keep, ◌≺◌, ticket, without, without_yes, without_mem}
use Rattle.order.specs.Entries.{Below, step, run, Walk, Ok, Legal, Busy, run_append, walk_append, walk_left, walk_right}
use Rattle.order.specs.LastPlace.{Place, Own, own?, Calm, step_own_lem, step_less, strip}
use Rattle.order.specs.Insertion.{calm_all, stays_step, with_dequeue, with_enqueue}

-- when a call ended: it is running, or it was answered when `started` was s
pub data End : Type 0 where
  running : End
  ended : ℕ → End

-- the ends of the calls by their tickets, and of each enqueue that ended the epoch just after
pub record Hist : Type 0 where
  pub end : ℕ → End
  pub late : ℕ → ℕ

-- not over before the call n started
abbrev pub NotBefore : ℕ → End → Type 0
NotBefore n running = Unit {0}
NotBefore n (ended s) = n ≤ s

-- the first is over, and the second not earlier than it
abbrev pub Settled : End → End → Type 0
Settled running d = ⊥
Settled (ended s) running = Unit {0}
Settled (ended s) (ended t) = s ≤ t

pub settled_open : (a b : End) → Settled a b → Settled a running
settled_open running b h = h
settled_open (ended s) b h = tt

pub not_before_settled : (n : ℕ) (a b : End) → NotBefore n a → Settled a b → NotBefore n b
not_before_settled n running b h g = absurd g
not_before_settled n (ended s) running h g = tt
not_before_settled n (ended s) (ended t) h g = omega arith

abbrev pub ticket_of_lem : {K : Keys} → Entry K → ℕ
ticket_of_lem (enqueue x) = ticket x
ticket_of_lem (dequeue z c) = c
ticket_of_lem (empty c) = c
ticket_of_lem (scan w) = 0

abbrev pub end_of : {K : Keys} → Hist → Entry K → End
end_of H (enqueue x) = H.end (ticket x)
end_of H (dequeue z c) = H.end c
end_of H (empty c) = H.end c
end_of H (scan w) = running

pub strip_mem : {K : Keys} (B : Order K) (x : Element K) (f : Entry K) → Mem f (strip B x) → Mem f B
strip_mem [] x f m = m
strip_mem (e ∷ B) x f m = go (own? e x) m (λ k. strip_mem B x f k)
  where
    go : (d : Dec (Own e x)) → Mem f (keep d e (strip B x)) → (Mem f (strip B x) → Mem f B) → Mem f (e ∷ B)
    go (yes o) k ih = there (ih k)
    go (no n) (here h) ih = here h
    go (no n) (there k) ih = there (ih k)

-- ── facts of every two entries, the first standing before the second ──
module _ {K : Keys} (R : Entry K → Entry K → Type 0) where
  abbrev pub Pairs : Order K → Type 0
  Pairs [] = Unit {0}
  Pairs (e ∷ L) = ((f : Entry K) → Mem f L → R e f) × Pairs L

  pub pairs_right : (A B : Order K) → Pairs (A ++ B) → Pairs B
  pairs_right [] B t = t
  pairs_right (a ∷ A) B t = pairs_right A B t.1

  pub pairs_cross : (A B : Order K) (f g : Entry K) → Pairs (A ++ B) → Mem f A → Mem g B → R f g
  pairs_cross [] B f g t m k = elim m [ ]
  pairs_cross (a ∷ A) B f g t (here h) k = rw h (t.0 g (mem-right A k))
  pairs_cross (a ∷ A) B f g t (there m) k = pairs_cross A B f g t.1 m k

  -- one entry more, and B thinned out
  pub pairs_insert : (A B C : Order K) (e : Entry K) → ((f : Entry K) → Mem f C → Mem f B) → Pairs C → ((f : Entry K) → Mem f A → R f e)
      → ((f : Entry K) → Mem f B → R e f) → Pairs (A ++ B) → Pairs (A ++ e ∷ C)
  pairs_insert [] B C e s tC a b t = (λ f m. b f (s f m), tC)
  pairs_insert (h ∷ A) B C e s tC a b t = (λ f m. pick f (mem-append A m), pairs_insert A B C e s tC (λ f m. a f (there m)) b t.1)
    where
      pick : (f : Entry K) → Mem f A ⊎ Mem f (e ∷ C) → R h f
      pick f (inl k) = t.0 f (mem-left B k)
      pick f (inr (here g)) = rw g (a h (here refl))
      pick f (inr (there k)) = t.0 f (mem-right A (s f k))

  pub pairs_strip : (B : Order K) (x : Element K) → Pairs B → Pairs (strip B x)
  pairs_strip [] x t = tt
  pairs_strip (e ∷ B) x t = go (own? e x) (pairs_strip B x t.1)
    where
      go : (d : Dec (Own e x)) → Pairs (strip B x) → Pairs (keep d e (strip B x))
      go (yes o) ih = ih
      go (no n) ih = (λ f m. t.0 f (strip_mem B x f m), ih)

  pub pairs_snoc : (L : Order K) (e : Entry K) → ((f : Entry K) → Mem f L → R f e) → Pairs L → Pairs (L ++ e ∷ [])
  pairs_snoc [] e b t = (λ f m. elim m [ ], tt)
  pairs_snoc (a ∷ L) e b t = (λ f m. go f (mem-append L m), pairs_snoc L e (λ f m. b f (there m)) t.1)
    where
      go : (f : Entry K) → Mem f L ⊎ Mem f (e ∷ []) → R a f
      go f (inl m) = t.0 f m
      go f (inr (here g)) = rw g (b a (here refl))
      go f (inr (there m)) = elim m [ ]

module _ {K : Keys} (H : Hist) where
  -- ── REAL TIME ──
  abbrev pub InTime : Entry K → Entry K → Type 0
  InTime e f = NotBefore (ticket_of_lem e) (end_of H f)

  abbrev pub Timely : Order K → Type 0
  Timely = Pairs InTime

  -- ── AGE ──
  -- e is q's own enqueue, or q's enqueue is over and e not earlier
  abbrev pub Elder : Element K → Entry K → Type 0
  Elder q (enqueue p) = (q ≡ p) ⊎ Settled (H.end (ticket q)) (H.end (ticket p))
  Elder q (dequeue z c) = Settled (H.end (ticket q)) (H.end c)
  Elder q (empty c) = Settled (H.end (ticket q)) (H.end c)
  Elder q (scan w) = Unit {0}

  abbrev pub AgeAt : Q K → Entry K → Type 0
  AgeAt S e = (q : Element K) → Mem q (step S e) → Elder q e

  abbrev pub Aged : Q K → Order K → Type 0
  Aged = Walk AgeAt

  -- every enqueue in the queue is over
  abbrev pub Done : Q K → Type 0
  Done S = (q : Element K) → Mem q S → Settled (H.end (ticket q)) running

  pub aged_less : (S : Q K) (x : Element K) (B : Order K) → Aged S B → Aged (without S x) (strip B x)
  aged_less S x [] a = tt
  aged_less S x (e ∷ B) a = go (own? e x) (aged_less (step S e) x B a.1)
    where
      go : (d : Dec (Own e x)) → Aged (without (step S e) x) (strip B x) → Aged (without S x) (keep d e (strip B x))
      go (yes o) ih = rw (step_own_lem S x e o) at ih
      go (no n) ih = (λ q m. a.0 q (without_mem (step S e) x (rw (sym (step_less S x e n)) at m)).0, rw (step_less S x e n) at ih)

  -- every enqueue in the queue at the place is over
  pub done_at_place : (S : Q K) (x : Element K) (B : Order K) → ¬ Below S x → Busy S x B → Aged S B → Done (run S B) → Done S
  done_at_place S x [] n b a d q m = d q m
  done_at_place S x (enqueue p ∷ B) n b a d q m = go b.0 (a.0 q (there m))
    where
      go : Below (p ∷ S) x → (q ≡ p) ⊎ Settled (H.end (ticket q)) (H.end (ticket p)) → Settled (H.end (ticket q)) running
      go (r, here g, h) (inl e) = absurd (n (q, m, rw (e ∙ sym g) h))
      go (r, there k, h) (inl e) = absurd (n (r, k, h))
      go _ (inr s) = settled_open (H.end (ticket q)) (H.end (ticket p)) s
  done_at_place S x (dequeue z c ∷ B) n b a d q m = absurd (n (b.0.0, (without_mem S z b.0.1).0, b.0.2))
  done_at_place S x (empty c ∷ B) n b a d q m = absurd (n b.0)
  done_at_place S x (scan w ∷ B) n b a d q m = absurd (n b.0)

  -- ── behind the place nothing was over before x's call began, given that of the enqueues there that are below x ──
  pub after_ticket : (S : Q K) (x : Element K) (n : ℕ) (B : Order K)
      → ((q : Element K) → Mem q S → q ≺ x → NotBefore n (H.end (ticket q)))
      → ((q : Element K) → Mem (enqueue q) B → q ≺ x → NotBefore n (H.end (ticket q)))
      → Busy S x B → Aged S B → (e : Entry K) → Mem e B → NotBefore n (end_of H e)
  after_ticket S x n [] i h w a e m = elim m [ ]
  after_ticket S x n (b ∷ B) i h w a e m = go (mem-cons m) (λ k. after_ticket (step S b) x n B i' (λ q k. h q (there k)) w.1 a.1 e k)
    where
      i_step : (f : Entry K) → ((q : Element K) → enqueue q ≡ f → q ≺ x → NotBefore n (H.end (ticket q))) → (q : Element K) → Mem q (step S f) → q ≺ x
          → NotBefore n (H.end (ticket q))
      i_step (enqueue p) k q (here g) l = k q (ap enqueue g) l
      i_step (enqueue p) k q (there m) l = i q m l
      i_step (dequeue z c) k q m l = i q (without_mem S z m).0 l
      i_step (empty c) k q m l = i q m l
      i_step (scan w) k q m l = i q m l

      i' : (q : Element K) → Mem q (step S b) → q ≺ x → NotBefore n (H.end (ticket q))
      i' = i_step b (λ q g. h q (here g))

      one : (f : Entry K) (q : Element K) → NotBefore n (H.end (ticket q)) → Elder q f → NotBefore n (end_of H f)
      one (enqueue p) q u (inl g) = rw g at u
      one (enqueue p) q u (inr s) = not_before_settled n (H.end (ticket q)) (H.end (ticket p)) u s
      one (dequeue z c) q u s = not_before_settled n (H.end (ticket q)) (H.end c) u s
      one (empty c) q u s = not_before_settled n (H.end (ticket q)) (H.end c) u s
      one (scan w) q u s = tt

      go : (e ≡ b) ⊎ Mem e B → (Mem e B → NotBefore n (end_of H e)) → NotBefore n (end_of H e)
      go (inl g) ih = let (q, k, l) = w.0 in rw g (one b q (i' q k l) (a.0 q k))
      go (inr k) ih = ih k

  -- what is not below x and in the queue at the place is elder than an enqueue behind the place
  pub elder_behind : (S : Q K) (x : Element K) (B : Order K) (q r : Element K) → ((e : Entry K) → Mem e B → Calm e x) → ¬ (q ≺ x) → Aged S B → Mem q S
      → Mem (enqueue r) B → Elder q (enqueue r)
  elder_behind S x [] q r c n a m k = elim k [ ]
  elder_behind S x (b ∷ B) q r c n a m k = go (mem-cons k) (λ j. elder_behind (step S b) x B q r (λ e i. c e (there i)) n a.1 m' j)
    where
      m' : Mem q (step S b)
      m' = stays_step S x b q (c b (here refl)) n m

      go : (enqueue r ≡ b) ⊎ Mem (enqueue r) B → (Mem (enqueue r) B → Elder q (enqueue r)) → Elder q (enqueue r)
      go (inl g) ih = subst (λ f. Elder q f) (sym g) (a.0 q m')
      go (inr j) ih = ih j

  -- ── the insertions keep AGE and REAL TIME: c is running, and so is x's enqueue where it is new ──
  module _ (S : Q K) (x : Element K) (L : Order K) (p : Place S x L) (c : ℕ) (oc : H.end c ≡ running) where
    module _ (a : Aged S L) (d : Done (run S L)) where
      aged_back : Aged (run S p.front) p.back
      aged_back = walk_right AgeAt S p.front p.back (rw p.split a)

      aged_front : Aged S p.front
      aged_front = walk_left AgeAt S p.front p.back (rw p.split a)

      done : Done (run S p.front)
      done = done_at_place _ x p.back p.clear p.busy aged_back (rw (← run_append, p.split) d)

      at_dequeue : (q : Element K) → Mem q (without (run S p.front) x) → Settled (H.end (ticket q)) (H.end c)
      at_dequeue q m = rw oc (done q (without_mem _ x m).0)

      pub aged_a : Aged S (with_dequeue S x L p c)
      aged_a = walk_append AgeAt S p.front _ aged_front (at_dequeue, aged_less _ x p.back aged_back)

      pub aged_b : Legal S L → (H.end (ticket x) ≡ running) ⊎ Mem (enqueue x) p.back → Aged S (with_enqueue S x L p c)
      aged_b l o =
          walk_append AgeAt S p.front _ aged_front (at_enqueue, rw (without_yes x (run S p.front) x refl) (at_dequeue, aged_less _ x p.back aged_back))
        where
          calm_back : (e : Entry K) → Mem e p.back → Calm e x
          calm_back = calm_all _ x p.back p.busy (walk_right Ok S p.front p.back (rw p.split l))

          elder : (q : Element K) → Mem q (run S p.front) → (H.end (ticket x) ≡ running) ⊎ Mem (enqueue x) p.back → Elder q (enqueue x)
          elder q m (inl g) = inr (rw g (done q m))
          elder q m (inr k) = elder_behind _ x p.back q x calm_back (λ g. p.clear (q, m, g)) aged_back m k

          at_enqueue : (q : Element K) → Mem q (x ∷ run S p.front) → Elder q (enqueue x)
          at_enqueue q (here g) = inl g
          at_enqueue q (there m) = elder q m o

    module _ (t : Timely L) (u : (f : Entry K) → Mem f p.back → NotBefore c (end_of H f)) where
      whole : Timely (p.front ++ p.back)
      whole = rw p.split t

      thin : Timely (strip p.back x)
      thin = pairs_strip InTime p.back x (pairs_right InTime p.front p.back whole)

      pub timely_a : Timely (with_dequeue S x L p c)
      timely_a = pairs_insert InTime p.front p.back _ _ (strip_mem p.back x) thin (λ f m. rw oc tt) u whole

      pub timely_b : ((f : Entry K) → Mem f p.back → NotBefore (ticket x) (end_of H f)) → (H.end (ticket x) ≡ running) ⊎ Mem (enqueue x) p.back
          → Timely (with_enqueue S x L p c)
      timely_b v o = pairs_insert InTime p.front _ _ (enqueue x) (λ f m. m) (pairs_right InTime p.front _ timely_a) (λ f m. before f m o) behind timely_a
        where
          before : (f : Entry K) → Mem f p.front → (H.end (ticket x) ≡ running) ⊎ Mem (enqueue x) p.back → NotBefore (ticket_of_lem f) (H.end (ticket x))
          before f m (inl g) = rw g tt
          before f m (inr k) = pairs_cross InTime p.front p.back f (enqueue x) whole m k

          behind : (f : Entry K) → Mem f (dequeue x c ∷ strip p.back x) → NotBefore (ticket x) (end_of H f)
          behind f (here g) = rw (g, oc) tt
          behind f (there m) = v f (strip_mem p.back x f m)
