-- The plain queue as a list of elements, the entries of the order, and the walks through it.
--     Keys, Element, Entry, Q, Order                                   elements with their laws, entries, queues and orders
--     keep                                                             a list with one more element, or not
--     ◌≺◌, ticket, bucket, bucket_up, irrefl, trans                    the order of elements
--     same?, below?, at_most_below                                     it is decided; what is at most an element below x is below x
--     without, without_yes, without_no, without_comm                   a queue without an element
--     mem_without, without_mem                                         who is in it
--     Below, any_below?, mem?                                          something in the queue is below x, or x is in it: decided
--     step, run, Walk                                                  the queue past an entry, and past an order; a property at each entry
--     Ok, Legal, Busy                                                  what an entry may do; LEGAL; something is below x behind each entry
--     run_append, walk_append, walk_left, walk_right                   orders one behind the other
-- Assumes nothing.
use Rattle.std.specs.Prelude.{◌≡◌, refl, cond, ◌⊎◌, ℕ, ◌≤◌}
use Rattle.std.proofs.Common.{sym, ◌∙◌, ap, subst, inl, inr}
use mathlib.Core.List.Memᴰ.{cases_cons as mem-cons}
use mathlib.Core.List.Memᴰ.{head as here}
use mathlib.Core.List.Memᴰ.{tail as there}
use mathlib.Core.List.{List, [], ◌∷◌, ◌++◌, Memᴰ as Mem}
use Rattle.laws.specs.Tests.{is_yes, is_no, not_yes}
use Rattle.laws.specs.Lists.{sift, sift_in, in_sift}

-- elements with a strict weak order, total on different tickets, and a bucket that rises with it
pub record Keys : Type 1 where
  infix 50 ◌<ₖ◌
  pub X : Type 0
  pub ◌<ₖ◌ : X → X → Type 0
  pub irreflₖ : {x : X} → ¬ (x <ₖ x)
  pub transₖ : {x y z : X} → x <ₖ y → y <ₖ z → x <ₖ z
  pub weakₖ : {x z : X} (y : X) → x <ₖ z → (x <ₖ y) ⊎ (y <ₖ z)
  pub same?ₖ : (x y : X) → Dec (x ≡ y)
  pub below?ₖ : (x y : X) → Dec (x <ₖ y)
  pub ticketₖ : X → ℕ
  pub bucketₖ : X → ℕ
  pub bucket_upₖ : {x y : X} → x <ₖ y → bucketₖ x ≤ bucketₖ y

-- nominal, so that antt finds K from any element, entry or list of them
pub record Element (K : Keys) : Type 0 where
  pub it : K.X

-- no end data: those stand in a table by the call's ticket
pub data Entry (K : Keys) : Type 0 where
  enqueue : Element K → Entry K
  dequeue : Element K → ℕ → Entry K
  empty : ℕ → Entry K
  scan : ℕ → Entry K

abbrev pub Q : Keys → Type 0
Q K = List (Element K)

abbrev pub Order : Keys → Type 0
Order K = List (Entry K)

-- l, with a in front unless P
abbrev pub keep : {P : Type 0} {A : Type 0} → Dec P → A → List A → List A
keep d a l = cond (is_yes d) l (a ∷ l)

module _ {K : Keys} where
  infix 50 ◌≺◌
  abbrev pub ◌≺◌ : Element K → Element K → Type 0
  x ≺ y = K.◌<ₖ◌ x.it y.it

  abbrev pub ticket : Element K → ℕ
  ticket x = K.ticketₖ x.it

  abbrev pub bucket : Element K → ℕ
  bucket x = K.bucketₖ x.it

  pub bucket_up : (x y : Element K) → x ≺ y → bucket x ≤ bucket y
  bucket_up x y h = K.bucket_upₖ h

  pub irrefl : (x y : Element K) → x ≡ y → ¬ (x ≺ y)
  irrefl x y e h = K.irreflₖ (subst (λ z. z ≺ y) e h)

  pub trans : (x y z : Element K) → x ≺ y → y ≺ z → x ≺ z
  trans x y z g h = K.transₖ g h

  pub same? : (x y : Element K) → Dec (x ≡ y)
  same? x y = go (K.same?ₖ x.it y.it)
    where
      go : Dec (x.it ≡ y.it) → Dec (x ≡ y)
      go (yes e) = yes (λ i. record { it = e i })
      go (no n) = no (λ e. n (ap (λ (z : Element K). z.it) e))

  pub below? : (x y : Element K) → Dec (x ≺ y)
  below? x y = K.below?ₖ x.it y.it

  pub at_most_below : (q z x : Element K) → ¬ (q ≺ z) → q ≺ x → z ≺ x
  at_most_below q z x n h = go (K.weakₖ z.it h)
    where
      go : (q ≺ z) ⊎ (z ≺ x) → z ≺ x
      go (inl g) = absurd (n g)
      go (inr g) = g

  -- ── the queue ──
  abbrev pub without : Q K → Element K → Q K
  without S x = sift (λ p. is_yes (same? p x)) S

  pub without_yes : (p : Element K) (S : Q K) (x : Element K) → p ≡ x → without (p ∷ S) x ≡ without S x
  without_yes p S x e = go (same? p x)
    where
      go : (d : Dec (p ≡ x)) → keep d p (without S x) ≡ without S x
      go (yes h) = refl
      go (no n) = absurd (n e)

  pub without_no : (p : Element K) (S : Q K) (x : Element K) → ¬ (p ≡ x) → without (p ∷ S) x ≡ p ∷ without S x
  without_no p S x e = go (same? p x)
    where
      go : (d : Dec (p ≡ x)) → keep d p (without S x) ≡ p ∷ without S x
      go (yes h) = absurd (e h)
      go (no n) = refl

  pub without_comm : (S : Q K) (x y : Element K) → without (without S y) x ≡ without (without S x) y
  without_comm [] x y = refl
  without_comm (p ∷ S) x y = go (same? p x) (same? p y) (without_comm S x y)
    where
      go : (d : Dec (p ≡ x)) (e : Dec (p ≡ y)) → without (without S y) x ≡ without (without S x) y
          → without (keep e p (without S y)) x ≡ without (keep d p (without S x)) y
      go (yes a) (yes b) ih = ih
      go (yes a) (no m) ih = without_yes p (without S y) x a ∙ ih
      go (no n) (yes b) ih = ih ∙ sym (without_yes p (without S x) y b)
      go (no n) (no m) ih = without_no p (without S y) x n ∙ ap (p ∷◌) ih ∙ sym (without_no p (without S x) y m)

  pub mem_without : {q : Element K} (S : Q K) (x : Element K) → ¬ (q ≡ x) → Mem q S → Mem q (without S x)
  mem_without {q} S x n m = in_sift (λ p. is_yes (same? p x)) q S m (is_no (same? q x) n)

  pub without_mem : {q : Element K} (S : Q K) (x : Element K) → Mem q (without S x) → Mem q S × ¬ (q ≡ x)
  without_mem {q} S x m = let (i, e) = sift_in (λ p. is_yes (same? p x)) q S m in (i, not_yes (same? q x) e)

  -- something in the queue is below x
  abbrev pub Below : Q K → Element K → Type 0
  Below S x = (q : Element K) × Mem q S × (q ≺ x)

  pub any_below? : (S : Q K) (x : Element K) → Dec (Below S x)
  any_below? [] x = no λ b. elim b.1 [ ]
  any_below? (p ∷ S) x = go (below? p x) (any_below? S x)
    where
      go : Dec (p ≺ x) → Dec (Below S x) → Dec (Below (p ∷ S) x)
      go (yes h) d = yes (p, here refl, h)
      go (no n) (yes (q, m, h)) = yes (q, there m, h)
      go (no n) (no m) = no (λ b. pick b)
        where
          pick : Below (p ∷ S) x → ⊥
          pick (q, here e, h) = n (subst (λ t. t ≺ x) e h)
          pick (q, there k, h) = m (q, k, h)

  pub mem? : (S : Q K) (x : Element K) → Dec (Mem x S)
  mem? [] x = no λ m. elim m [ ]
  mem? (p ∷ S) x = go (same? x p) (mem? S x)
    where
      go : Dec (x ≡ p) → Dec (Mem x S) → Dec (Mem x (p ∷ S))
      go (yes e) d = yes (here e)
      go (no n) (yes m) = yes (there m)
      go (no n) (no k) = no (λ m. pick (mem-cons m))
        where
          pick : (x ≡ p) ⊎ Mem x S → ⊥
          pick (inl e) = n e
          pick (inr m) = k m

  -- ── the entries' steps, walks, LEGAL ──
  abbrev pub step : Q K → Entry K → Q K
  step S (enqueue p) = p ∷ S
  step S (dequeue z c) = without S z
  step S (empty c) = S
  step S (scan w) = S

  abbrev pub run : Q K → Order K → Q K
  run S [] = S
  run S (e ∷ L) = run (step S e) L

  -- P holds at each entry of L, of the queue just before it and the entry
  abbrev pub Walk : (Q K → Entry K → Type 0) → Q K → Order K → Type 0
  Walk P S [] = Unit {0}
  Walk P S (e ∷ L) = P S e × Walk P (step S e) L

  abbrev pub Ok : Q K → Entry K → Type 0
  Ok S (enqueue p) = Unit {0}
  Ok S (dequeue z c) = Mem z S × ¬ Below S z
  Ok S (empty c) = (q : Element K) → ¬ Mem q S
  Ok S (scan w) = Unit {0}

  abbrev pub Legal : Q K → Order K → Type 0
  Legal = Walk Ok

  -- something is below x just behind each entry of L
  abbrev pub Busy : Q K → Element K → Order K → Type 0
  Busy S x = Walk (λ T e. Below (step T e) x) S

  pub run_append : (S : Q K) (A B : Order K) → run S (A ++ B) ≡ run (run S A) B
  run_append S [] B = refl
  run_append S (e ∷ A) B = run_append (step S e) A B

  pub walk_append : (P : Q K → Entry K → Type 0) (S : Q K) (A B : Order K) → Walk P S A → Walk P (run S A) B → Walk P S (A ++ B)
  walk_append P S [] B a b = b
  walk_append P S (e ∷ A) B a b = (a.0, walk_append P (step S e) A B a.1 b)

  pub walk_left : (P : Q K → Entry K → Type 0) (S : Q K) (A B : Order K) → Walk P S (A ++ B) → Walk P S A
  walk_left P S [] B w = tt
  walk_left P S (e ∷ A) B w = (w.0, walk_left P (step S e) A B w.1)

  pub walk_right : (P : Q K → Entry K → Type 0) (S : Q K) (A B : Order K) → Walk P S (A ++ B) → Walk P (run S A) B
  walk_right P S [] B w = w
  walk_right P S (e ∷ A) B w = walk_right P (step S e) A B w.1
