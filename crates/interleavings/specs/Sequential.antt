-- The sequential queue, fed an order's calls, gives the order's answers.
--     asks, answers, items     an order as calls and as replies; a queue as items
--     Apart                    elements differ, and by their tickets
--     plain                    the queue, fed the calls, gives the replies
-- Assumes nothing.
use Rattle.std.specs.Prelude.{◌≡◌, refl, true, cond, ◌⊎◌, ◌≤◌, eqb}
use Rattle.std.proofs.Common.{sym, ◌∙◌, ap, subst, inl, inr, eq-eqb, ne_eqb}
use Rattle.std.proofs.Math.Option.{Option, none, some}
use mathlib.Core.List.Memᴰ.{head as here}
use mathlib.Core.List.Memᴰ.{tail as there}
use mathlib.Core.List.{List, [], ◌∷◌, Memᴰ as Mem}
use Rattle.arrival.specs.declared.Shape.{Shape}
use Rattle.arrival.specs.declared.Item.{Item}
use Rattle.arrival.specs.declared.Response.TheVariants.{Stored, Empty}
use Rattle.arrival.specs.Keys.{lower}
use Rattle.arrival.specs.Queue as queue
use Rattle.arrival.specs.Queue.{Call, Reply, lowest, remove, taken, replies}
use Rattle.arrival.proofs.QueueLaws.{lowest_none, lowest_in, lowest_least}
use Rattle.laws.specs.Tests.{never}
use Rattle.order.specs.Entries.{Element, enqueue, dequeue, empty, scan, Q, Order, ◌≺◌, ticket, same?, keep, without, without_mem}
use Rattle.order.specs.Entries.{Below, Legal}
use Rattle.interleavings.specs.ItemKeys.{keys}

module _ (sh : Shape) (wd : 1 ≤ sh.width) where
  -- the order as calls, as tickets and as replies; scans are none
  abbrev pub asks : Order (keys sh wd) → List Call
  asks [] = []
  asks (enqueue x ∷ L) = queue.enqueue x.it ∷ asks L
  asks (dequeue z c ∷ L) = queue.dequeue ∷ asks L
  asks (empty c ∷ L) = queue.dequeue ∷ asks L
  asks (scan v ∷ L) = asks L

  abbrev pub answers : Order (keys sh wd) → List Reply
  answers [] = []
  answers (enqueue x ∷ L) = record { response = Stored (ticket x); ticket = 0 } ∷ answers L
  answers (dequeue z c ∷ L) = record { response = taken z.it; ticket = ticket z } ∷ answers L
  answers (empty c ∷ L) = record { response = Empty; ticket = 0 } ∷ answers L
  answers (scan v ∷ L) = answers L

  abbrev pub items : Q (keys sh wd) → queue.Items
  items [] = []
  items (p ∷ S) = p.it ∷ items S

  items_in : (S : Q (keys sh wd)) (x : Item) → Mem x (items S) → (p : Element (keys sh wd)) × Mem p S × (p.it ≡ x)
  items_in [] x m = elim m [ ]
  items_in (p ∷ S) x (here e) = (p, here refl, sym e)
  items_in (p ∷ S) x (there i) = let (q, j, e) = items_in S x i in (q, there j, e)

  in_items : (S : Q (keys sh wd)) (p : Element (keys sh wd)) → Mem p S → Mem p.it (items S)
  in_items [] p m = elim m [ ]
  in_items (q ∷ S) p (here e) = here (ap (λ (u : Element (keys sh wd)). u.it) e)
  in_items (q ∷ S) p (there i) = there (in_items S p i)

  -- two of the queue are one, or one is lower; and with one ticket they are one
  abbrev pub Apart : (Element (keys sh wd) → Type 0) → Type 0
  Apart Z = (y z : Element (keys sh wd)) → Z y → Z z → ((y ≡ z) ⊎ ((y ≺ z) ⊎ (z ≺ y))) × (ticket y ≡ ticket z → y ≡ z)

  lowest_is : (S : Q (keys sh wd)) (z : Element (keys sh wd)) → ((y : Element (keys sh wd)) → Mem y S → (y ≡ z) ⊎ ((y ≺ z) ⊎ (z ≺ y))) → Mem z S → ¬ Below S z
      → lowest (items S) ≡ some z.it
  lowest_is S z t m n = go (lowest (items S)) refl
    where
      go : (o : Option Item) → lowest (items S) ≡ o → o ≡ some z.it
      go none e = absurd (lowest_none (items S) z.it e (in_items S z m))
      go (some x) e = let (y, k, q) = items_in S x (lowest_in (items S) x e) in pick y k q (t y k)
        where
          pick : (y : Element (keys sh wd)) → Mem y S → y.it ≡ x → (y ≡ z) ⊎ ((y ≺ z) ⊎ (z ≺ y)) → some x ≡ some z.it
          pick y k q (inl f) = ap some (sym q ∙ ap (λ (u : Element (keys sh wd)). u.it) f)
          pick y k q (inr (inl g)) = absurd (n (y, k, g))
          pick y k q (inr (inr g)) =
              never (sym (lowest_least (items S) x z.it e (in_items S z m)) ∙ subst (λ (u : Item). lower z.it u ≡ true) q g)

  nothing_lowest : (S : Q (keys sh wd)) → ((q : Element (keys sh wd)) → ¬ Mem q S) → lowest (items S) ≡ none
  nothing_lowest S n = go (lowest (items S)) refl
    where
      go : (o : Option Item) → lowest (items S) ≡ o → o ≡ none
      go none e = refl
      go (some x) e = let (y, k, q) = items_in S x (lowest_in (items S) x e) in absurd (n y k)

  removed : (S : Q (keys sh wd)) (z : Element (keys sh wd)) → ((y : Element (keys sh wd)) → Mem y S → ticket y ≡ ticket z → y ≡ z)
      → remove (ticket z) (items S) ≡ items (without S z)
  removed [] z u = refl
  removed (p ∷ S) z u = go (same? p z) (removed S z (λ y m. u y (there m)))
    where
      go : (d : Dec (p ≡ z)) → remove (ticket z) (items S) ≡ items (without S z)
          → cond (eqb (ticket p) (ticket z)) (remove (ticket z) (items S)) (p.it ∷ remove (ticket z) (items S)) ≡ items (keep d p (without S z))
      go (yes e) ih = rw (eq-eqb (ticket p) (ticket z) (ap ticket e)) ih
      go (no n) ih = rw (ne_eqb (ticket p) (ticket z) (λ e. n (u p (here refl) e))) (ap (p.it ∷◌) ih)

  -- THE QUEUE GIVES THE ORDER'S ANSWERS
  pub plain : (S : Q (keys sh wd)) (L : Order (keys sh wd)) → Apart (λ y. Mem y S ⊎ Mem (enqueue y) L) → Legal S L → replies (items S) (asks L) ≡ answers L
  plain S [] t l = refl
  plain S (enqueue x ∷ L) t l = ap (record { response = Stored (ticket x); ticket = 0 } ∷◌) (plain (x ∷ S) L (λ y z a b. t y z (old y a) (old z b)) l.1)
    where
      old : (y : Element (keys sh wd)) → Mem y (x ∷ S) ⊎ Mem (enqueue y) L → Mem y S ⊎ Mem (enqueue y) (enqueue x ∷ L)
      old y (inl (here e)) = inr (here (ap enqueue e))
      old y (inl (there j)) = inl j
      old y (inr j) = inr (there j)
  plain S (dequeue z c ∷ L) t l =
      let e : lowest (items S) ≡ some z.it = lowest_is S z (λ y j. (t y z (inl j) (inl l.0.0)).0) l.0.0 l.0.1 in
      rw (e, removed S z (λ y j. (t y z (inl j) (inl l.0.0)).1))
      (ap (record { response = taken z.it; ticket = ticket z } ∷◌) (plain (without S z) L (λ y x a b. t y x (old y a) (old x b)) l.1))
    where
      old : (y : Element (keys sh wd)) → Mem y (without S z) ⊎ Mem (enqueue y) L → Mem y S ⊎ Mem (enqueue y) (dequeue z c ∷ L)
      old y (inl j) = inl (without_mem S z j).0
      old y (inr j) = inr (there j)
  plain S (empty c ∷ L) t l =
      let e : lowest (items S) ≡ none = nothing_lowest S l.0 in
      rw e (ap (record { response = Empty; ticket = 0 } ∷◌) (plain S L (λ y z a b. t y z (old y a) (old z b)) l.1))
    where
      old : (y : Element (keys sh wd)) → Mem y S ⊎ Mem (enqueue y) L → Mem y S ⊎ Mem (enqueue y) (empty c ∷ L)
      old y (inl j) = inl j
      old y (inr j) = inr (there j)
  plain S (scan v ∷ L) t l = plain S L (λ y z a b. t y z (old y a) (old z b)) l.1
    where
      old : (y : Element (keys sh wd)) → Mem y S ⊎ Mem (enqueue y) L → Mem y S ⊎ Mem (enqueue y) (scan v ∷ L)
      old y (inl j) = inl j
      old y (inr j) = inr (there j)
