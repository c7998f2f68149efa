-- The sequential queue along an order of calls that the ledger agrees with.
--     remaining                                what the queue holds after some calls
--     Fits, fits                               each reply is the pool's, and each take's the item that it marked; so in a linearization
--     fits_front, fits_behind                  of the front of an order, and of what stands behind it
--     Put, Marked                              a call puts an arrival; a take has marked one
--     remaining_put                            what the queue holds was put
--     in_or_marked                             what was put is there, or is marked
--     marked_gone                              what is marked is not there
-- Assumes nothing.
use Rattle.std.specs.Prelude.{◌≡◌, refl, Bool, true, false, ◌≢◌, ◌⊎◌, ℕ, ◌≤◌, eqb}
use Rattle.std.proofs.Common.{sym, ap, ◌∙◌, inl, inr, arith, eqb-true}
use Rattle.std.proofs.Math.Option.{Option, none, some}
use mathlib.Core.List.Memᴰ
use mathlib.Core.List.Memᴰ.{head as here}
use mathlib.Core.List.Memᴰ.{tail as there}
use mathlib.Core.List.{List, [], ◌∷◌, ◌++◌, map, Memᴰ as Mem}
use Rattle.std.proofs.lemmas.Bool.{eqb-false}
use Rattle.arrival.specs.declared.Item.{Item}
use Rattle.arrival.specs.Queue.{Call, enqueue, dequeue, Reply, Items, lowest, dequeued, left_over, reply, after, replies}
use Rattle.arrival.proofs.QueueLaws.{lowest_in, remove_in, in_remove}
use Rattle.laws.specs.Lists.{Once}
use Rattle.calendar.specs.rules.Ledger.{Ledger}
use Rattle.calendar.specs.rules.Linearizability.{Finished, mark_ticket, pool_reply, Agree, MarkedAhead}

module _ (L : Ledger) where
  abbrev pub remaining : Items → List ℕ → Items
  remaining S [] = S
  remaining S (c ∷ o) = remaining (after S (L.asked c)) o

  abbrev pub Fits : Items → List ℕ → Type 0
  Fits S [] = Unit {0}
  Fits S (c ∷ o) =
      ((Finished L c → reply S (L.asked c) ≡ pool_reply L c) × (L.asked c ≡ dequeue → (reply S (L.asked c)).ticket ≡ mark_ticket (L.marked c)))
      × Fits (after S (L.asked c)) o

  pub fits : (S : Items) (o : List ℕ) → Agree L o (replies S (map L.asked o)) → MarkedAhead L o (replies S (map L.asked o)) → Fits S o
  fits S [] a k = tt
  fits S (c ∷ o) a k = ((a.0, λ q. by_end q (L.ended c) refl), fits (after S (L.asked c)) o a.1 k.1)
    where
      by_end : L.asked c ≡ dequeue → (e : Option ℕ) → L.ended c ≡ e → (reply S (L.asked c)).ticket ≡ mark_ticket (L.marked c)
      by_end q none e = let (x, mark, r) = k.0 q e in ap (λ (u : Reply). u.ticket) r ∙ ap mark_ticket (sym mark)
      by_end q (some s) e = ap (λ (u : Reply). u.ticket) (a.0 (s, e))

  pub fits_front : (S : Items) (o p : List ℕ) → Fits S (o ++ p) → Fits S o
  fits_front S [] p f = tt
  fits_front S (c ∷ o) p f = (f.0, fits_front (after S (L.asked c)) o p f.1)

  pub fits_behind : (S : Items) (o p : List ℕ) → Fits S (o ++ p) → Fits (remaining S o) p
  fits_behind S [] p f = f
  fits_behind S (c ∷ o) p f = fits_behind (after S (L.asked c)) o p f.1

  -- ── one call ──
  left_over_in : (S : Items) (o : Option Item) (x : Item) → Mem x (left_over S o) → Mem x S
  left_over_in S none x i = i
  left_over_in S (some z) x i = (remove_in z.ticket x S i).0

  -- what is there after a call was there or was put by it
  after_in : (S : Items) (c : Call) (x : Item) → Mem x (after S c) → Mem x S ⊎ (c ≡ enqueue x)
  after_in S (enqueue y) x i = pick (Memᴰ.cases_cons i)
    where
      pick : (x ≡ y) ⊎ Mem x S → Mem x S ⊎ (enqueue y ≡ enqueue x)
      pick (inl e) = inr (ap enqueue (sym e))
      pick (inr j) = inl j
  after_in S dequeue x i = inl (left_over_in S (lowest S) x i)

  -- what was there or is put by a call is there after it, or the call gave it
  in_after : (S : Items) (c : Call) (x : Item) → Mem x S ⊎ (c ≡ enqueue x)
      → Mem x (after S c) ⊎ ((c ≡ dequeue) × ((reply S c).ticket ≡ x.ticket))
  in_after S (enqueue y) x (inl i) = inl (there i)
  in_after S (enqueue y) x (inr e) = let z : x ≡ y = cc in inl (here z)
  in_after S dequeue x (inr e) = absurd (let z : ◌≡◌ {A = ℕ} 0 1 = cc in omega arith)
  in_after S dequeue x (inl i) = go (lowest S)
    where
      go : (o : Option Item) → Mem x (left_over S o) ⊎ ((dequeue ≡ dequeue) × ((dequeued o).ticket ≡ x.ticket))
      go none = inl i
      go (some z) = pick (eqb x.ticket z.ticket) refl
        where
          pick : (t : Bool) → eqb x.ticket z.ticket ≡ t
              → Mem x (left_over S (some z)) ⊎ ((dequeue ≡ dequeue) × ((dequeued (some z)).ticket ≡ x.ticket))
          pick true e = inr (refl, sym (eqb-true x.ticket z.ticket e))
          pick false e = inl (in_remove z.ticket x S i (eqb-false x.ticket z.ticket e))

  -- ── what is there ──
  -- a call of o puts x; a take of o has marked the arrival of ticket t
  abbrev pub Put : List ℕ → Item → Type 0
  Put o x = (c : ℕ) × Mem c o × (L.asked c ≡ enqueue x)

  abbrev pub Marked : List ℕ → ℕ → Type 0
  Marked o t = (e : ℕ) × Mem e o × (L.asked e ≡ dequeue) × (mark_ticket (L.marked e) ≡ t)

  pub remaining_put : (S : Items) (o : List ℕ) (x : Item) → Mem x (remaining S o) → Mem x S ⊎ Put o x
  remaining_put S [] x i = inl i
  remaining_put S (c ∷ o) x i = go (remaining_put (after S (L.asked c)) o x i)
    where
      first : Mem x S ⊎ (L.asked c ≡ enqueue x) → Mem x S ⊎ Put (c ∷ o) x
      first (inl j) = inl j
      first (inr e) = inr (c, here refl, e)

      go : Mem x (after S (L.asked c)) ⊎ Put o x → Mem x S ⊎ Put (c ∷ o) x
      go (inl j) = first (after_in S (L.asked c) x j)
      go (inr (d, j, e)) = inr (d, there j, e)

  pub in_or_marked : (S : Items) (o : List ℕ) (x : Item) → Fits S o → Mem x S ⊎ Put o x → Mem x (remaining S o) ⊎ Marked o x.ticket
  in_or_marked S [] x f (inl i) = inl i
  in_or_marked S [] x f (inr (c, i, e)) = absurd (Memᴰ.not-nil i)
  in_or_marked S (c ∷ o) x f was = go was (in_or_marked (after S (L.asked c)) o x f.1)
    where
      further : Mem x (remaining (after S (L.asked c)) o) ⊎ Marked o x.ticket → Mem x (remaining S (c ∷ o)) ⊎ Marked (c ∷ o) x.ticket
      further (inl j) = inl j
      further (inr (e, j, q, t)) = inr (e, there j, q, t)

      at_c : (Mem x (after S (L.asked c)) ⊎ Put o x → Mem x (remaining (after S (L.asked c)) o) ⊎ Marked o x.ticket)
          → Mem x (after S (L.asked c)) ⊎ ((L.asked c ≡ dequeue) × ((reply S (L.asked c)).ticket ≡ x.ticket))
          → Mem x (remaining S (c ∷ o)) ⊎ Marked (c ∷ o) x.ticket
      at_c behind (inl j) = further (behind (inl j))
      at_c behind (inr (q, t)) = inr (c, here refl, q, sym (f.0.1 q) ∙ t)

      go : Mem x S ⊎ Put (c ∷ o) x → (Mem x (after S (L.asked c)) ⊎ Put o x → Mem x (remaining (after S (L.asked c)) o) ⊎ Marked o x.ticket)
          → Mem x (remaining S (c ∷ o)) ⊎ Marked (c ∷ o) x.ticket
      go (inl i) behind = at_c behind (in_after S (L.asked c) x (inl i))
      go (inr (d, i, e)) behind = pick (Memᴰ.cases_cons i)
        where
          pick : (d ≡ c) ⊎ Mem d o → Mem x (remaining S (c ∷ o)) ⊎ Marked (c ∷ o) x.ticket
          pick (inl q) = at_c behind (in_after S (L.asked c) x (inr (ap L.asked (sym q) ∙ e)))
          pick (inr j) = further (behind (inr (d, j, e)))

  -- ── what is not there ──
  -- no item has the ticket t
  abbrev Without : ℕ → Items → Type 0
  Without t S = (x : Item) → Mem x S → x.ticket ≢ t

  module _ (own : (c : ℕ) (x : Item) → L.asked c ≡ enqueue x → x.ticket ≡ c) where
    stays_without : (t : ℕ) (S : Items) (o : List ℕ) → Without t S → (Mem t o → ⊥) → Without t (remaining S o)
    stays_without t S [] w out = w
    stays_without t S (c ∷ o) w out = stays_without t (after S (L.asked c)) o (λ x i. go x (after_in S (L.asked c) x i)) (λ j. out (there j))
      where
        go : (x : Item) → Mem x S ⊎ (L.asked c ≡ enqueue x) → x.ticket ≢ t
        go x (inl j) = w x j
        go x (inr e) = λ q. out (here (sym q ∙ own c x e))

    -- a take gives what is there, and it is gone
    given_gone : (S : Items) (c : Call) (t : ℕ) → c ≡ dequeue → 1 ≤ t → (reply S c).ticket ≡ t → ((x : Item) × Mem x S × (x.ticket ≡ t)) × Without t (after S c)
    given_gone S (enqueue y) t e l q = absurd (let z : ◌≡◌ {A = ℕ} 0 1 = cc in omega arith)
    given_gone S dequeue t e l q = go (lowest S) refl q
      where
        go : (o : Option Item) → lowest S ≡ o → (dequeued o).ticket ≡ t → ((x : Item) × Mem x S × (x.ticket ≡ t)) × Without t (left_over S o)
        go none f q = absurd (omega arith)
        go (some z) f q = ((z, lowest_in S z f, q), λ x i p. (remove_in z.ticket x S i).1 (p ∙ sym q))

    pub marked_gone : (S : Items) (o : List ℕ) (t : ℕ) → Fits S o → Once o → ((x : Item) → Mem x S → Mem x.ticket o → ⊥) → 1 ≤ t → Marked o t
        → Without t (remaining S o)
    marked_gone S [] t f one new l (e, i, q, k) = absurd (Memᴰ.not-nil i)
    marked_gone S (c ∷ o) t f one new l (e, i, q, k) =
        go (Memᴰ.cases_cons i)
        (λ j. marked_gone (after S (L.asked c)) o t f.1 one.1 (λ x p. new_behind x (after_in S (L.asked c) x p)) l (e, j, q, k))
      where
        new_behind : (x : Item) → Mem x S ⊎ (L.asked c ≡ enqueue x) → Mem x.ticket o → ⊥
        new_behind x (inl p) j = new x p (there j)
        new_behind x (inr p) j = one.0 x.ticket j (sym (own c x p))

        go : (e ≡ c) ⊎ Mem e o → (Mem e o → Without t (remaining (after S (L.asked c)) o)) → Without t (remaining S (c ∷ o))
        go (inr j) rec = rec j
        go (inl p) rec =
            let asks : L.asked c ≡ dequeue = ap L.asked (sym p) ∙ q in
            let (z, gone) = given_gone S (L.asked c) t asks l (f.0.1 asks ∙ ap (λ n. mark_ticket (L.marked n)) (sym p) ∙ k) in
            stays_without t (after S (L.asked c)) o gone (λ j. new z.0 z.1 (there (Memᴰ.cast z.2 j)))
