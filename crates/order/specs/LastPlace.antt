-- The last place of x in an order, and what stands behind it.
--     Place, last, last_place, place_behind     the last place, that there is one, and that it lies behind a point
--     busy_prefix                               something is below x behind each part
--     Own, own?, Calm, calm                     the enqueue of x; what takes only what is below x
--     step_own_lem, step_less, ok_less              a step on the queue less x
--     strip, legal_less, run_less               an order without the enqueue of x: LEGAL, and its queue
-- Assumes nothing.
use Rattle.std.specs.Prelude.{◌≡◌, refl, ◌⊎◌}
use Rattle.std.proofs.Common.{◌∙◌, ap, subst, inl, inr}
use mathlib.Core.List.Memᴰ.{append_right as mem-right}
use mathlib.Core.List.{[], ◌∷◌, ◌++◌, append_assoc, Memᴰ as Mem}
use Rattle.order.specs.Entries.{Keys, Element, Entry, enqueue, dequeue, empty, scan, Q, Order, keep, ◌≺◌, irrefl, same?, at_most_below, without}
use Rattle.order.specs.Entries.{without_yes, without_no, without_comm, mem_without, without_mem, Below, any_below?, step, run, Ok, Legal, Busy}
use Rattle.order.specs.Entries.{run_append}

module _ {K : Keys} where
  -- L falls into A, behind which nothing is below x, and B, behind each of whose entries something is
  pub record Place (S : Q K) (x : Element K) (L : Order K) : Type 0 where
    pub front : Order K
    pub back : Order K
    pub split : front ++ back ≡ L
    pub clear : ¬ Below (run S front) x
    pub busy : Busy (run S front) x back

  pub last : (S : Q K) (x : Element K) (L : Order K) → (Below S x × Busy S x L) ⊎ Place S x L
  last S x [] = go (any_below? S x)
    where
      go : Dec (Below S x) → (Below S x × Busy S x []) ⊎ Place S x []
      go (yes b) = inl (b, tt)
      go (no n) = inr (record { front = []; back = []; split = refl; clear = n; busy = tt })
  last S x (e ∷ L) = go (last (step S e) x L) (any_below? S x)
    where
      go : (Below (step S e) x × Busy (step S e) x L) ⊎ Place (step S e) x L → Dec (Below S x) → (Below S x × Busy S x (e ∷ L)) ⊎ Place S x (e ∷ L)
      go (inl b) (yes h) = inl (h, b)
      go (inl b) (no n) = inr (record { front = []; back = e ∷ L; split = refl; clear = n; busy = b })
      go (inr p) d = inr (record { front = e ∷ p.front; back = p.back; split = ap (e ∷◌) p.split; clear = p.clear; busy = p.busy })

  -- the last place, given that the start is one
  pub last_place : (S : Q K) (x : Element K) (L : Order K) → ¬ Below S x → Place S x L
  last_place S x L n = go (last S x L)
    where
      go : (Below S x × Busy S x L) ⊎ Place S x L → Place S x L
      go (inl b) = absurd (n b.0)
      go (inr p) = p

  -- where nothing is below x behind A, the last place of A ++ D lies in D
  pub place_behind : (S : Q K) (x : Element K) (A D L : Order K) → A ++ D ≡ L → ¬ Below (run S A) x
      → (q : Place S x L) × ((f : Entry K) → Mem f q.back → Mem f D)
  place_behind S x A D L g n =
      let p = last_place (run S A) x D n in
      let q : Place S x L = record {
        front = A ++ p.front;
        back = p.back;
        split = append_assoc A p.front p.back ∙ ap (A ++◌) p.split ∙ g;
        clear = rw run_append p.clear;
        busy = rw run_append p.busy;
      } in
      (q, λ f m. subst (λ M. Mem f M) p.split (mem-right p.front m))

  -- something is below x behind every non-empty part of B that B begins with
  pub busy_prefix : (S : Q K) (x : Element K) (B : Order K) (e : Entry K) (C : Order K) → Busy S x (B ++ e ∷ C) → Below (run S (B ++ e ∷ [])) x
  busy_prefix S x [] e C w = w.0
  busy_prefix S x (b ∷ B) e C w = busy_prefix (step S b) x B e C w.1

  -- ── an entry behind the place ──
  -- the enqueue of x
  abbrev pub Own : Entry K → Element K → Type 0
  Own (enqueue p) x = p ≡ x
  Own (dequeue z c) x = ⊥
  Own (empty c) x = ⊥
  Own (scan w) x = ⊥

  abbrev pub own? : (e : Entry K) (x : Element K) → Dec (Own e x)
  own? (enqueue p) x = same? p x
  own? (dequeue z c) x = no (λ h. h)
  own? (empty c) x = no (λ h. h)
  own? (scan w) x = no (λ h. h)

  -- dequeues only what is below x, and is not empty
  abbrev pub Calm : Entry K → Element K → Type 0
  Calm (enqueue p) x = Unit {0}
  Calm (dequeue z c) x = z ≺ x
  Calm (empty c) x = ⊥
  Calm (scan w) x = Unit {0}

  pub calm : (S : Q K) (x : Element K) (e : Entry K) → Below (step S e) x → Ok S e → Calm e x
  calm S x (enqueue p) b o = tt
  calm S x (dequeue z c) b o =
      let m = (without_mem S z b.1).0 in
      at_most_below b.0 z x (λ h. o.1 (b.0, m, h)) b.2
  calm S x (empty c) b o = o b.0 b.1
  calm S x (scan w) b o = tt

  -- the queue less x: its step, and what it allows
  pub step_own_lem : (S : Q K) (x : Element K) (e : Entry K) → Own e x → without (step S e) x ≡ without S x
  step_own_lem S x (enqueue p) o = without_yes p S x o
  step_own_lem S x (dequeue z c) o = absurd o
  step_own_lem S x (empty c) o = absurd o
  step_own_lem S x (scan w) o = absurd o

  pub step_less : (S : Q K) (x : Element K) (e : Entry K) → ¬ Own e x → without (step S e) x ≡ step (without S x) e
  step_less S x (enqueue p) n = without_no p S x n
  step_less S x (dequeue z c) n = without_comm S x z
  step_less S x (empty c) n = refl
  step_less S x (scan w) n = refl

  pub ok_less : (S : Q K) (x : Element K) (e : Entry K) → Calm e x → Ok S e → Ok (without S x) e
  ok_less S x (enqueue p) c o = tt
  ok_less S x (dequeue z c) h (m, n) = (mem_without S x (λ g. irrefl z x g h) m, λ b. n (b.0, (without_mem S x b.1).0, b.2))
  ok_less S x (empty c) h o = absurd h
  ok_less S x (scan w) h o = tt

  -- B without the enqueue of x
  abbrev pub strip : Order K → Element K → Order K
  strip [] x = []
  strip (e ∷ B) x = keep (own? e x) e (strip B x)

  -- LEGAL and the queue of what stands behind the place, once x is gone
  pub legal_less : (S : Q K) (x : Element K) (B : Order K) → Busy S x B → Legal S B → Legal (without S x) (strip B x)
  legal_less S x [] b l = tt
  legal_less S x (e ∷ B) b l = go (own? e x) (legal_less (step S e) x B b.1 l.1)
    where
      go : (d : Dec (Own e x)) → Legal (without (step S e) x) (strip B x) → Legal (without S x) (keep d e (strip B x))
      go (yes o) ih = rw (step_own_lem S x e o) at ih
      go (no n) ih = (ok_less S x e (calm S x e b.0 l.0) l.0, rw (step_less S x e n) at ih)

  pub run_less : (S : Q K) (x : Element K) (B : Order K) → run (without S x) (strip B x) ≡ without (run S B) x
  run_less S x [] = refl
  run_less S x (e ∷ B) = go (own? e x) (run_less (step S e) x B)
    where
      go : (d : Dec (Own e x)) → run (without (step S e) x) (strip B x) ≡ without (run (step S e) B) x
          → run (without S x) (keep d e (strip B x)) ≡ without (run (step S e) B) x
      go (yes o) ih = rw (step_own_lem S x e o) at ih
      go (no n) ih = rw (step_less S x e n) at ih
