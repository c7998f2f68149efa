-- Chains of nodes, over any function `c` from cells to link words: the list met from a cell, a cell's spot on it, what
-- inserting a node behind a cell and taking one out do to it. No store.
--     In, Runs                                    in a list; the links run through a list to the end
--     Spot, Edge, Apart                           a cell of the chain; with the node behind it; no cell of it
--     spot_of                                     a node's link is a spot
--     insert_at, remove_at                          a node set behind a spot; the node of an edge taken out
--     runs_half, runs_frame                       a run goes on where what it reads stays
--     spot_apart, spot_not                        what is no spot
--     insert_runs                                 the runs with the new node
--     edge_of, edge_spot, edge_in                 the edge behind a spot
--     remove_runs                                 the runs without the old one
--     in_insert, insert_own, insert_in            who is in the list with the new node
--     in_remove, remove_in, removed_ne            who is in the list without the old one
--     Ascends, ascends_map, distinct              a list that ascends; it has each node once
--     insert_ascends, remove_ascends, in_next     both keep it; behind a node comes the end or a higher node
-- Assumes nothing.
use Rattle.std.specs.Prelude.{◌≡◌, ◌≢◌, ◌⊎◌, ℕ, ◌+◌, ◌/◌}
use Rattle.std.proofs.Math.Path.{refl, ap, sym}
use Rattle.std.proofs.Common.{◌∙◌, arith}
use mathlib.Core.List.{List, [], ◌∷◌, Memᴰ}
use Rattle.std.proofs.Math.Logic.{inl, inr}
use Rattle.arrival.specs.declared.Shape.{Shape}
use Rattle.laws.specs.Lists.{Once}

abbrev pub In : ℕ → List ℕ → Type 0
In n ns = Memᴰ n ns

module _ (sh : Shape) where
  -- from cell p the links run through ns to the end
  abbrev pub Runs : (ℕ → ℕ) → ℕ → List ℕ → Type 0
  Runs c p [] = c p / 2 ≡ sh.nodes
  Runs c p (n ∷ ns) = (c p / 2 ≡ n) × Runs c (sh.buckets + n) ns

  -- ℓ is the cell p, or the link of a node of ns
  pub data Spot (ℓ : ℕ) : ℕ → List ℕ → Type 0 where
    here : {p : ℕ} {ns : List ℕ} → p ≡ ℓ → Spot ℓ p ns
    there : {p n : ℕ} {ns : List ℕ} → Spot ℓ (sh.buckets + n) ns → Spot ℓ p (n ∷ ns)

  -- the same, and r is the node behind it
  pub data Edge (ℓ r : ℕ) : ℕ → List ℕ → Type 0 where
    here : {p n : ℕ} {ns : List ℕ} → p ≡ ℓ → n ≡ r → Edge ℓ r p (n ∷ ns)
    there : {p n : ℕ} {ns : List ℕ} → Edge ℓ r (sh.buckets + n) ns → Edge ℓ r p (n ∷ ns)

  abbrev pub Apart : ℕ → List ℕ → Type 0
  Apart p ns = (m : ℕ) → In m ns → p ≢ sh.buckets + m

  pub spot_of : {n p : ℕ} {ns : List ℕ} → In n ns → Spot (sh.buckets + n) p ns
  spot_of (Memᴰ.head e) = there (here (ap (λ k. sh.buckets + k) (sym e)))
  spot_of {n} {p} (Memᴰ.tail {x = x} i) = there (spot_of {p = sh.buckets + x} i)

  unfoldable pub insert_at : {ℓ p : ℕ} {ns : List ℕ} → ℕ → Spot ℓ p ns → List ℕ
  insert_at {ns} o (here e) = o ∷ ns
  insert_at o (there {n = n} sp) = n ∷ insert_at o sp

  unfoldable pub remove_at : {ℓ r p : ℕ} {ns : List ℕ} → Edge ℓ r p ns → List ℕ
  remove_at (here {ns = ns} e f) = ns
  remove_at (there {n = n} sp) = n ∷ remove_at sp

  -- THE FRAME: a run goes on as it was if the successors that it reads do
  pub runs_half : (c d : ℕ → ℕ) (ns : List ℕ) (p q : ℕ) → Runs c p ns → d q / 2 ≡ c p / 2
      → ((m : ℕ) → In m ns → d (sh.buckets + m) / 2 ≡ c (sh.buckets + m) / 2) → Runs d q ns
  runs_half c d [] p q r e h = e ∙ r
  runs_half c d (n ∷ ns) p q r e h =
      (e ∙ r.0, runs_half c d ns (sh.buckets + n) (sh.buckets + n) r.1 (h n (Memᴰ.head refl)) (λ m i. h m (Memᴰ.tail i)))

  pub runs_frame : (c d : ℕ → ℕ) (ns : List ℕ) (p q : ℕ) → Runs c p ns → d q / 2 ≡ c p / 2
      → ((m : ℕ) → In m ns → d (sh.buckets + m) ≡ c (sh.buckets + m)) → Runs d q ns
  runs_frame c d ns p q r e h = runs_half c d ns p q r e (λ m i. ap (λ x. x / 2) (h m i))

  -- a cell before the spot is not the spot: of q, the link of n
  apart_spot : {ℓ q : ℕ} {ns : List ℕ} → Spot ℓ q ns → (n p : ℕ) → q ≡ sh.buckets + n → Apart p (n ∷ ns) → p ≢ ℓ
  apart_spot (here e) n p g h t = h n (Memᴰ.head refl) (t ∙ sym e ∙ g)
  apart_spot (there {n = k} sp) n p g h t = apart_spot sp k p refl (λ m i. h m (Memᴰ.tail i)) t

  -- a cell before the spot is not the spot
  pub spot_apart : {ℓ n p : ℕ} {ns : List ℕ} → Spot ℓ (sh.buckets + n) ns → Apart p (n ∷ ns) → p ≢ ℓ
  spot_apart {n} {p} sp h = apart_spot sp n p refl h

  -- what is neither the cell nor a link of a node of ns is not the spot
  pub spot_not : {ℓ p : ℕ} {ns : List ℕ} (x : ℕ) → Spot ℓ p ns → x ≢ p → Apart x ns → x ≢ ℓ
  spot_not x (here e) h a q = h (q ∙ sym e)
  spot_not x (there {n = n} sp) h a q = spot_not x sp (a n (Memᴰ.head refl)) (λ m i. a m (Memᴰ.tail i)) q

  apart_in : {n : ℕ} {ns : List ℕ} → Once (n ∷ ns) → Apart (sh.buckets + n) ns
  apart_in {n} d m i e = d.0 m i (omega arith)

  module _ (c d : ℕ → ℕ) (ℓ o : ℕ) (toOwn : d ℓ / 2 ≡ o) (toRight : d (sh.buckets + o) / 2 ≡ c ℓ / 2)
      (frame : (x : ℕ) → x ≢ ℓ → x ≢ sh.buckets + o → d x ≡ c x) where
    pub insert_runs : {p : ℕ} {ns : List ℕ} (sp : Spot ℓ p ns) → Runs c p ns → Apart p ns → p ≢ sh.buckets + o
        → ((m : ℕ) → In m ns → m ≢ o) → Once ns → Runs d p (insert_at o sp)
    unfolding insert_at
    insert_runs {p} {ns} (here e) r a po out ds = (
      ap (λ x. d x / 2) e ∙ toOwn,
      runs_frame c d ns p (sh.buckets + o) r (toRight ∙ ap (λ x. c x / 2) (sym e))
          (λ m i. frame (sh.buckets + m) (λ q. a m i (e ∙ sym q)) (λ q. out m i (omega arith))),
    )
    insert_runs {p} (there {n = n} {ns = ns} sp) r a po out ds = (
      ap (λ x. x / 2) (frame p (spot_apart sp a) po) ∙ r.0,
      insert_runs sp r.1 (apart_in ds) (λ q. out n (Memᴰ.head refl) (omega arith)) (λ m i. out m (Memᴰ.tail i)) ds.1,
    )

  -- the edge behind a spot, when the spot's successor is a node
  pub edge_of : (c : ℕ → ℕ) {ℓ r p : ℕ} {ns : List ℕ} → Spot ℓ p ns → Runs c p ns → c ℓ / 2 ≡ r → r ≢ sh.nodes → Edge ℓ r p ns
  edge_of c {ns = []} (here e) run s h = absurd (h (sym s ∙ ap (λ x. c x / 2) (sym e) ∙ run))
  edge_of c {ns = n ∷ ns} (here e) run s h = here e (sym run.0 ∙ ap (λ x. c x / 2) e ∙ s)
  edge_of c (there sp) run s h = there (edge_of c sp run.1 s h)

  pub edge_spot : {ℓ r p : ℕ} {ns : List ℕ} → Edge ℓ r p ns → Spot ℓ p ns
  edge_spot (here e f) = here e
  edge_spot (there g) = there (edge_spot g)

  pub edge_in : {ℓ r p : ℕ} {ns : List ℕ} → Edge ℓ r p ns → In r ns
  edge_in (here e f) = Memᴰ.head (sym f)
  edge_in (there g) = Memᴰ.tail (edge_in g)

  module _ (c d : ℕ → ℕ) (ℓ r : ℕ) (over : d ℓ / 2 ≡ c (sh.buckets + r) / 2) (frame : (x : ℕ) → x ≢ ℓ → d x ≡ c x) where
    pub remove_runs : {p : ℕ} {ns : List ℕ} (g : Edge ℓ r p ns) → Runs c p ns → Apart p ns → Once ns → Runs d p (remove_at g)
    unfolding remove_at
    remove_runs {p} (here {n = n} {ns = ns} e f) run a ds =
        runs_frame c d ns (sh.buckets + n) p run.1 (ap (λ x. d x / 2) e ∙ over ∙ ap (λ x. c (sh.buckets + x) / 2) (sym f))
        (λ m i. frame (sh.buckets + m) (λ q. a m (Memᴰ.tail i) (e ∙ sym q)))
    remove_runs {p} (there {n = n} {ns = ns} g) run a ds =
        (ap (λ x. x / 2) (frame p (spot_apart (edge_spot g) a)) ∙ run.0, remove_runs g run.1 (apart_in ds) ds.1)

  -- who is in the new list
  pub in_insert : {ℓ o p m : ℕ} {ns : List ℕ} (sp : Spot ℓ p ns) → In m (insert_at o sp) → (m ≡ o) ⊎ In m ns
  unfolding insert_at
  in_insert (here e) (Memᴰ.head q) = inl q
  in_insert (here e) (Memᴰ.tail i) = inr i
  in_insert (there sp) (Memᴰ.head q) = inr (Memᴰ.head q)
  in_insert (there sp) (Memᴰ.tail i) = go (in_insert sp i)
    where
      go : {m n o : ℕ} {ns : List ℕ} → (m ≡ o) ⊎ In m ns → (m ≡ o) ⊎ In m (n ∷ ns)
      go (inl q) = inl q
      go (inr j) = inr (Memᴰ.tail j)

  pub insert_own : {ℓ p : ℕ} {ns : List ℕ} (o : ℕ) (sp : Spot ℓ p ns) → In o (insert_at o sp)
  unfolding insert_at
  insert_own o (here e) = Memᴰ.head refl
  insert_own o (there sp) = Memᴰ.tail (insert_own o sp)

  pub insert_in : {ℓ p m : ℕ} {ns : List ℕ} (o : ℕ) (sp : Spot ℓ p ns) → In m ns → In m (insert_at o sp)
  unfolding insert_at
  insert_in o (here e) i = Memᴰ.tail i
  insert_in o (there sp) (Memᴰ.head q) = Memᴰ.head q
  insert_in o (there sp) (Memᴰ.tail i) = Memᴰ.tail (insert_in o sp i)

  pub in_remove : {ℓ r p m : ℕ} {ns : List ℕ} (g : Edge ℓ r p ns) → In m (remove_at g) → In m ns
  unfolding remove_at
  in_remove (here e f) i = Memᴰ.tail i
  in_remove (there g) (Memᴰ.head q) = Memᴰ.head q
  in_remove (there g) (Memᴰ.tail i) = Memᴰ.tail (in_remove g i)

  pub remove_in : {ℓ r p m : ℕ} {ns : List ℕ} (g : Edge ℓ r p ns) → In m ns → m ≢ r → In m (remove_at g)
  unfolding remove_at
  remove_in (here e f) (Memᴰ.head q) h = absurd (h (q ∙ f))
  remove_in (here e f) (Memᴰ.tail i) h = i
  remove_in (there g) (Memᴰ.head q) h = Memᴰ.head q
  remove_in (there g) (Memᴰ.tail i) h = Memᴰ.tail (remove_in g i h)

  pub removed_ne : {ℓ r p m : ℕ} {ns : List ℕ} (g : Edge ℓ r p ns) → Once ns → In m (remove_at g) → m ≢ r
  unfolding remove_at
  removed_ne {m} (here e f) ds i q = ds.0 m i (f ∙ sym q)
  removed_ne {r} (there g) ds (Memᴰ.head j) q = ds.0 r (edge_in g) (sym j ∙ q)
  removed_ne (there g) ds (Memᴰ.tail i) q = removed_ne g ds.1 i q

-- ORDER. A list that ascends by `lt`.
abbrev pub Ascends : (ℕ → ℕ → Type 0) → List ℕ → Type 0
Ascends lt [] = Unit {0}
Ascends lt (n ∷ ns) = ((m : ℕ) → In m ns → lt n m) × Ascends lt ns

pub ascends_map : (lt lt' : ℕ → ℕ → Type 0) (ns : List ℕ) → ((a b : ℕ) → In a ns → In b ns → lt a b → lt' a b) → Ascends lt ns → Ascends lt' ns
ascends_map lt lt' [] h a = tt
ascends_map lt lt' (n ∷ ns) h a =
    (λ m i. h n m (Memᴰ.head refl) (Memᴰ.tail i) (a.0 m i), ascends_map lt lt' ns (λ x y i j. h x y (Memᴰ.tail i) (Memᴰ.tail j)) a.1)

module _ (sh : Shape) (lt : ℕ → ℕ → Type 0) (trans : (a b c : ℕ) → lt a b → lt b c → lt a c) (irr : (a : ℕ) → lt a a → ⊥) where
  pub distinct : (ns : List ℕ) → Ascends lt ns → Once ns
  distinct [] a = tt
  distinct (n ∷ ns) a = (λ m i e. irr n (rw (← e) at (a.0 m i)), distinct ns a.1)

  -- what is below the first is below all
  below_all : {o k m : ℕ} {ks : List ℕ} → lt o k → Ascends lt (k ∷ ks) → In m (k ∷ ks) → lt o m
  below_all {o} h a (Memᴰ.head q) = rw q h
  below_all {o} {k} {m} h a (Memᴰ.tail i) = trans o k m h (a.0 m i)

  -- a node before the spot is below what is above the spot
  below_spot : {ℓ o q : ℕ} {ns : List ℕ} → Spot sh ℓ q ns → (n : ℕ) → q ≡ sh.buckets + n → Ascends lt (n ∷ ns)
      → ((k : ℕ) → ℓ ≡ sh.buckets + k → lt k o) → lt n o
  below_spot (here e) n g a k = k n (sym e ∙ g)
  below_spot {o} (there {n = j} sp) n g a k = trans n j o (a.0 j (Memᴰ.head refl)) (below_spot sp j refl a.1 k)

  pub insert_ascends : (c : ℕ → ℕ) {ℓ o p : ℕ} {ns : List ℕ} (sp : Spot sh ℓ p ns) → Runs sh c p ns → Ascends lt ns → ((m : ℕ) → In m ns → m ≢ sh.nodes)
      → ((k : ℕ) → ℓ ≡ sh.buckets + k → lt k o) → ((k : ℕ) → c ℓ / 2 ≡ k → k ≢ sh.nodes → lt o k) → Ascends lt (insert_at sh o sp)
  unfolding insert_at
  insert_ascends c {ns = []} (here e) run a nn lo hi = (λ m i. elim i [ ], tt)
  insert_ascends c {ns = k ∷ ks} (here e) run a nn lo hi =
      (λ m i. below_all (hi k (ap (λ x. c x / 2) (sym e) ∙ run.0) (nn k (Memᴰ.head refl))) a i, a)
  insert_ascends c {o} (there {n = n} {ns = ns} sp) run a nn lo hi =
      (λ m i. go m (in_insert sh sp i), insert_ascends c sp run.1 a.1 (λ m i. nn m (Memᴰ.tail i)) lo hi)
    where
      go : (m : ℕ) → (m ≡ o) ⊎ In m ns → lt n m
      go m (inl q) = rw q (below_spot sp n refl a lo)
      go m (inr i) = a.0 m i

  pub remove_ascends : {ℓ r p : ℕ} {ns : List ℕ} (g : Edge sh ℓ r p ns) → Ascends lt ns → Ascends lt (remove_at sh g)
  unfolding remove_at
  remove_ascends (here e f) a = a.1
  remove_ascends (there g) a = (λ m i. a.0 m (in_remove sh g i), remove_ascends g a.1)

  -- behind a node of the list comes the end, or a higher node of the list
  next_in : (c : ℕ → ℕ) {r : ℕ} (p : ℕ) {ns : List ℕ} → In r ns → Runs sh c p ns → Ascends lt ns
      → (c (sh.buckets + r) / 2 ≡ sh.nodes) ⊎ (In (c (sh.buckets + r) / 2) ns × lt r (c (sh.buckets + r) / 2))
  next_in c p (Memᴰ.head {xs = []} f) run a = inl (ap (λ x. c (sh.buckets + x) / 2) f ∙ run.1)
  next_in c {r} p (Memᴰ.head {x = n} {xs = k ∷ ks} f) run a =
      let q : c (sh.buckets + r) / 2 ≡ k = ap (λ x. c (sh.buckets + x) / 2) f ∙ run.1.0 in
      inr (Memᴰ.tail (Memᴰ.head q), rw (q, f) (a.0 k (Memᴰ.head refl)))
  next_in c {r} p (Memᴰ.tail {x = n} {xs = ns} i) run a = go (next_in c (sh.buckets + n) i run.1 a.1)
    where
      go : (c (sh.buckets + r) / 2 ≡ sh.nodes) ⊎ (In (c (sh.buckets + r) / 2) ns × lt r (c (sh.buckets + r) / 2))
          → (c (sh.buckets + r) / 2 ≡ sh.nodes) ⊎ (In (c (sh.buckets + r) / 2) (n ∷ ns) × lt r (c (sh.buckets + r) / 2))
      go (inl e) = inl e
      go (inr h) = inr (Memᴰ.tail h.0, h.1)

  pub in_next : (c : ℕ → ℕ) (p : ℕ) {r : ℕ} {ns : List ℕ} → In r ns → Runs sh c p ns → Ascends lt ns
      → (c (sh.buckets + r) / 2 ≡ sh.nodes) ⊎ (In (c (sh.buckets + r) / 2) ns × lt r (c (sh.buckets + r) / 2))
  in_next c p i run a = next_in c p i run a
