-- Lists: values by their numbers, parts, and numbers that stand in a list once. The laws of `take`, `drop`, `set`, `get_or` and `◌++◌` that the kit has
-- (lib.ListN, lib.Seq) are not here.
--     words_from                         g i, g (i + 1), ..: words_at is the one at k, length_words how many, words_suc one more
--     words_in, in_words                what is in them
--     take_words                        a part of a list is the words that it has there
--     drop_take                         a front without its own front
--     mem_behind                        what is in a list and is not its first element is in the rest
--     Once                              each number differs from those behind it
--     once_front, once_behind           so in the front of a list, and in the rest;
--     once_apart                        and those of the front from those of the rest
--     mem_split                         what is before an element, and what is behind it
--     sift, sift_in, in_sift            a list without what a test picks, and what is in it
--     sift_less                         it is shorter
--     without, without_in, in_without   a list without a number, and what is in it
--     without_less                      it is shorter
--     below, below_in, length_below     the numbers below n
--     up_to, up_to_in, length_up_to      the numbers 1 to n
--     once_within                       numbers that stand once, all of them in another list, are no more than it has
--     once_below                        numbers that stand once and lie below n are at most n
--     same_numbers, same_numbers_lem         whether two lists of numbers are one
--     all, all_true                     whether a test holds of each element
--     gathered, gathered_in             the lists of each element, one behind the other
-- Assumes nothing.
use Rattle.std.specs.Prelude.{◌≡◌, refl, Bool, true, false, cond, ◌&&◌, ◌≢◌, ◌⊎◌, ℕ, zero, suc, ◌+◌, ◌-◌, ◌≤◌, ◌<◌, eqb, length, get_or, take, drop}
use Rattle.std.proofs.Common.{sym, ap, ◌∙◌, subst, inl, inr, arith, drop-cons, eqb-true, eq-eqb, ne_eqb}
use mathlib.Core.List.Memᴰ
use mathlib.Core.List.{List, [], ◌∷◌, ◌++◌, map, Memᴰ}
use Rattle.std.proofs.lemmas.List.{length-map}
use Rattle.std.proofs.Math.Seq.{take-nil}
use Rattle.std.proofs.lemmas.Bool.{eqb-false}
use Rattle.laws.specs.Tests.{never}

-- ── values by their numbers ──
-- g i, g (i + 1), .. : n words
unfoldable pub words_from : (ℕ → ℕ) → ℕ → ℕ → List ℕ
words_from g i zero = []
words_from g i (suc n) = g i ∷ words_from g (suc i) n

pub words_at : (g : ℕ → ℕ) (i n k : ℕ) → k < n → get_or (words_from g i n) k 0 ≡ g (i + k)
unfolding words_from
words_at g i zero k h = absurd (omega arith)
words_at g i (suc n) zero h = let e : i + 0 ≡ i = omega arith in rw e
words_at g i (suc n) (suc k) h = let e : suc i + k ≡ i + suc k = omega arith in words_at g (suc i) n k (omega arith) ∙ ap g e

pub length_words : (g : ℕ → ℕ) (i n : ℕ) → length (words_from g i n) ≡ n
unfolding words_from
length_words g i zero = refl
length_words g i (suc n) = ap suc (length_words g (suc i) n)

pub words_suc : (g : ℕ → ℕ) (i n : ℕ) → words_from g i (suc n) ≡ words_from g i n ++ (g (i + n) ∷ [])
unfolding words_from
words_suc g i zero = let e : i + 0 ≡ i = omega arith in rw e
words_suc g i (suc n) =
    let e : suc i + n ≡ i + suc n = omega arith in
    ap (λ (u : List ℕ). g i ∷ u) (words_suc g (suc i) n ∙ ap (λ (k : ℕ). words_from g (suc i) n ++ (g k ∷ [])) e)

pub words_in : (g : ℕ → ℕ) (i n x : ℕ) → Memᴰ x (words_from g i n) → (k : ℕ) × (k < n) × (x ≡ g (i + k))
unfolding words_from
words_in g i zero x j = absurd (Memᴰ.not-nil j)
words_in g i (suc n) x j = go (Memᴰ.cases_cons j) (words_in g (suc i) n x)
  where
    go : (x ≡ g i) ⊎ Memᴰ x (words_from g (suc i) n) → (Memᴰ x (words_from g (suc i) n) → (k : ℕ) × (k < n) × (x ≡ g (suc i + k)))
        → (k : ℕ) × (k < suc n) × (x ≡ g (i + k))
    go (inl e) rec = let z : i ≡ i + 0 = omega arith in (0, omega arith, e ∙ ap g z)
    go (inr p) rec = let (k, l, e) = rec p in let z : suc i + k ≡ i + suc k = omega arith in (suc k, omega arith, e ∙ ap g z)

pub in_words : (g : ℕ → ℕ) (i n k : ℕ) → k < n → Memᴰ (g (i + k)) (words_from g i n)
unfolding words_from
in_words g i zero k h = absurd (omega arith)
in_words g i (suc n) zero h = let z : i + 0 ≡ i = omega arith in Memᴰ.head (ap g z)
in_words g i (suc n) (suc k) h =
    let z : i + suc k ≡ suc i + k = omega arith in Memᴰ.tail (Memᴰ.cast (ap g z) (in_words g (suc i) n k (omega arith)))

pub take_words : (t : List ℕ) (i n : ℕ) → i + n ≤ length t → take n (drop i t) ≡ words_from (λ k. get_or t k 0) i n
unfolding words_from
take_words t i zero h = refl
take_words t i (suc n) h =
    ap (take (suc n)) (drop-cons t i 0 (omega arith)) ∙ ap (λ (u : List ℕ). get_or t i 0 ∷ u) (take_words t (suc i) n (omega arith))

-- ── parts ──
pub drop_take : {A : Type 0} (m n : ℕ) (l : List A) → drop m (take n l) ≡ take (n - m) (drop m l)
drop_take zero n l = let e : n ≡ n - 0 = omega arith in ap (λ (k : ℕ). take k l) e
drop_take (suc m) zero l = let e : 0 ≡ 0 - suc m = omega arith in ap (λ (k : ℕ). take k (drop (suc m) l)) e
drop_take (suc m) (suc n) [] = sym (take-nil (suc n - suc m))
drop_take (suc m) (suc n) (x ∷ l) = let e : n - m ≡ suc n - suc m = omega arith in drop_take m n l ∙ ap (λ (k : ℕ). take k (drop m l)) e

-- ── what is in a list ──
pub mem_behind : {A : Type 0} {c d : A} {l : List A} → c ≢ d → Memᴰ d (c ∷ l) → Memᴰ d l
mem_behind {c} {d} {l} apart i = pick (Memᴰ.cases_cons i)
  where
    pick : (d ≡ c) ⊎ Memᴰ d l → Memᴰ d l
    pick (inl e) = absurd (apart (sym e))
    pick (inr j) = j

abbrev pub Once : List ℕ → Type 0
Once [] = Unit {0}
Once (c ∷ cs) = ((d : ℕ) → Memᴰ d cs → c ≢ d) × Once cs

pub once_front : (xs ys : List ℕ) → Once (xs ++ ys) → Once xs
once_front [] ys one = tt
once_front (c ∷ xs) ys one = (λ d i. one.0 d (Memᴰ.append_left ys i), once_front xs ys one.1)

pub once_behind : (xs ys : List ℕ) → Once (xs ++ ys) → Once ys
once_behind [] ys one = one
once_behind (c ∷ xs) ys one = once_behind xs ys one.1

pub once_apart : (xs ys : List ℕ) (c d : ℕ) → Once (xs ++ ys) → Memᴰ c xs → Memᴰ d ys → c ≢ d
once_apart [] ys c d one i j = absurd (Memᴰ.not-nil i)
once_apart (x ∷ xs) ys c d one i j = go (Memᴰ.cases_cons i) (λ k. once_apart xs ys c d one.1 k j)
  where
    go : (c ≡ x) ⊎ Memᴰ c xs → (Memᴰ c xs → c ≢ d) → c ≢ d
    go (inl e) rec = λ q. one.0 d (Memᴰ.append_right xs j) (sym e ∙ q)
    go (inr k) rec = rec k

-- where an element stands, a list falls into what is before it and what is behind it
pub mem_split : {A : Type 0} (x : A) (l : List A) → Memᴰ x l → (front : List A) × (rest : List A) × (l ≡ front ++ (x ∷ rest))
mem_split x [] i = absurd (Memᴰ.not-nil i)
mem_split {A} x (y ∷ l) i = go (Memᴰ.cases_cons i) (mem_split x l)
  where
    go : (x ≡ y) ⊎ Memᴰ x l → (Memᴰ x l → (front : List A) × (rest : List A) × (l ≡ front ++ (x ∷ rest)))
        → (front : List A) × (rest : List A) × (y ∷ l ≡ front ++ (x ∷ rest))
    go (inl e) rec = ([], l, ap (λ (z : A). z ∷ l) (sym e))
    go (inr j) rec = let (front, rest, e) = rec j in (y ∷ front, rest, ap (λ (r : List A). y ∷ r) e)

-- ── a list without what a test picks ──
abbrev pub sift : {A : Type 0} → (A → Bool) → List A → List A
sift t [] = []
sift t (x ∷ xs) = cond (t x) (sift t xs) (x ∷ sift t xs)

pub sift_in : {A : Type 0} (t : A → Bool) (x : A) (xs : List A) → Memᴰ x (sift t xs) → (Memᴰ x xs) × (t x ≡ false)
sift_in t x [] i = absurd (Memᴰ.not-nil i)
sift_in t x (y ∷ ys) i = go (t y) refl i (sift_in t x ys)
  where
    go : (b : Bool) → t y ≡ b → Memᴰ x (cond b (sift t ys) (y ∷ sift t ys))
        → (Memᴰ x (sift t ys) → (Memᴰ x ys) × (t x ≡ false)) → (Memᴰ x (y ∷ ys)) × (t x ≡ false)
    go true e j rec = let (p, q) = rec j in (Memᴰ.tail p, q)
    go false e j rec = pick (Memᴰ.cases_cons j)
      where
        pick : (x ≡ y) ⊎ Memᴰ x (sift t ys) → (Memᴰ x (y ∷ ys)) × (t x ≡ false)
        pick (inl p) = (Memᴰ.head p, ap t p ∙ e)
        pick (inr p) = let (a, b) = rec p in (Memᴰ.tail a, b)

pub in_sift : {A : Type 0} (t : A → Bool) (x : A) (xs : List A) → Memᴰ x xs → t x ≡ false → Memᴰ x (sift t xs)
in_sift t x [] i h = absurd (Memᴰ.not-nil i)
in_sift t x (y ∷ ys) i h = go (t y) refl (Memᴰ.cases_cons i) (λ j. in_sift t x ys j h)
  where
    go : (b : Bool) → t y ≡ b → (x ≡ y) ⊎ Memᴰ x ys → (Memᴰ x ys → Memᴰ x (sift t ys))
        → Memᴰ x (cond b (sift t ys) (y ∷ sift t ys))
    go true e (inl p) rec = never (sym h ∙ ap t p ∙ e)
    go true e (inr p) rec = rec p
    go false e (inl p) rec = Memᴰ.head p
    go false e (inr p) rec = Memᴰ.tail (rec p)

sift_shorter : {A : Type 0} (t : A → Bool) (xs : List A) → length (sift t xs) ≤ length xs
sift_shorter t [] = omega arith
sift_shorter t (y ∷ ys) = go (t y) (sift_shorter t ys)
  where
    go : (b : Bool) → length (sift t ys) ≤ length ys → length (cond b (sift t ys) (y ∷ sift t ys)) ≤ suc (length ys)
    go true h = omega arith
    go false h = omega arith

pub sift_less : {A : Type 0} (t : A → Bool) (x : A) (xs : List A) → Memᴰ x xs → t x ≡ true → length (sift t xs) < length xs
sift_less t x [] i h = absurd (Memᴰ.not-nil i)
sift_less t x (y ∷ ys) i h = go (t y) refl (Memᴰ.cases_cons i) (λ j. sift_less t x ys j h)
  where
    go : (b : Bool) → t y ≡ b → (x ≡ y) ⊎ Memᴰ x ys → (Memᴰ x ys → length (sift t ys) < length ys)
        → length (cond b (sift t ys) (y ∷ sift t ys)) < suc (length ys)
    go true e p rec = omega (arith, sift_shorter t ys)
    go false e (inl p) rec = never (sym e ∙ ap t (sym p) ∙ h)
    go false e (inr p) rec = omega (arith, rec p)

-- without a number
abbrev pub without : ℕ → List ℕ → List ℕ
without c xs = sift (eqb c) xs

pub without_in : (c x : ℕ) (xs : List ℕ) → Memᴰ x (without c xs) → (Memᴰ x xs) × (c ≢ x)
without_in c x xs i = let (j, e) = sift_in (eqb c) x xs i in (j, eqb-false c x e)

pub in_without : (c x : ℕ) (xs : List ℕ) → Memᴰ x xs → c ≢ x → Memᴰ x (without c xs)
in_without c x xs i h = in_sift (eqb c) x xs i (ne_eqb c x h)

pub without_less : (c : ℕ) (xs : List ℕ) → Memᴰ c xs → length (without c xs) < length xs
without_less c xs i = sift_less (eqb c) c xs i (eq-eqb c c refl)

unfoldable pub below : ℕ → List ℕ
below zero = []
below (suc n) = n ∷ below n

pub below_in : (n c : ℕ) → c < n → Memᴰ c (below n)
unfolding below
below_in zero c h = absurd (omega arith)
below_in (suc n) c h = pick (eqb c n) refl (below_in n c)
  where
    pick : (t : Bool) → eqb c n ≡ t → (c < n → Memᴰ c (below n)) → Memᴰ c (n ∷ below n)
    pick true e rec = Memᴰ.head (eqb-true c n e)
    pick false e rec = Memᴰ.tail (rec (omega (arith, eqb-false c n e)))

pub length_below : (n : ℕ) → length (below n) ≡ n
unfolding below
length_below zero = refl
length_below (suc n) = ap suc (length_below n)

-- the numbers 1 to n
abbrev pub up_to : ℕ → List ℕ
up_to n = map suc (below n)

pub up_to_in : (n c : ℕ) → 1 ≤ c → c ≤ n → Memᴰ c (up_to n)
up_to_in n c lo hi = Memᴰ.cast (omega arith) (Memᴰ.map suc (below_in n (c - 1) (omega arith)))

pub length_up_to : (n : ℕ) → length (up_to n) ≡ n
length_up_to n = length-map (below n) suc ∙ length_below n

pub once_within : (ns rest : List ℕ) → Once ns → ((c : ℕ) → Memᴰ c ns → Memᴰ c rest) → length ns ≤ length rest
once_within [] rest one sub = omega arith
once_within (c ∷ ns) rest one sub =
    let less = without_less c rest (sub c (Memᴰ.head refl)) in
    let more = once_within ns (without c rest) one.1 (λ d i. in_without c d rest (sub d (Memᴰ.tail i)) (one.0 d i)) in
    omega (arith, less, more)

pub once_below : (n : ℕ) (ns : List ℕ) → Once ns → ((c : ℕ) → Memᴰ c ns → c < n) → length ns ≤ n
once_below n ns one low = omega (arith, once_within ns (below n) one (λ c i. below_in n c (low c i)), length_below n)

-- ── tests and lists of lists ──
abbrev pub same_numbers : List ℕ → List ℕ → Bool
same_numbers [] [] = true
same_numbers [] (y ∷ ys) = false
same_numbers (x ∷ xs) [] = false
same_numbers (x ∷ xs) (y ∷ ys) = eqb x y && same_numbers xs ys

pub same_numbers_lem : (xs : List ℕ) → same_numbers xs xs ≡ true
same_numbers_lem [] = refl
same_numbers_lem (x ∷ xs) = rw (eq-eqb x x refl) (same_numbers_lem xs)

abbrev pub all : {A : Type 0} → (A → Bool) → List A → Bool
all f [] = true
all f (x ∷ xs) = f x && all f xs

pub all_true : {A : Type 0} (f : A → Bool) (xs : List A) → ((x : A) → Memᴰ x xs → f x ≡ true) → all f xs ≡ true
all_true f [] h = refl
all_true f (x ∷ xs) h = rw (h x (Memᴰ.head refl)) (all_true f xs (λ y i. h y (Memᴰ.tail i)))

-- the lists of each element, one behind the other
abbrev pub gathered : {A B : Type 0} → (A → List B) → List A → List B
gathered f [] = []
gathered f (c ∷ cs) = f c ++ gathered f cs

pub gathered_in : {A B : Type 0} (f : A → List B) (cs : List A) (c : A) (o : B) → Memᴰ c cs → Memᴰ o (f c) → Memᴰ o (gathered f cs)
gathered_in f [] c o i j = absurd (Memᴰ.not-nil i)
gathered_in f (d ∷ ds) c o i j = pick (Memᴰ.cases_cons i) (λ k. gathered_in f ds c o k j)
  where
    pick : (c ≡ d) ⊎ Memᴰ c ds → (Memᴰ c ds → Memᴰ o (gathered f ds)) → Memᴰ o (f d ++ gathered f ds)
    pick (inl e) rec = Memᴰ.append_left (gathered f ds) (subst (λ x. Memᴰ o (f x)) e j)
    pick (inr k) rec = Memᴰ.append_right (f d) (rec k)
