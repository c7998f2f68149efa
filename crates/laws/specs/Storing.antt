-- Elements stored over others: from the front, in runs, and moved to the front of their own list.
--     store_behind                        one more element behind what is stored
--     store_next, cleared_more            the next of a list; the same value once more
--     over_taken                          one value over the front, seen in a part
--     words_none, words_more              words by their number: none yet; the next
--     words_before                        the one before, where they are stored from the end
--     last_first, next_stored             a run of stores: its last first; its next
--     behind, joined                      one run behind another; behind one that a byte ends
--     moved, none_moved, moved_more       bytes moved to the front of their own list, one by one
-- Assumes nothing.
use Rattle.std.specs.Prelude.{◌≡◌, List, [], ◌∷◌, ◌++◌, ℕ, zero, suc, ◌+◌, ◌<◌, ◌≤◌, get_or, set, take, replicate}
use Rattle.std.proofs.Math.Path.{refl, ap}
use Rattle.std.proofs.Common.{sym, ◌∙◌, add-zero, add-suc, suc-add, arith, length-append, take-suc, drop-cons, get_or-append-add, get_or-drop}
use Rattle.std.proofs.Math.Numerals.{add-one}
use Rattle.std.proofs.Math.ListN.{length, drop, length-drop}
use Rattle.std.proofs.lemmas.List.{length-replicate, replicate-append-replicate, set_comm, set_at}
use Rattle.std.proofs.lemmas.List.Edits.{sets}
use Rattle.std.proofs.Math.Seq.{append_snoc, length-take-le}
use Rattle.laws.specs.Lists.{words_from, length_words, words_suc}

-- ── from the front ──
-- p stands over the first of t; one more
pub store_behind : {A : Type 0} (p t : List A) (n : ℕ) (a : A) → length p ≡ n → n < length t
    → set (p ++ drop n t) n a ≡ p ++ (a ∷ []) ++ drop (suc n) t
store_behind p t n a size h =
    ap (λ (u : List _). set (p ++ u) n a) (drop-cons t n a h)
    ∙ set_at p (get_or t n a) (drop (suc n) t) a n size
    ∙ sym (append_snoc p a (drop (suc n) t))

-- the first of rs stand over those of ys
pub store_next : {A : Type 0} (d : A) (k : ℕ) (rs ys : List A) → k < length rs → k < length ys
    → set (take k rs ++ drop k ys) k (get_or rs k d) ≡ take (suc k) rs ++ drop (suc k) ys
store_next d k rs ys h l =
    store_behind (take k rs) ys k (get_or rs k d) (length-take-le k rs (omega arith)) l
    ∙ ap (λ (u : List _). u ++ drop (suc k) ys) (sym (take-suc rs k d h))

-- one value stands over the first
pub cleared_more : {A : Type 0} (x : A) (n : ℕ) (t : List A) → n < length t
    → set (replicate n x ++ drop n t) n x ≡ replicate (n + 1) x ++ drop (n + 1) t
cleared_more x n t h =
    rw add-one
    (store_behind (replicate n x) t n x (length-replicate n x) h
    ∙ ap (λ (u : List _). u ++ drop (suc n) t) (replicate-append-replicate n 1 x ∙ ap (λ (k : ℕ). replicate k x) (add-one n)))

pub over_taken : {A : Type 0} (x : A) (n : ℕ) (t : List A) (k : ℕ) → k ≤ n → n ≤ length t
    → take n (replicate k x ++ drop k t) ≡ replicate k x ++ drop k (take n t)
over_taken x n t zero h l = refl
over_taken x zero t (suc k) h l = absurd (omega arith)
over_taken x (suc n) [] (suc k) h l = absurd (omega arith)
over_taken x (suc n) (y ∷ t) (suc k) h l = ap (λ (u : List _). x ∷ u) (over_taken x n t k (omega arith) (omega arith))

-- word k stands at each k
pub words_none : (g : ℕ → ℕ) (d : List ℕ) → d ≡ words_from g 0 0 ++ drop 0 d
unfolding words_from
words_none g d = refl

pub words_more : (g : ℕ → ℕ) (n : ℕ) (d : List ℕ) → n < length d
    → set (words_from g 0 n ++ drop n d) n (g n) ≡ words_from g 0 (n + 1) ++ drop (n + 1) d
words_more g n d h =
    let e : n ≡ 0 + n = omega arith in
    rw add-one
    (store_behind (words_from g 0 n) d n (g n) (length_words g 0 n) h
    ∙ ap (λ (u : List ℕ). u ++ drop (suc n) d) (ap (λ (k : ℕ). words_from g 0 n ++ (g k ∷ [])) e ∙ sym (words_suc g 0 n)))

-- the one before them, where the last was stored first
pub words_before : (g : ℕ → ℕ) (k n : ℕ) (t u : List ℕ) → k < length t
    → set (take (suc k) t ++ (words_from g (suc k) n ++ u)) k (g k) ≡ take k t ++ (words_from g k (suc n) ++ u)
unfolding words_from
words_before g k n t u h =
    ap (λ (p : List ℕ). set (p ++ (words_from g (suc k) n ++ u)) k (g k)) (take-suc t k 0 h)
    ∙ ap (λ (p : List ℕ). set p k (g k)) (append_snoc (take k t) (get_or t k 0) (words_from g (suc k) n ++ u))
    ∙ set_at (take k t) (get_or t k 0) (words_from g (suc k) n ++ u) (g k) k (length-take-le k t (omega arith))

-- ── runs of stores ──
-- the last byte stored first
pub last_first : (l s : List ℕ) (at b : ℕ) → sets s at (l ++ (b ∷ [])) ≡ sets (set s (at + length l) b) at l
last_first [] s at b = rw add-zero
last_first (a ∷ l) s at b =
    last_first l (set s at a) (suc at) b
    ∙ ap (λ t. sets t (suc at) l) (set_comm s at (suc at + length l) a b (λ e. omega arith))
    ∙ rw (suc-add, ← add-suc)

-- the next byte of a word stored from its front
pub next_stored : (word s : List ℕ) (at i : ℕ) → i < length word
    → sets (set s (at + i) (get_or word i 0)) (at + (i + 1)) (drop (i + 1) word) ≡ sets s (at + i) (drop i word)
next_stored word s at i h = rw (add-one, drop-cons word i 0 h, add-suc)

-- one run behind another
pub behind : (l m s : List ℕ) (at : ℕ) → sets (sets s at l) (at + length l) m ≡ sets s at (l ++ m)
behind [] m s at = rw add-zero
behind (a ∷ l) m s at = rw (add-suc, ← suc-add) (behind l m (set s at a) (suc at))

-- a run behind one that a byte ends, where a caller stored the two one after the other
pub joined : (l m s : List ℕ) (at b n : ℕ) {t u : List ℕ} {next : ℕ} → n ≡ length l → next ≡ at + n + 1
    → t ≡ sets s at (l ++ (b ∷ [])) → u ≡ sets t next m → u ≡ sets s at (l ++ (b ∷ m))
joined l m s at b n {t} {u} {next} size place first second =
    let p : next ≡ at + length (l ++ (b ∷ [])) = omega (arith, length-append l (b ∷ [])) in
    second
    ∙ ap (λ r. sets r next m) first
    ∙ rw p (behind (l ++ (b ∷ [])) m s at)
    ∙ ap (sets s at) (append_snoc l b m)

-- ── moved to the front ──
-- the first n bytes are those from `at` on, the rest is as it was
unfoldable pub moved : ℕ → ℕ → List ℕ → List ℕ
moved at n xs = take n (drop at xs) ++ drop n xs

module _ (at : ℕ) (xs : List ℕ) where
  pub none_moved : xs ≡ moved at 0 xs
  unfolding moved
  none_moved = refl

  -- what is read has not been written over
  pub moved_more : (i : ℕ) → at + i < length xs → set (moved at i xs) i (get_or (moved at i xs) (at + i) 0) ≡ moved at (i + 1) xs
  unfolding moved
  moved_more i h =
      ap (set (take i (drop at xs) ++ drop i xs) i) value
      ∙ store_next 0 i (drop at xs) xs (omega (arith, length-drop at xs)) (omega arith)
      ∙ rw add-one
    where
      front : length (take i (drop at xs)) ≡ i
      front = length-take-le i (drop at xs) (omega (arith, length-drop at xs))

      place : at + i ≡ length (take i (drop at xs)) + at
      place = omega (arith, front)

      value : get_or (take i (drop at xs) ++ drop i xs) (at + i) 0 ≡ get_or (drop at xs) i 0
      value =
          ap (λ k. get_or (take i (drop at xs) ++ drop i xs) k 0) place
          ∙ get_or-append-add (take i (drop at xs)) (drop i xs) at 0
          ∙ get_or-drop i xs at 0
          ∙ ap (λ k. get_or xs k 0) (omega arith)
          ∙ sym (get_or-drop at xs i 0)
