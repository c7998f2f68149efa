-- The levels of all slots, one after the other from the end: a level stays while the ratio does.
--     next_flat              below that it stays
--     ratio_most             no ratio is above 1,024
--     level_at               it is the level of the slot
--     along_none             before the last slot
--     more_fits              with one slot more, what is left is still at most the sum
--     along_more             one more
--     along_all              after the first
-- Assumes nothing.
use Rattle.std.specs.Prelude.{◌≡◌, refl, List, ◌++◌, ℕ, suc, ◌+◌, ◌-◌, ◌*◌, ◌/◌, ◌≤◌, ◌<◌, length, get_or, set, take, drop}
use Rattle.std.proofs.Common.{sym, ap, ◌∙◌, div-mul-le_self, arith, take-append-drop, length-set}
use Rattle.std.proofs.Math.Nat.{div-eq_of_lt-le, div-le_of_le-mul}
use Rattle.laws.specs.Lists.{words_from}
use Rattle.laws.specs.Storing.{words_before}
use Rattle.echogram.specs.Row.{sum_of}
use Rattle.decay.specs.Decay.{rest, ratio, level_of, level}
use Rattle.decay.proofs.Rest.{rest_all, rest_past, rest_next, rest_in_sum}
use Rattle.decay.specs.declared.curve.Flat.{Flat}
use Rattle.decay.specs.Curves.{flat_at, Along}

flat_kept : (a b sum : ℕ) → a ≤ b → b < (flat_at a sum).next → flat_at a sum ≡ flat_at b sum
flat_kept a b sum up below =
    let same : b / sum ≡ a / sum = div-eq_of_lt-le sum (omega (arith, div-mul-le_self a sum)) below in
    ap (λ q. record { next = (q + 1) * sum; level = level_of q }) (sym same)

-- the flat that the loop goes on with where the ratio stays
pub next_flat : (a b sum : ℕ) {flat : Flat} → flat ≡ flat_at a sum → a ≤ b → b < flat.next → flat ≡ flat_at b sum
next_flat a b sum e up below = e ∙ flat_kept a b sum up (omega (arith, ap (λ (s : Flat). s.next) e))

pub ratio_most : (scaled sum : ℕ) → scaled ≤ 1024 * sum → scaled / sum ≤ 1024
ratio_most scaled sum h = div-le_of_le-mul sum (omega arith)

pub level_at : (row : List ℕ) (k scaled sum : ℕ) → scaled ≡ 1024 * rest row k → sum ≡ sum_of row → level_of (scaled / sum) ≡ level row k
unfolding level ratio
level_at row k scaled sum s e = (λ i. level_of (s i / (e ∙ sym (rest_all row)) i))

pub along_none : (row levels₀ : List ℕ) (sum : ℕ) (flat : Flat) → flat ≡ flat_at 0 sum → Along row levels₀ sum (length row) 0 flat levels₀
unfolding words_from
along_none row levels₀ sum flat e = record {
  in_row = omega arith;
  size = refl;
  left = omega (arith, rest_past row (length row) (omega arith));
  at = e;
  written =
      let n = length row in
      let z : 0 ≡ n - n = omega arith in
      sym (take-append-drop n levels₀) ∙ ap (λ m. take n levels₀ ++ (words_from (level row) n m ++ drop n levels₀)) z;
}

module _ (row levels₀ : List ℕ) (sum : ℕ) (whole : sum ≡ sum_of row) where
  left_more : (k : ℕ) → 1 ≤ k → k ≤ length row → 1024 * rest row k + 1024 * get_or row (k - 1) 0 ≡ 1024 * rest row (k - 1)
  left_more k some inside =
      let up : suc (k - 1) ≡ k = omega arith in
      omega (arith, rest_next row (k - 1) (omega arith), ap (rest row) up)

  pub more_fits : {k scaled : ℕ} {flat : Flat} {levels : List ℕ} → Along row levels₀ sum k scaled flat levels → 1 ≤ k
      → scaled + 1024 * get_or row (k - 1) 0 ≤ 1024 * sum
  more_fits {k} a some = omega (arith, a.left, left_more k some a.in_row, rest_in_sum row (k - 1))

  pub along_more : {k scaled : ℕ} {flat : Flat} {levels : List ℕ} → Along row levels₀ sum k scaled flat levels → 1 ≤ k → length row ≤ length levels₀
      → (more : ℕ) → more ≡ scaled + 1024 * get_or row (k - 1) 0 → (next : Flat) → next ≡ flat_at more sum
      → Along row levels₀ sum (k - 1) more next (set levels (k - 1) next.level)
  along_more {k} {scaled} {flat} {levels} a some room more m next n = record {
    in_row = omega (arith, a.in_row);
    size = length-set levels (k - 1) next.level ∙ a.size;
    left = left;
    at = n;
    written =
        ap (set levels (k - 1)) (ap (λ (s : Flat). s.level) n ∙ level_at row (k - 1) more sum left whole)
        ∙ ap (λ (u : List ℕ). set u (k - 1) (level row (k - 1))) (a.written ∙ ap (filled (length row)) (sym up))
        ∙ words_before (level row) (k - 1) (length row - suc (k - 1)) levels₀ (drop (length row) levels₀) (omega (arith, a.in_row))
        ∙ (let e : suc (length row - suc (k - 1)) ≡ length row - (k - 1) = omega (arith, a.in_row) in
        ap (λ i. take (k - 1) levels₀ ++ (words_from (level row) (k - 1) i ++ drop (length row) levels₀)) e);
  }
    where
      up : suc (k - 1) ≡ k
      up = omega arith

      left : more ≡ 1024 * rest row (k - 1)
      left = omega (arith, a.left, left_more k some a.in_row)

      filled : ℕ → ℕ → List ℕ
      filled n j = take j levels₀ ++ (words_from (level row) j (n - j) ++ drop n levels₀)

  pub along_all : {k scaled : ℕ} {flat : Flat} {levels : List ℕ} → Along row levels₀ sum k scaled flat levels → k ≡ 0
      → levels ≡ words_from (level row) 0 (length row) ++ drop (length row) levels₀
  along_all {k} a z =
      a.written
      ∙ ap (λ j. take j levels₀ ++ (words_from (level row) j (length row - j) ++ drop (length row) levels₀)) z
      ∙ (let e : length row - 0 ≡ length row = omega arith in ap (λ i. words_from (level row) 0 i ++ drop (length row) levels₀) e)
