-- How the crossings are found: by squares that 64 bits hold, slot by slot, with what is left.
--     square_limit, early_limit              the tests of T20 and of early decay are such tests
--     early_is, t20_is                       so both are found by such tests
--     square_fits                            the square of the sum has 64 bits
--     slot_is                                 a slot and what is left there; the slot of such a point
--     from_start                             so from the start,
--     lower_limit, slots_rise                and, since a lower limit is passed no earlier,
--     from_higher                            from where a higher one was passed
--     left_most, slot_in_left                what is left has 32 bits, and no slot is above it
--     one_more                               one slot more that does not pass
--     fallen                                 what the search has found
-- Assumes nothing.
use Rattle.std.specs.Prelude.{◌≡◌, refl, List, Bool, false, ℕ, suc, ◌+◌, ◌-◌, ◌*◌, ◌/◌, ◌≤◌, ◌<◌, leb, length, get_or}
use Rattle.std.proofs.Common.{sym, ◌∙◌, le-div_iff_mul-le, div-mul-le_self, mul-le-mul, mul-le-mul_left, arith, leb-true, leb-false, le-leb}
use Rattle.std.proofs.Math.Path.{ap, subst⁻¹}
use Rattle.std.proofs.lemmas.Bool.{lt-leb}
use Rattle.laws.specs.Tests.{by_size}
use Rattle.laws.proofs.Searching.{first_most, first_not_before, first_is, first_same, first_wider}
use Rattle.echogram.specs.Row.{sum_of, most}
use Rattle.decay.specs.Decay.{rest, first, early_fallen, early_decay, square_fallen, t20}
use Rattle.decay.proofs.Rest.{rest_all, rest_next, rest_in_sum}
use Rattle.decay.specs.declared.crossings.Point.{Point}
use Rattle.decay.specs.CrossingSearch.{square_at_most, point_at, Before}

-- two tests that hold together
alike : (a b c d : ℕ) → (a ≤ b → c ≤ d) → (c ≤ d → a ≤ b) → leb a b ≡ leb c d
alike a b c d to from =
    by_size b a (λ l. lt-leb a b l ∙ sym (by_size d c (λ m. lt-leb c d m) (λ m. absurd (omega (arith, from m)))))
    (λ l. le-leb a b l ∙ sym (le-leb c d (to l)))

pub square_limit : (c : ℕ) (row : List ℕ) → 1 ≤ c → (k : ℕ) → square_fallen c row k ≡ square_at_most row (rest row 0 * rest row 0 / c) k
square_limit c row some k =
    let x = rest row k * rest row k in
    let n = rest row 0 * rest row 0 in
    alike (c * x) n x (n / c) (λ h. (le-div_iff_mul-le some).1 (omega arith)) (λ h. omega (arith, (le-div_iff_mul-le {k = c} {x = x} {y = n} some).0 h))

-- 10 × R(k) ≤ R(0) where 100 × R(k)² ≤ R(0)²
early_square : (x n : ℕ) → leb (10 * x) n ≡ leb (100 * (x * x)) (n * n)
early_square x n =
    alike (10 * x) n (100 * (x * x)) (n * n) (λ h. omega (arith, mul-le-mul h h))
    (λ h. by_size n (10 * x) (λ l. absurd (let up : n + 1 ≤ 10 * x = omega arith in omega (arith, mul-le-mul up up))) (λ l. l))

pub early_limit : (row : List ℕ) (k : ℕ) → early_fallen row k ≡ square_at_most row (rest row 0 * rest row 0 / 100) k
early_limit row k = early_square (rest row k) (rest row 0) ∙ square_limit 100 row (omega arith) k

module _ (row : List ℕ) (sum : ℕ) (whole : sum ≡ sum_of row) where
  square_is : sum * sum ≡ rest row 0 * rest row 0
  square_is = ap (λ x. x * x) (whole ∙ sym (rest_all row))

  first_within : (c : ℕ) → 1 ≤ c → first row (square_at_most row (sum * sum / c)) ≡ first row (square_fallen c row)
  first_within c some =
      ap (λ n. first row (square_at_most row (n / c))) square_is
      ∙ sym (first_same (length row) (square_fallen c row) (square_at_most row (rest row 0 * rest row 0 / c)) (λ k _. square_limit c row some k))

  pub early_is : 6 * first row (square_at_most row (sum * sum / 100)) ≡ early_decay row
  unfolding early_decay
  early_is =
      ap (λ n. 6 * first row (square_at_most row (n / 100))) square_is
      ∙ ap (λ k. 6 * k) (sym (first_same (length row) (early_fallen row) (square_at_most row (rest row 0 * rest row 0 / 100)) (λ k _. early_limit row k)))

  pub t20_is : 3 * (first row (square_at_most row (sum * sum / 100000)) - first row (square_at_most row (sum * sum / 10))) ≡ t20 row
  unfolding t20
  t20_is = ap (λ k. 3 * (k - first row (square_at_most row (sum * sum / 10)))) (first_within 100000 (omega arith))
      ∙ ap (λ k. 3 * (first row (square_fallen 100000 row) - k)) (first_within 10 (omega arith))

pub square_fits : (sum : ℕ) → sum ≤ most → sum * sum < 18446744073709551616
square_fits sum small = omega (arith, mul-le-mul small small)

-- the slot of such a point lies in the row, or is its end
pub slot_is : (row : List ℕ) (test : ℕ → Bool) (p : Point) → p ≡ point_at row (first row test) → (p.slot ≡ first row test) × (p.slot ≤ length row)
slot_is row test p e = let at : p.slot ≡ first row test = ap (λ (q : Point). q.slot) e in (at, omega (arith, first_most (length row) test))

pub from_start : (row : List ℕ) (sum limit : ℕ) → sum ≡ sum_of row → sum_of row ≤ most → Before row (record { slot = 0; rest = sum }) limit
from_start row sum limit e few = record { in_row = omega arith; left = e ∙ sym (rest_all row); small = few; none = λ j h. absurd (omega arith) }

-- a lower limit is passed no earlier
pub lower_limit : (n c d : ℕ) → 1 ≤ c → c ≤ d → n / d ≤ n / c
lower_limit n c d some more = (le-div_iff_mul-le some).1 (omega (arith, div-mul-le_self n d, mul-le-mul_left (n / d) more))

limits_rise : (row : List ℕ) (high low : ℕ) → low ≤ high → first row (square_at_most row high) ≤ first row (square_at_most row low)
limits_rise row high low less =
    first_wider (length row) (square_at_most row high) (square_at_most row low)
    (λ k e. le-leb (rest row k * rest row k) high (omega (arith, leb-true (rest row k * rest row k) low e)))

pub slots_rise : (row : List ℕ) (n c d : ℕ) (p q : Point)
    → p ≡ point_at row (first row (square_at_most row (n / c))) → q ≡ point_at row (first row (square_at_most row (n / d)))
    → 1 ≤ c → c ≤ d → p.slot ≤ q.slot
slots_rise row n c d p q e f some more = omega (
  arith,
  (slot_is row (square_at_most row (n / c)) p e).0,
  (slot_is row (square_at_most row (n / d)) q f).0,
  limits_rise row (n / c) (n / d) (lower_limit n c d some more),
)

pub from_higher : (row : List ℕ) (high low : ℕ) → low ≤ high → sum_of row ≤ most
    → (p : Point) → p ≡ point_at row (first row (square_at_most row high)) → Before row p low
from_higher row high low less few p e = subst⁻¹ (λ q. Before row q low) e (record {
  in_row = first_most (length row) (square_at_most row high);
  left = refl;
  small = few;
  none = λ j h.
      let above = leb-false (rest row j * rest row j) high (first_not_before (length row) (square_at_most row high) j h) in
      lt-leb (rest row j * rest row j) low (omega arith);
})

module _ {row : List ℕ} {slot left limit : ℕ} (b : Before row (record { slot = slot; rest = left }) limit) where
  pub left_most : left ≤ most
  left_most = omega (arith, b.left, b.small, rest_in_sum row slot)

  pub slot_in_left : slot < length row → get_or row slot 0 ≤ left
  slot_in_left inside = omega (arith, b.left, rest_next row slot inside)

  pub one_more : slot < length row → limit < left * left → Before row (record { slot = slot + 1; rest = left - get_or row slot 0 }) limit
  one_more inside high = record {
    in_row = omega arith;
    left = let up : suc slot ≡ slot + 1 = omega arith in omega (arith, b.left, rest_next row slot inside, ap (rest row) up);
    small = b.small;
    none = λ j h. by_size j slot (b.none j) (λ l. let same : j ≡ slot = omega arith in
        subst⁻¹ (λ i. square_at_most row limit i ≡ false) same (lt-leb (rest row slot * rest row slot) limit (rw b.left at high)));
  }

  pub fallen : (slot < length row → left * left ≤ limit)
      → ◌≡◌ {A = Point} (record { slot = slot; rest = left }) (point_at row (first row (square_at_most row limit)))
  fallen here =
      let at = first_is (length row) (square_at_most row limit) slot b.in_row
      (λ l. le-leb (rest row slot * rest row slot) limit (rw b.left at (here l))) b.none in
      (λ i. record { slot = at i; rest = (b.left ∙ ap (rest row) at) i })
