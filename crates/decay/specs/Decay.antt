-- How an echogram decays: early decay, T20 and levels, what refuses them, and the curve, in the words and the order of Q-5.
--     rest                                   R(k): what is left from slot k on
--     first                                  the first slot that a test holds of
--     early_fallen, early_decay                early decay
--     square_fallen, t20                      T20
--     ratio                                  r: how much of the whole is left, of 1,024 parts
--     log_of                                  L(r)
--     none, level_of, level                   how far a slot lies below the start, in tenths of a decibel
--     too_large_sum, silent                    15: the sum above 2^32 − 1; 17: every slot is zero. (13 is `slots_outside` of a row.)
--     decay_tests, decay_refusal               the refusals in their order; the number, or 0
--     measured                               what is handed back: the refusal, or what was measured
--     curve_tests, curve_refusal, curve        the levels of all slots in a lent buffer
-- Assumes nothing.
use Rattle.std.specs.Prelude.{List, [], ◌∷◌, ◌++◌, Bool, cond, ℕ, ◌-◌, ◌*◌, ◌/◌, ◌^◌, eqb, leb, ltb, length, get_or, drop}
use Rattle.laws.specs.Counting.{every}
use Rattle.laws.specs.FirstOf.{first_of}
use Rattle.laws.specs.Lists.{words_from}
use Rattle.laws.specs.Searching.{first_below, last_up_to}
use Rattle.echogram.specs.Row.{slots_outside, sum_of, most}
use Rattle.decay.specs.declared.Measured.{Measured}

-- R(k): what slot k and all behind it add up to; past the last slot there is none, and the sum is 0
unfoldable pub rest : List ℕ → ℕ → ℕ
rest row k = sum_of (drop k row)

-- the first k with a test; past the last slot, where nothing is left, each of the tests below holds
abbrev pub first : List ℕ → (ℕ → Bool) → ℕ
first row test = first_below (length row) test

-- 10 × R(k) ≤ R(0)
abbrev pub early_fallen : List ℕ → ℕ → Bool
early_fallen row k = leb (10 * rest row k) (rest row 0)

unfoldable pub early_decay : List ℕ → ℕ
early_decay row = 6 * first row (early_fallen row)

-- c × R(k)² ≤ R(0)²
abbrev pub square_fallen : ℕ → List ℕ → ℕ → Bool
square_fallen c row k = leb (c * (rest row k * rest row k)) (rest row 0 * rest row 0)

unfoldable pub t20 : List ℕ → ℕ
t20 row = 3 * (first row (square_fallen 100000 row) - first row (square_fallen 10 row))

-- r = 1,024 × R(k) / R(0), rounded down
unfoldable pub ratio : List ℕ → ℕ → ℕ
ratio row k = 1024 * rest row k / rest row 0

-- L(r): the largest v for which 10^v is at most r^100. A ratio is below 10^4, so none is above 400.
unfoldable pub log_of : ℕ → ℕ
log_of r = last_up_to 400 (λ v. leb (10 ^ v) (r ^ 100))

-- the mark of a slot without a level, which no level is
abbrev pub none : ℕ
none = 65535

unfoldable pub level_of : ℕ → ℕ
level_of r = cond (eqb r 0) none (log_of 1024 - log_of r)

-- the level of slot k, in tenths of a decibel; any k
unfoldable pub level : List ℕ → ℕ → ℕ
level row k = level_of (ratio row k)

-- ── refusals ──
abbrev pub too_large_sum : List ℕ → Bool
too_large_sum row = ltb most (sum_of row)

abbrev pub silent : List ℕ → Bool
silent row = every (length row) (λ k. eqb (get_or row k 0) 0)

abbrev pub decay_tests : List ℕ → List (ℕ × Bool)
decay_tests row = (13, slots_outside (length row)) ∷ (15, too_large_sum row) ∷ (17, silent row) ∷ []

-- 0, or the number of the refusal
unfoldable pub decay_refusal : List ℕ → ℕ
decay_refusal row = first_of (decay_tests row)

-- refused, the value is 0
abbrev pub measured : ℕ → ℕ → Measured
measured refusal value = record { number = refusal; value = cond (eqb refusal 0) value 0 }

-- ── the curve ──
-- 19: the buffer has fewer places than the row has slots
abbrev pub curve_tests : List ℕ → List ℕ → List (ℕ × Bool)
curve_tests row levels = decay_tests row ++ ((19, ltb (length levels) (length row)) ∷ [])

unfoldable pub curve_refusal : List ℕ → List ℕ → ℕ
curve_refusal row levels = first_of (curve_tests row levels)

-- the level of each slot, and what stands behind them as it was; refused, all is as it was
unfoldable pub curve : List ℕ → List ℕ → List ℕ
curve row levels =
    cond (eqb (curve_refusal row levels) 0) (words_from (level row) 0 (length row) ++ drop (length row) levels) levels
