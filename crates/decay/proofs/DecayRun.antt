-- Rows by hand: which slots are the first, levels at their borders, what refuses a row, and curves.
--     left                       what is left of a row of four, slot by slot and past its end
--     crossings                  early decay and T20: of one slot, of equality at a tenth, one less than it, of the squares
--     logs                       L(r) at the powers of ten and beside them
--     levels                     levels of ratios at their borders; none where the ratio is 0, and past the end
--     refused                    of several refusals the lowest
--     curves                     all levels at once, in a buffer that has places to spare; and in one that is too short
-- Assumes nothing.
use Rattle.std.specs.Prelude.{◌≡◌, refl, List, [], ◌∷◌, true, false, ℕ, ◌-◌}
use Rattle.echogram.specs.Row.{slots_outside, sum_of}
use Rattle.laws.specs.Counting.{every}
use Rattle.laws.specs.Lists.{words_from}
use Rattle.decay.specs.declared.Measured.{Measured}
use Rattle.decay.specs.Decay.{rest, early_decay, t20, ratio, log_of, none, level_of, level, silent, decay_refusal, measured, curve_refusal, curve}

-- 1,000 in all, of which 100, 10 and 1 are left
four : List ℕ
four = 900 ∷ 90 ∷ 9 ∷ 1 ∷ []

left : words_from (rest four) 0 6 ≡ 1000 ∷ 100 ∷ 10 ∷ 1 ∷ 0 ∷ 0 ∷ []
unfolding four words_from rest sum_of
left = refl

-- two slots, the first x, the second y
pair : ℕ → ℕ → List ℕ
pair x y = x ∷ y ∷ []

-- Of one slot all is over behind it, and both crossings of T20 are there. A tenth may be left, and no more. √10 is between 3.16 and 3.17, √100,000 between
-- 316 and 317.
crossings :
    (early_decay (7 ∷ []) ≡ 6)
    × (t20 (7 ∷ []) ≡ 0)
    × (early_decay four ≡ 6)
    × (t20 four ≡ 6)
    × (early_decay (pair 9 1) ≡ 6)
    × (early_decay (pair 8 1) ≡ 12)
    × (early_decay (pair 216 100) ≡ 12)
    × (t20 (pair 216 100) ≡ 0)
    × (t20 (pair 217 100) ≡ 3)
    × (t20 (pair 315 1) ≡ 3)
    × (t20 (pair 316 1) ≡ 0)
    × (early_decay (0 ∷ 0 ∷ 5 ∷ 0 ∷ []) ≡ 18)
    × (t20 (0 ∷ 0 ∷ 5 ∷ 0 ∷ []) ≡ 0)
unfolding four pair early_decay t20 rest sum_of
crossings = (refl, refl, refl, refl, refl, refl, refl, refl, refl, refl, refl, refl, refl)

-- 9^100 has 96 digits, 10^100 one more than a hundred, 11^100 has 105
pub logs :
    (log_of 1 ≡ 0)
    × (log_of 9 ≡ 95)
    × (log_of 10 ≡ 100)
    × (log_of 11 ≡ 104)
    × (log_of 99 ≡ 199)
    × (log_of 100 ≡ 200)
    × (log_of 999 ≡ 299)
    × (log_of 1000 ≡ 300)
    × (log_of 1023 ≡ 300)
    × (log_of 1024 ≡ 301)
unfolding log_of
logs = (refl, refl, refl, refl, refl, refl, refl, refl, refl, refl)

-- in the pair the second slot has x of 1,024 parts
parts : ℕ → List ℕ
parts x = (1024 - x) ∷ x ∷ []

levels :
    (level (parts 10) 0 ≡ 0)
    × (level (parts 1000) 1 ≡ 1)
    × (level (parts 999) 1 ≡ 2)
    × (level (parts 100) 1 ≡ 101)
    × (level (parts 10) 1 ≡ 201)
    × (level (parts 9) 1 ≡ 206)
    × (level (parts 1) 1 ≡ 301)
    × (level (parts 0) 1 ≡ none)
    × (ratio (pair 1024 1) 1 ≡ 0)
    × (level (pair 1024 1) 1 ≡ none)
    × (ratio (pair 1023 1) 1 ≡ 1)
    × (level four 4 ≡ none)
    × (level four 18446744073709551615 ≡ none)
unfolding four pair parts log_of level_of level ratio rest sum_of
levels = (refl, refl, refl, refl, refl, refl, refl, refl, refl, refl, refl, refl, refl)

refused :
    (decay_refusal [] ≡ 13)
    × (silent [] ≡ true)
    × (decay_refusal (pair 0 0) ≡ 17)
    × (decay_refusal (pair 0 1) ≡ 0)
    × (decay_refusal (pair 4294967295 0) ≡ 0)
    × (decay_refusal (pair 4294967295 1) ≡ 15)
    × (slots_outside 16384 ≡ false)
    × (slots_outside 16385 ≡ true)
    × (curve_refusal [] [] ≡ 13)
    × (curve_refusal (pair 4294967295 1) [] ≡ 15)
    × (curve_refusal (pair 0 0) (5 ∷ []) ≡ 17)
    × (curve_refusal (pair 0 1) (5 ∷ []) ≡ 19)
    × (curve_refusal (pair 0 1) (pair 5 5) ≡ 0)
    × ◌≡◌ {A = Measured} (measured 17 5) (record { number = 17; value = 0 })
    × ◌≡◌ {A = Measured} (measured 0 5) (record { number = 0; value = 5 })
unfolding pair every sum_of decay_refusal curve_refusal
refused = (refl, refl, refl, refl, refl, refl, refl, refl, refl, refl, refl, refl, refl, refl, refl)

curves :
    (curve four (8 ∷ 8 ∷ 8 ∷ 8 ∷ 8 ∷ 9 ∷ []) ≡ 0 ∷ 101 ∷ 201 ∷ 301 ∷ 8 ∷ 9 ∷ [])
    × (curve four (8 ∷ 8 ∷ 9 ∷ []) ≡ 8 ∷ 8 ∷ 9 ∷ [])
    × (curve (pair 8 1) (8 ∷ 9 ∷ []) ≡ 0 ∷ 96 ∷ [])
    × (curve (pair 216 100) (8 ∷ 9 ∷ []) ≡ 0 ∷ 50 ∷ [])
    × (curve (pair 217 100) (8 ∷ 9 ∷ []) ≡ 0 ∷ 51 ∷ [])
    × (curve (0 ∷ 0 ∷ 5 ∷ 0 ∷ []) (8 ∷ 8 ∷ 8 ∷ 9 ∷ []) ≡ 0 ∷ 0 ∷ 0 ∷ none ∷ [])
    × (curve (pair 1024 1) (8 ∷ 9 ∷ []) ≡ 0 ∷ none ∷ [])
    × (curve (pair 0 0) (8 ∷ 9 ∷ []) ≡ 8 ∷ 9 ∷ [])
unfolding four pair every words_from sum_of log_of level_of level ratio rest decay_refusal curve_refusal curve
curves = (refl, refl, refl, refl, refl, refl, refl, refl)
