-- Recordings by hand: limits, borders of slots, sums at the border of 2^32, and a sequence with refused ones in it.
--     limits                     which rows and slot lengths are outside
--     slots                      the borders of slots of 10 samples, in a row of three
--     full                       a row with nothing, with 1 and with too much in it besides 2^32 − 2
--     first_reason               of several refusals the lowest
--     five                       five recordings on a cleared row, two of them refused
-- Assumes nothing.
use Rattle.std.specs.Prelude.{◌≡◌, refl, List, [], ◌∷◌, true, false, ℕ}
use Rattle.laws.specs.Counting.{sum}
use Rattle.laws.specs.Lists.{words_from}
use Rattle.echogram.specs.Row.{Recording, outside, sum_of, record_answer, recorded, clear_answer, cleared, row_after, answer_at, energy_at}
use Rattle.echogram.specs.Series.{recording, in_series, series_refusal, SeriesEnd, series}

limits :
    (outside 1 1 ≡ false)
    × (outside 1 0 ≡ true)
    × (outside 4800 16384 ≡ false)
    × (outside 4800 16385 ≡ true)
    × (outside 0 16384 ≡ true)
    × (outside 4801 16384 ≡ true)
    × (outside 9223372036854775808 1 ≡ true)
limits = (refl, refl, refl, refl, refl, refl, refl)

three : List ℕ
three = 1 ∷ 2 ∷ 3 ∷ []

slots :
    (recorded three (recording 10 0 5) ≡ 6 ∷ 2 ∷ 3 ∷ [])
    × (recorded three (recording 10 9 5) ≡ 6 ∷ 2 ∷ 3 ∷ [])
    × (recorded three (recording 10 10 5) ≡ 1 ∷ 7 ∷ 3 ∷ [])
    × (recorded three (recording 10 29 5) ≡ 1 ∷ 2 ∷ 8 ∷ [])
    × (record_answer three (recording 10 29 5) ≡ 0)
    × (record_answer three (recording 10 30 5) ≡ 14)
    × (recorded three (recording 10 30 5) ≡ three)
    × (record_answer three (recording 10 4294967295 5) ≡ 14)
    × (recorded three (recording 10 29 4294967289) ≡ 1 ∷ 2 ∷ 4294967292 ∷ [])
    × (record_answer three (recording 10 29 4294967290) ≡ 15)
    × (recorded three (recording 10 29 4294967290) ≡ three)
    × (record_answer three (recording 0 0 5) ≡ 13)
    × (recorded three (recording 0 0 5) ≡ three)
unfolding three recorded record_answer sum_of
slots = (refl, refl, refl, refl, refl, refl, refl, refl, refl, refl, refl, refl, refl)

-- 2^32 − 2 in the first slot, x in the second
with : ℕ → List ℕ
with x = 4294967294 ∷ x ∷ []

full :
    (record_answer (with 0) (recording 10 10 1) ≡ 0)
    × (record_answer (with 0) (recording 10 10 2) ≡ 15)
    × (record_answer (with 0) (recording 10 0 2) ≡ 15)
    × (record_answer (with 1) (recording 10 10 0) ≡ 0)
    × (record_answer (with 1) (recording 10 10 1) ≡ 15)
    × (record_answer (with 2) (recording 10 10 0) ≡ 15)
    × (recorded (with 2) (recording 10 10 0) ≡ with 2)
unfolding with recorded record_answer sum_of
full = (refl, refl, refl, refl, refl, refl, refl)

first_reason :
    (record_answer (with 2) (recording 0 20 1) ≡ 13)
    × (record_answer (with 2) (recording 10 20 1) ≡ 14)
    × (record_answer [] (recording 10 0 1) ≡ 13)
    × (clear_answer 10 [] ≡ 13)
    × (series_refusal 0 (5 ∷ []) [] [] (with 2) ≡ 2)
    × (series_refusal 0 (5 ∷ []) (1 ∷ []) (9 ∷ []) (with 2) ≡ 13)
unfolding with record_answer sum_of clear_answer series_refusal
first_reason = (refl, refl, refl, refl, refl, refl)

-- times and energies; the second is past the row, the fourth too large
times : List ℕ
times = 10 ∷ 30 ∷ 25 ∷ 25 ∷ 29 ∷ []

energies : List ℕ
energies = 5 ∷ 6 ∷ 7 ∷ 4294967290 ∷ 3 ∷ []

abbrev nth : ℕ → Recording
nth = in_series 10 times energies

five :
    (cleared 10 three ≡ 0 ∷ 0 ∷ 0 ∷ [])
    × (row_after (cleared 10 three) nth 5 ≡ 0 ∷ 5 ∷ 10 ∷ [])
    × (words_from (answer_at (cleared 10 three) nth) 0 5 ≡ 0 ∷ 14 ∷ 0 ∷ 15 ∷ 0 ∷ [])
    × (sum_of (row_after (cleared 10 three) nth 5) ≡ 15)
    × (sum (energy_at (cleared 10 three) nth) 5 ≡ 15)
    × ◌≡◌ {A = SeriesEnd} (series 10 times energies (9 ∷ 9 ∷ 9 ∷ 9 ∷ 9 ∷ []) (cleared 10 three))
    (record { answer = 0; answers = 0 ∷ 14 ∷ 0 ∷ 15 ∷ 0 ∷ []; row = 0 ∷ 5 ∷ 10 ∷ [] })
unfolding three times energies recorded record_answer sum_of clear_answer cleared words_from series_refusal series
five = (refl, refl, refl, refl, refl, refl)
