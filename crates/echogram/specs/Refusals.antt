-- The numbers of what refuses a clearing, a recording or a series.
--     row_number                 of a refusal
--     answer_of                  0, or that of the refusal
-- Assumes nothing.
use Rattle.std.specs.Prelude.{ℕ, Result}
use Rattle.echogram.specs.declared.refusal.RowRefusal.{RowRefusal}
use Rattle.echogram.specs.declared.refusal.RowRefusal.TheVariants.{UnevenSeries, BadRow, PastRow, SumTooLarge}
use Rattle.echogram.specs.Outcomes.{outcome_number}

abbrev pub row_number : RowRefusal → ℕ
row_number UnevenSeries = 2
row_number BadRow = 13
row_number PastRow = 14
row_number SumTooLarge = 15

abbrev pub answer_of : {A : Type 0} → Result A RowRefusal → ℕ
answer_of = outcome_number row_number
