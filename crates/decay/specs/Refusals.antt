-- The numbers of what refuses a row that is measured, or the buffer of its curve.
--     decay_number               of a refusal
--     answer_of                  0, or that of the refusal
-- Assumes nothing.
use Rattle.std.specs.Prelude.{ℕ, Result}
use Rattle.echogram.specs.Outcomes.{outcome_number}
use Rattle.decay.specs.declared.refusal.DecayRefusal.{DecayRefusal}
use Rattle.decay.specs.declared.refusal.DecayRefusal.TheVariants.{BadRow, SumTooLarge, SilentRow, ShortBuffer}

abbrev pub decay_number : DecayRefusal → ℕ
decay_number BadRow = 13
decay_number SumTooLarge = 15
decay_number SilentRow = 17
decay_number ShortBuffer = 19

abbrev pub answer_of : {A : Type 0} → Result A DecayRefusal → ℕ
answer_of = outcome_number decay_number
