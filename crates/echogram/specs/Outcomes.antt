-- What is answered for an outcome.
--     outcome_number             0, or the number of the refusal
-- Assumes nothing.
use Rattle.std.specs.Prelude.{ℕ, Result, Ok, Err}

abbrev pub outcome_number : {A E : Type 0} → (E → ℕ) → Result A E → ℕ
outcome_number number_of (Ok _) = 0
outcome_number number_of (Err refusal) = number_of refusal
