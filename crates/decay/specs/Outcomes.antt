-- What is handed back for an outcome.
--     measured_of                what was measured; refused, the number and 0
-- Assumes nothing.
use Rattle.std.specs.Prelude.{ℕ, Result, Ok, Err}
use Rattle.decay.specs.declared.Measured.{Measured}
use Rattle.decay.specs.declared.refusal.DecayRefusal.{DecayRefusal}
use Rattle.decay.specs.Refusals.{decay_number}

abbrev pub measured_of : Result ℕ DecayRefusal → Measured
measured_of (Ok value) = record { number = 0; value = value }
measured_of (Err refusal) = record { number = decay_number refusal; value = 0 }
