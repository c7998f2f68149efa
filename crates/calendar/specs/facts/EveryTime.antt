-- Since Q-1 no operation answers 6, and every time of 32 bits is accepted.
--     at                        so puts that differ in nothing but such times are refused alike, narrow ones too
-- Assumes nothing.
use Rattle.std.specs.Prelude.{ℕ}
use Rattle.arrival.specs.declared.Arrival.{Arrival}

-- an arrival at another time
abbrev pub at : ℕ → Arrival → Arrival
at time a = record { time = time; path = a.path; order = a.order; distance = a.distance }
