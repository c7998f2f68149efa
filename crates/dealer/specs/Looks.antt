-- The look before a turn.
--     is_whole                         at the whole of the lent memory
--     flag_of                          the flag for refusal 3 before the first turn
-- Assumes nothing.
use Rattle.std.specs.Prelude.{List, Bool, true, false, cond, ℕ}
use Rattle.arrival.specs.declared.Shape.{Shape}
use Rattle.admission.specs.Gate.{sound_of}
use Rattle.admission.specs.NarrowGate.{near_of}
use Rattle.dealer.specs.declared.asks.Look.{Look}
use Rattle.dealer.specs.declared.asks.Look.TheVariants.{Whole, Narrow}

abbrev pub is_whole : Look → Bool
is_whole Whole = true
is_whole Narrow = false

-- by a look at everything, where `ok` says whether the records are in range, or at the three first words
unfoldable pub flag_of : Bool → Shape → List ℕ → ℕ → Bool → Bool
flag_of whole sh s n ok = cond whole (sound_of sh s n ok) (near_of sh s n true)
