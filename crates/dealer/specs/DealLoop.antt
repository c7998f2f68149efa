-- The loop over dealt turns: what is still to be dealt gives what the whole run gives.
--     ok_of                            what the look over the records finds
--     running                         after some turns, all of which went on
-- Assumes nothing.
use Rattle.std.specs.Prelude.{List, Bool, is_ok}
use Prim.Native.Nat.{ℕ}
use Rattle.arrival.specs.declared.Shape.{Shape}
use Rattle.arrival.specs.declared.Worker.{Worker}
use Rattle.arrival.specs.declared.Response.TheVariants.{On}
use Rattle.calendar.specs.rules.Operations.{Memory}
use Rattle.wubraken.specs.Survey.{survey}
use Rattle.dealer.specs.Dealing.{Deal, turn_of}

-- what the look over the records finds
abbrev pub ok_of : Bool → Shape → List Worker → Bool
ok_of whole sh t = is_ok (survey sh (turn_of whole 0) t)

-- ── one turn of a run ──
abbrev pub running : Memory → ℕ → ℕ → Deal
running m last made = record { memory = m; dealer = last; turns = made; response = On }
