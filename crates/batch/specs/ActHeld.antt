-- A start or turn of a record that is held, as the code has it, is a round of the definition. Assumes nothing.
--     held_act, sound_after             what `Known::act` leaves, and of the flag: refused by 1 to 4, and all stays; or what the action gives
--     place_of                         where the code looks for the worker's record, by its test
use Rattle.std.specs.Prelude.{List, Bool, cond, not, ℕ, eqb, ltb}
use Rattle.arrival.specs.declared.Shape.{Shape}
use Rattle.arrival.specs.declared.Worker.{Worker}
use Rattle.arrival.specs.declared.Action.{Action}
use Rattle.calendar.specs.rules.Operations.{actor}
use Rattle.words.specs.Done.{Done, unless_refused}
use Rattle.operation.specs.LocalAct.{local_act}
use Rattle.operation.specs.Leaks.{action_leaks}
use Rattle.batch.specs.Tickets.{low_for}

-- what an action leaves, to which the gate answers k
abbrev pub held_act : ℕ → Shape → Action → Worker → List ℕ → List ℕ → Done
held_act k sh a w ts s = unless_refused k s w (local_act sh (low_for a ts sh.workers) s a w)

-- the flag past it
abbrev pub sound_after : ℕ → Shape → Bool → Action → Worker → List ℕ → Bool
sound_after k sh sound a w s = cond (eqb k 0) (not (action_leaks sh s a w)) sound

-- ── the record's place ──
abbrev pub place_of : Action → ℕ
place_of a = cond (ltb (actor a) 64) (actor a) 63
