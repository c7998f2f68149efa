-- Refusals 1 to 4 of a narrow start or turn, by a flag: the three first words are in range, and `ok`, the records that it looks at.
--     near_of                         the flag; where it is up 1 and 2 do not apply
--     RecordsSeen                    what `ok` has to say
--     Near                           what a narrow action that the gate lets pass may count on
-- Assumes nothing.
use Rattle.std.specs.Prelude.{◌≡◌, List, Bool, true, false, ◌&&◌, ℕ, ◌<◌, eqb, length}
use Rattle.std.proofs.Math.Bool.{cond}
use Rattle.arrival.specs.declared.Shape.{Shape}
use Rattle.arrival.specs.declared.Action.{Action}
use Rattle.calendar.specs.rules.Ranges.{words_in_range}
use Rattle.calendar.specs.rules.Operations.{Memory, actor}
use Rattle.calendar.specs.rules.NarrowCalls.{records_in_range}
use Rattle.calendar.specs.facts.Accepted.{Lent}
use Rattle.calendar.specs.facts.RangeFacts.{WordRanges}
use Rattle.admission.specs.Gate.{open_gate}

-- down where the memory is too short to be looked at
unfoldable pub near_of : Shape → List ℕ → ℕ → Bool → Bool
near_of sh s records ok = cond (eqb (open_gate sh (length s) records) 0) (words_in_range sh s && ok) false

-- `ok` says that the records which the action looks at are in range, wherever there are enough
abbrev pub RecordsSeen : Shape → Memory → Action → Bool → Type 0
RecordsSeen sh m a ok = Lent sh m.store m.table → ok ≡ records_in_range sh m.table a

pub record Near (sh : Shape) (m : Memory) (a : Action) : Type 0 where
  pub lent : Lent sh m.store m.table
  pub words : WordRanges sh m.store
  pub records : records_in_range sh m.table a ≡ true
  pub exists : actor a < sh.workers
