-- Several turns of one record: narrow turns behind a start or turn, while the call goes on.
--     local_turn, local_turns           one narrow turn of a record; at most n of them behind what was done
--     Going                           what is known where a call goes on: only `right` and `seen` can be out of range
-- Assumes nothing.
use Rattle.std.specs.Prelude.{◌≡◌, ◌&&◌}
use mathlib.Core.List.{List}
use Rattle.std.proofs.Math.Bool.{cond}
use Prim.Native.Nat.{ℕ, zero, suc}
use Rattle.arrival.specs.declared.Shape.{Shape}
use Rattle.arrival.specs.declared.Worker.{Worker}
use Rattle.arrival.specs.declared.Action.TheVariants.{Step}
use Rattle.calendar.specs.rules.Ranges.{words_in_range, record_in_range}
use Rattle.calendar.specs.rules.NarrowCalls.{goes_on}
use Rattle.calendar.specs.facts.RangeFacts.{WordRanges}
use Rattle.calendar.specs.facts.RecordsKept.{links_in_range}
use Rattle.words.specs.Done.{Done, refused}
use Rattle.operation.specs.LocalAct.{local_act}

unfoldable pub local_turn : Shape → List ℕ → Worker → Done
local_turn sh s w = cond (words_in_range sh s && record_in_range sh w) (local_act sh 0 s (Step 0) w) (refused s w 3)

unfoldable pub local_turns : Shape → ℕ → Done → Done
local_turns sh zero d = d
local_turns sh (suc n) d = cond (goes_on d.response) (local_turns sh n (local_turn sh d.store d.worker)) d

-- what is known of store and record where a call goes on
pub record Going (sh : Shape) (s : List ℕ) (w : Worker) : Type 0 where
  pub words : WordRanges sh s
  pub tests : record_in_range sh w ≡ links_in_range sh w
