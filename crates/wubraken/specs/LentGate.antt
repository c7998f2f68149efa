-- Refusals 1 to 4 of a call on lent memory, the flag computed by a look at every field, or a narrow one. Assumes nothing.
use Rattle.std.specs.Prelude.{◌≡◌, List, Bool, true, cond, ℕ, ◌<◌, ◌≤◌, length}
use Rattle.arrival.specs.declared.Shape.{Shape}
use Rattle.calendar.specs.facts.RangeFacts.{Limits, WordRanges}
use Rattle.words.specs.Laid.{Laid}
use Rattle.admission.specs.Gate.{gate_of, sound_of}
use Rattle.admission.specs.NarrowGate.{near_of}

-- of n records, where `ok` says that those looked at are in range; the flag by a look at all words, or at the three first
abbrev pub flag_of : Bool → Shape → List ℕ → ℕ → Bool → Bool
flag_of whole sh s n ok = cond whole (sound_of sh s n ok) (near_of sh s n ok)

unfoldable pub gate_on : Bool → Shape → List ℕ → ℕ → ℕ → Bool → ℕ
gate_on whole sh s i n ok = gate_of sh (length s) n i (flag_of whole sh s n ok)

-- what no refusal tells
pub record Passed (sh : Shape) (s : List ℕ) (i n : ℕ) (ok : Bool) : Type 0 where
  pub limits : Limits sh
  pub laid : Laid sh s
  pub words : WordRanges sh s
  pub table : sh.workers ≤ n
  pub records : ok ≡ true
  pub worker : i < sh.workers
