-- Refusals 1 to 4 of a call on lent memory, the flag computed by a look at every field, or a narrow one. Assumes nothing.
use Rattle.std.specs.Prelude.{◌≡◌, List, Bool, true, false, ℕ, eqb, length}
use Rattle.std.proofs.Common.{ap, ◌∙◌, eq-eqb}
use Rattle.arrival.specs.declared.Shape.{Shape}
use Rattle.laws.specs.Tests.{parts}
use Rattle.calendar.specs.rules.Ranges.{words_in_range, store_in_range}
use Rattle.calendar.proofs.facts.RangeFacts.{word_ranges}
use Rattle.calendar.proofs.facts.Narrow.{words_of_store}
use Rattle.words.specs.Laid.{laid}
use Rattle.admission.specs.Gate.{gate_of, open_gate, sound_of}
use Rattle.admission.proofs.GateLaws.{gate_passed, gate_opens, open_passed, sound_opens}
use Rattle.admission.specs.NarrowGate.{near_of}
use Rattle.admission.proofs.NarrowGate.{near_opens}
use Rattle.wubraken.specs.LentGate.{flag_of, gate_on, Passed}

pub passed : (whole : Bool) (sh : Shape) (s : List ℕ) (i n : ℕ) (ok : Bool) → gate_on whole sh s i n ok ≡ 0 → Passed sh s i n ok
unfolding gate_on sound_of near_of
passed whole sh s i n ok e =
    let (up, worker) = gate_passed sh (length s) n i _ e in
    let opens = gate_opens sh (length s) n i _ e in
    let p = open_passed sh (length s) n opens in
    let (words, records) = go whole (eq-eqb _ 0 opens) up in
    record { limits = p.0; laid = laid sh s p.0 p.1; words = word_ranges sh s words; table = p.2; records = records; worker = worker }
  where
    go : (whole : Bool) → eqb (open_gate sh (length s) n) 0 ≡ true → flag_of whole sh s n ok ≡ true → (words_in_range sh s ≡ true) × (ok ≡ true)
    go true opens up = let (ranged, records) = parts (store_in_range sh s) ok (rw opens at up) in (words_of_store sh s ranged, records)
    go false opens up = parts (words_in_range sh s) ok (rw opens at up)

-- where the flag is up 1 and 2 do not apply
pub flag_opens : (whole : Bool) (sh : Shape) (s : List ℕ) (n : ℕ) (ok : Bool) → flag_of whole sh s n ok ≡ true → open_gate sh (length s) n ≡ 0
flag_opens true sh s n ok e = sound_opens sh s n ok e
flag_opens false sh s n ok e = near_opens sh s n ok e

-- the gate by the flag
pub gate_by : (whole : Bool) (sh : Shape) (s : List ℕ) (i n : ℕ) (ok flag : Bool) (k : ℕ) → flag ≡ flag_of whole sh s n ok → k ≡ gate_of sh (length s) n i flag
    → k ≡ gate_on whole sh s i n ok
unfolding gate_on
gate_by whole sh s i n ok flag k e f = f ∙ ap (gate_of sh (length s) n i) e
