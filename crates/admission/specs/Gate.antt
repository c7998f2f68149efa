-- Refusals 1 to 4 by the flag, before the worker's record is looked at: an action is refused by one of them, or by the first of its own.
--     own_of                          an action's own refusals, handed on
--     gate_of                         the first of 1 to 4; where there is none the flag is up and the worker exists
--     open_gate                       the first of 1 and 2: an opening's refusal
--     open_response                   its response, by that number
--     Tight                          a flag down where 1 or 2 applies; an opening's refusals among the gate's
--     sound_of                        the flag by a look at every field; a shape within its limits passes its test
-- Assumes nothing.
use Rattle.std.specs.Prelude.{◌≡◌, List, Bool, true, false, cond, not, ◌&&◌, ℕ, eqb, length}
use Rattle.arrival.specs.declared.Shape.{Shape}
use Rattle.arrival.specs.declared.Response.{Response}
use Rattle.arrival.specs.declared.Response.TheVariants.{Opened, Refused}
use Rattle.calendar.specs.rules.Ranges.{store_in_range}
use Rattle.calendar.specs.rules.Refusals.{short, length_tests, memory_tests}
use Rattle.laws.specs.FirstOf.{first_of}
pub use Rattle.calendar.specs.facts.RefusalParts.{own_of}

unfoldable pub gate_of : Shape → ℕ → ℕ → ℕ → Bool → ℕ
gate_of sh words records i sound = first_of (memory_tests sh (short sh words records) (not sound) i)

-- Opening's refusals.
unfoldable pub open_gate : Shape → ℕ → ℕ → ℕ
open_gate sh words records = first_of (length_tests sh (short sh words records))

-- the response, by the number k that refuses an opening, or 0
abbrev pub open_response : ℕ → Response
open_response k = cond (eqb k 0) Opened (Refused k)

-- a flag that is down where 1 or 2 applies
abbrev pub Tight : Shape → ℕ → ℕ → Bool → Type 0
Tight sh words records sound = sound ≡ true → open_gate sh words records ≡ 0

-- ── the flag by a look at every field ──
-- `ok` says that the workers' records are in range; down where the memory is too short to be looked at
unfoldable pub sound_of : Shape → List ℕ → ℕ → Bool → Bool
sound_of sh s records ok = cond (eqb (open_gate sh (length s) records) 0) (store_in_range sh s && ok) false
