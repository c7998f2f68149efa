-- One start or turn of one record, over `Action`: refused by one of its own refusals, or what its rule does. Assumes nothing.
--     local_act                                  the definition; `low` is the least ticket in progress, which only a put asks for
--     Admitted                                  what it may count on; what refusals 1 to 4 leave is enough
--     back                                      the record back in the table
--     LowFor, TicketsFor                        what a put asks of `low` and of the tickets in the table
use Rattle.std.specs.Prelude.{◌≡◌, List, ℕ, ◌<◌, set}
use Rattle.arrival.specs.declared.Shape.{Shape}
use Rattle.arrival.specs.declared.Worker.{Worker}
use Rattle.arrival.specs.declared.Action.{Action}
use Rattle.arrival.specs.declared.Action.TheVariants.{Enqueue, Dequeue, Step}
use Rattle.calendar.specs.rules.Ranges.{worker}
use Rattle.calendar.specs.rules.Refusals.{own_tests}
use Rattle.laws.specs.FirstOf.{first_of}
use Rattle.calendar.specs.rules.Operations.{Result, outcome_of}
use Rattle.calendar.specs.facts.RangeFacts.{Limits, WordRanges, RecordRanges}
use Rattle.words.specs.Laid.{Laid}
use Rattle.words.specs.Done.{Done, done, unless_refused}
use Rattle.starts.specs.LeastTicket.{least_ticket}
use Rattle.starts.specs.FreeSearch.{first_free_below}
use Rattle.starts.specs.LocalStart.{none_below}

unfoldable pub local_act : Shape → ℕ → List ℕ → Action → Worker → Done
local_act sh low s a w =
    unless_refused (first_of (own_tests sh s (none_below sh low s) a w)) s w (done sh s (outcome_of sh s (first_free_below sh s low) a w))

-- of the shape, of the store's length and three first words, and of the record
pub record Admitted (sh : Shape) (s : List ℕ) (w : Worker) : Type 0 where
  pub limits : Limits sh
  pub laid : Laid sh s
  pub words : WordRanges sh s
  pub worker : RecordRanges sh w

-- ── in the table ──
-- worker i's record back in the table
abbrev pub back : List Worker → ℕ → Done → Result
back t i d = record { memory = record { store = d.store; table = set t i d.worker }; response = d.response }

-- `low` is the least ticket in progress, where the action asks for it
abbrev pub LowFor : Shape → List Worker → Action → ℕ → Type 0
LowFor sh t (Enqueue i x) low = low ≡ least_ticket t sh.workers
LowFor sh t (Dequeue i) low = Unit {0}
LowFor sh t (Step i) low = Unit {0}

-- a put's test of free nodes goes by the least ticket where tickets are below 2^32
abbrev pub TicketsFor : Shape → List Worker → Action → Type 0
TicketsFor sh t (Enqueue i x) = (j : ℕ) → j < sh.workers → (worker t j).ticket < 4294967296
TicketsFor sh t (Dequeue i) = Unit {0}
TicketsFor sh t (Step i) = Unit {0}
