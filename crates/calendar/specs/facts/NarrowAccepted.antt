-- What a narrow start or turn looks at, what refuses it by 3, and what one that is not refused may count on.
--     SameLooked                   what it looks at is the same
--     NarrowAccepted               lengths, the three first words, its worker's record
-- Assumes nothing.
use Rattle.std.specs.Prelude.{◌≡◌, List, Bool, ℕ, ◌<◌}
use Rattle.arrival.specs.declared.Shape.{Shape}
use Rattle.arrival.specs.declared.Action.{Action}
use Rattle.arrival.specs.declared.Action.TheVariants.{Enqueue, Dequeue, Step}
use Rattle.calendar.specs.rules.Layout.{current, started, last_node}
use Rattle.calendar.specs.rules.Ranges.{worker}
use Rattle.calendar.specs.rules.Reclaim.{first_free}
use Rattle.calendar.specs.rules.Refusals.{too_short, memory_tests}
use Rattle.calendar.specs.rules.Operations.{Memory, actor}
use Rattle.calendar.specs.rules.NarrowCalls.{narrow_out}
use Rattle.calendar.specs.facts.RangeFacts.{WordRanges, RecordRanges}
use Rattle.calendar.specs.facts.Accepted.{Lent}
use Rattle.calendar.specs.facts.Untouched.{SameSize}

-- 1 to 4
abbrev pub narrow_memory : Shape → Memory → Action → List (ℕ × Bool)
narrow_memory sh m a = memory_tests sh (too_short sh m.store m.table) (narrow_out sh m.store m.table a) (actor a)

-- ── what is looked at ──
-- of the records, and of the nodes: a put looks for a free one
abbrev pub SameRecords : Shape → Memory → Memory → Action → Type 0
SameRecords sh m m' (Enqueue i x) =
    ((j : ℕ) → j < sh.workers → worker m.table j ≡ worker m'.table j) × (first_free sh m.store m.table ≡ first_free sh m'.store m'.table)
SameRecords sh m m' (Dequeue i) = worker m.table i ≡ worker m'.table i
SameRecords sh m m' (Step i) = worker m.table i ≡ worker m'.table i

pub record SameLooked (sh : Shape) (m m' : Memory) (a : Action) : Type 0 where
  pub size : SameSize m m'
  pub current : current sh m.store ≡ current sh m'.store
  pub started : started sh m.store ≡ started sh m'.store
  pub last : last_node sh m.store ≡ last_node sh m'.store
  pub records : SameRecords sh m m' a

-- ── not refused ──
pub record NarrowAccepted (sh : Shape) (m : Memory) (a : Action) : Type 0 where
  pub lent : Lent sh m.store m.table
  pub words : WordRanges sh m.store
  pub exists : actor a < sh.workers
  pub own : RecordRanges sh (worker m.table (actor a))
