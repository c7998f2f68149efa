-- The refusals by number, and which of them each operation gets.
--     bad_shape, short, too_short, out_of_range, no_worker     1 to 4: of the memory, and of the worker's number
--     bad_arrival                                          5: of an arrival (6 is not given since Q-1)
--     busy, idle, no_ticket, no_epoch, no_node               9 to 12: of the worker's record and of the store
--     length_tests, field_tests, memory_tests                1 and 2; 3 and 4; both
--     early_own, late_own, enqueue_own, dequeue_own           an operation's own, behind 1 to 4: a put's, a take's
--     step_own, own_tests                                   a turn's; any action's
--     open_tests, memory_of                                 an opening's; 1 to 4, of store and table
--     enqueue_tests, dequeue_tests, step_tests               all that an operation can get
--     open_refusal, enqueue_refusal .. step_refusal          the answer: the lowest that applies, or 0
-- Assumes nothing.
use Rattle.std.specs.Prelude.{List, [], ◌∷◌, ◌++◌, Bool, not, ◌&&◌, ◌||◌, ℕ, eqb, leb, ltb, length}
use Rattle.laws.specs.FirstOf.{first_of}
use Rattle.arrival.specs.declared.Shape.{Shape}
use Rattle.arrival.specs.declared.Arrival.{Arrival}
use Rattle.arrival.specs.declared.Worker.{Worker}
use Rattle.arrival.specs.declared.Action.{Action}
use Rattle.arrival.specs.declared.Action.TheVariants.{Enqueue, Dequeue, Step}
use Rattle.calendar.specs.rules.Layout.{layout, started, epoch_in}
use Rattle.calendar.specs.rules.Ranges.{shape_in_range, path_in_range, order_in_range, distance_in_range, small, store_in_range, table_in_range, worker}
use Rattle.calendar.specs.rules.Reclaim.{in_progress, first_free}
use Rattle.calendar.specs.rules.EnqueueSteps.{current_holds}

-- 1: shape outside its limits
abbrev pub bad_shape : Shape → Bool
bad_shape sh = not (shape_in_range sh)

-- 2: store or worker table too short; by how many words and records are lent
abbrev pub short : Shape → ℕ → ℕ → Bool
short sh words records = ltb words (layout sh) || ltb records sh.workers

abbrev pub too_short : Shape → List ℕ → List Worker → Bool
too_short sh s t = short sh (length s) (length t)

-- 3: a field of the lent store or table out of range
abbrev pub out_of_range : Shape → List ℕ → List Worker → Bool
out_of_range sh s t = not (store_in_range sh s && table_in_range sh t)

-- 4: no such worker
abbrev pub no_worker : Shape → ℕ → Bool
no_worker sh i = leb sh.workers i

-- 5: path, order or distance out of range. (Or the time, which for a caller is a number of 32 bits: in these rules it may be any.)
abbrev pub bad_arrival : Arrival → Bool
bad_arrival a = not (small a.time && path_in_range a.path && order_in_range a.order && distance_in_range a.distance)

-- 9: start on a worker with a call in progress
abbrev pub busy : Worker → Bool
busy w = in_progress w

-- 10: turn on an idle worker
abbrev pub idle : Worker → Bool
idle w = not (in_progress w)

-- 11: word 1 is 2^32 − 1 at a start, or the epoch is 2^32 − 1 at a successful swap of stage 7
abbrev pub no_ticket : Shape → List ℕ → Bool
no_ticket sh s = eqb (started sh s) 4294967295

abbrev pub no_epoch : Shape → List ℕ → Worker → Bool
no_epoch sh s w = eqb w.stage 7 && current_holds sh s w && eqb (epoch_in w.current) 4294967295

-- 12: a put with no free node
abbrev pub no_node : Shape → List ℕ → List Worker → Bool
no_node sh s t = eqb (first_free sh s t) sh.nodes

-- Which refusals an operation can get: the memory's first, 2 and 3 as tests that were made of it, and then its own.
abbrev pub length_tests : Shape → Bool → List (ℕ × Bool)
length_tests sh isShort = (1, bad_shape sh) ∷ (2, isShort) ∷ []

abbrev pub field_tests : Shape → Bool → ℕ → List (ℕ × Bool)
field_tests sh isOut i = (3, isOut) ∷ (4, no_worker sh i) ∷ []

abbrev pub memory_tests : Shape → Bool → Bool → ℕ → List (ℕ × Bool)
memory_tests sh isShort isOut i = length_tests sh isShort ++ field_tests sh isOut i

-- of a put, before a node is looked for: `spent` says that no ticket is left; and then, `none` that no node is free
abbrev pub early_own : Arrival → Worker → Bool → List (ℕ × Bool)
early_own a w spent = (5, bad_arrival a) ∷ (9, busy w) ∷ (11, spent) ∷ []

abbrev pub late_own : Bool → List (ℕ × Bool)
late_own none = (12, none) ∷ []

abbrev pub enqueue_own : Arrival → Worker → Bool → Bool → List (ℕ × Bool)
enqueue_own a w spent none = early_own a w spent ++ late_own none

-- of a take
abbrev pub dequeue_own : Worker → Bool → List (ℕ × Bool)
dequeue_own w spent = (9, busy w) ∷ (11, spent) ∷ []

-- of a turn
abbrev pub step_own : Shape → List ℕ → Worker → List (ℕ × Bool)
step_own sh s w = (10, idle w) ∷ (11, no_epoch sh s w) ∷ []

-- by the action, of its worker's record w
abbrev pub own_tests : Shape → List ℕ → Bool → Action → Worker → List (ℕ × Bool)
own_tests sh s none (Enqueue i a) w = enqueue_own a w (no_ticket sh s) none
own_tests sh s none (Dequeue i) w = dequeue_own w (no_ticket sh s)
own_tests sh s none (Step i) w = step_own sh s w

abbrev pub open_tests : Shape → List ℕ → List Worker → List (ℕ × Bool)
open_tests sh s t = length_tests sh (too_short sh s t)

abbrev pub memory_of : Shape → List ℕ → List Worker → ℕ → List (ℕ × Bool)
memory_of sh s t i = memory_tests sh (too_short sh s t) (out_of_range sh s t) i

abbrev pub enqueue_tests : Shape → List ℕ → List Worker → ℕ → Arrival → List (ℕ × Bool)
enqueue_tests sh s t i a = memory_of sh s t i ++ enqueue_own a (worker t i) (no_ticket sh s) (no_node sh s t)

abbrev pub dequeue_tests : Shape → List ℕ → List Worker → ℕ → List (ℕ × Bool)
dequeue_tests sh s t i = memory_of sh s t i ++ dequeue_own (worker t i) (no_ticket sh s)

abbrev pub step_tests : Shape → List ℕ → List Worker → ℕ → List (ℕ × Bool)
step_tests sh s t i = memory_of sh s t i ++ step_own sh s (worker t i)

-- The lowest number that applies is the answer.
unfoldable pub open_refusal : Shape → List ℕ → List Worker → ℕ
open_refusal sh s t = first_of (open_tests sh s t)

unfoldable pub enqueue_refusal : Shape → List ℕ → List Worker → ℕ → Arrival → ℕ
enqueue_refusal sh s t i a = first_of (enqueue_tests sh s t i a)

unfoldable pub dequeue_refusal : Shape → List ℕ → List Worker → ℕ → ℕ
dequeue_refusal sh s t i = first_of (dequeue_tests sh s t i)

unfoldable pub step_refusal : Shape → List ℕ → List Worker → ℕ → ℕ
step_refusal sh s t i = first_of (step_tests sh s t i)
