-- Narrow starts and turns: as those of Operations, but for refusal 3, which looks only at what the start or turn needs. And how far one goes on by itself.
--     own_in_range, records_in_range     the records that are looked at: the named worker's, if there is one; for a put all workers'
--     narrow_out                      3: one of the three first words, or of those records, out of range
--     narrow_tests, narrow_refusal     all that it can get; the lowest that applies, or 0
--     narrow_act                      what is refused leaves the memory as it was, the rest does its rule with the words it finds
--     goes_on                         the call is still in progress
--     turns_after, narrow_call         at most so many turns behind what was done; behind a narrow start or turn
--     narrow_made                     the starts and turns that it makes
--     narrow_run, narrow_responses     narrow starts and turns one after the other: the memory after them, and the responses on the way
-- Assumes nothing.
use Rattle.std.specs.Prelude.{List, [], ◌∷◌, ◌++◌, Bool, true, false, cond, not, ◌&&◌, ◌||◌, ℕ, zero, suc}
use Rattle.arrival.specs.declared.Shape.{Shape}
use Rattle.arrival.specs.declared.Worker.{Worker}
use Rattle.arrival.specs.declared.Action.{Action}
use Rattle.arrival.specs.declared.Action.TheVariants.{Enqueue, Dequeue, Step}
use Rattle.arrival.specs.declared.Response.{Response}
use Rattle.arrival.specs.declared.Response.TheVariants.{Opened, Begun, On, Stored, Took, Empty, Refused}
use Rattle.calendar.specs.rules.Ranges.{words_in_range, record_in_range, table_in_range, worker}
use Rattle.calendar.specs.rules.Refusals.{too_short, no_worker, no_node, memory_tests, own_tests}
use Rattle.laws.specs.FirstOf.{first_of}
use Rattle.calendar.specs.rules.Operations.{Memory, Result, unless, perform, actor, outcome}

-- the record of worker i, if the shape has one
abbrev pub own_in_range : Shape → List Worker → ℕ → Bool
own_in_range sh t i = no_worker sh i || record_in_range sh (worker t i)

-- a put's test of free nodes looks at all workers
abbrev pub records_in_range : Shape → List Worker → Action → Bool
records_in_range sh t (Enqueue i a) = table_in_range sh t
records_in_range sh t (Dequeue i) = own_in_range sh t i
records_in_range sh t (Step i) = own_in_range sh t i

-- 3: something that is looked at is out of range
abbrev pub narrow_out : Shape → List ℕ → List Worker → Action → Bool
narrow_out sh s t a = not (words_in_range sh s && records_in_range sh t a)

-- 1, 2 and 4 to 12 are as they are
abbrev pub narrow_tests : Shape → Memory → Action → List (ℕ × Bool)
narrow_tests sh m a =
    memory_tests sh (too_short sh m.store m.table) (narrow_out sh m.store m.table a) (actor a)
    ++ own_tests sh m.store (no_node sh m.store m.table) a (worker m.table (actor a))

unfoldable pub narrow_refusal : Shape → Memory → Action → ℕ
narrow_refusal sh m a = first_of (narrow_tests sh m a)

unfoldable pub narrow_act : Shape → Memory → Action → Result
narrow_act sh m a = unless (narrow_refusal sh m a) m (perform sh m (actor a) (outcome sh m a))

-- ── several turns ──
-- begun, or on
abbrev pub goes_on : Response → Bool
goes_on Opened = false
goes_on (Begun ticket) = true
goes_on On = true
goes_on (Stored ticket) = false
goes_on (Took time path order distance energy) = false
goes_on Empty = false
goes_on (Refused number) = false

-- after a response that goes on, narrow turns of worker i, at most n: the last response is the answer
unfoldable pub turns_after : Shape → ℕ → ℕ → Result → Result
turns_after sh i zero r = r
turns_after sh i (suc n) r = cond (goes_on r.response) (turns_after sh i n (narrow_act sh r.memory (Step i))) r

unfoldable pub narrow_call : Shape → Memory → Action → ℕ → Result
narrow_call sh m a n = turns_after sh (actor a) n (narrow_act sh m a)

unfoldable pub narrow_made : Shape → Memory → Action → ℕ → List Action
narrow_made sh m a zero = a ∷ []
narrow_made sh m a (suc n) =
    let r = narrow_act sh m a in
    a ∷ cond (goes_on r.response) (narrow_made sh r.memory (Step (actor a)) n) []

-- ── one after the other ──
unfoldable pub narrow_run : Shape → Memory → List Action → Memory
narrow_run sh m [] = m
narrow_run sh m (a ∷ h) = narrow_run sh (narrow_act sh m a).memory h

unfoldable pub narrow_responses : Shape → Memory → List Action → List Response
narrow_responses sh m [] = []
narrow_responses sh m (a ∷ h) = (narrow_act sh m a).response ∷ narrow_responses sh (narrow_act sh m a).memory h
