-- A worked example: worker 0 of three begins a put, worker 2 a take, worker 1 stays idle; a new dealer deals.
--     three, dealing             the shape; n turns are to be dealt
--     starts, at_work            the two starts; the memory then
--     at_stage                   a record by its stage; whom a dealer of three serves, by hand
--     torn                       one record out of range: a narrow turn is refused by 3 where that is the worker to be served, a whole one in any case
--     spent, late, at_the_end    a pool whose epochs are spent; the put makes four turns there, and then the take begins; the memory then
-- Assumes nothing.
use Rattle.std.specs.Prelude.{List, [], ◌∷◌, ◌++◌, Bool, ℕ, replicate, set}
use Rattle.arrival.specs.declared.Shape.{Shape}
use Rattle.arrival.specs.declared.Worker.{Worker}
use Rattle.arrival.specs.declared.Action.TheVariants.{Enqueue, Dequeue, Step}
use Rattle.arrival.specs.declared.Request.TheVariants.{Whole}
use Rattle.calendar.specs.rules.Operations.{Memory, open_pool}
use Rattle.calendar.proofs.facts.Starred.{arrival, lent}
use Rattle.dealer.specs.Dealing.{new_dealer}
use Rattle.dealer.specs.DealtHistory.{Move, asks, deals, memory_after}

unfoldable pub three : Shape
three = record { workers = 3; nodes = 2; buckets = 1; width = 1 }

-- n turns are to be dealt
unfoldable pub dealing : Bool → ℕ → List Move
dealing whole n = replicate n (deals whole)

unfoldable pub starts : List Move
starts = asks (Whole (Enqueue 0 (arrival 5 3))) ∷ asks (Whole (Dequeue 2)) ∷ []

unfoldable pub at_work : Memory
at_work = memory_after three (open_pool three lent).memory (new_dealer three) starts

-- ── by hand ──
unfoldable pub at_stage : ℕ → Worker
at_stage k = record { stage = k; kind = 1; own = 0; bucket = 0; left = 0; right = 0; seen = 0; current = 0; ticket = 0 }

-- ── a record out of range ──
-- the pool at work, with worker i at a stage that there is not
unfoldable pub torn : ℕ → Memory
torn i = record { store = at_work.store; table = set at_work.table i (at_stage 14) }

-- ── refused by 11 ──
-- an opened pool, with the last epoch in word 0
unfoldable pub spent : Memory
spent = let p = (open_pool three lent).memory in record { store = set p.store 0 4294967295; table = p.table }

unfoldable pub late : List Move
late = asks (Whole (Enqueue 0 (arrival 5 3))) ∷ replicate 4 (asks (Whole (Step 0))) ++ asks (Whole (Dequeue 2)) ∷ []

unfoldable pub at_the_end : Memory
at_the_end = memory_after three spent 2 late
