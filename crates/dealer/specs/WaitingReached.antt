-- What the bound on waiting and its hypotheses are for: computed runs. Three workers begin a take each, and a new dealer deals.
--     begins, pool                       the three takes begin; the memory then
--     ended_by_host                      the host makes the turns of worker 2 itself
--     leaky                              a memory in range
-- Assumes nothing.
use Rattle.std.specs.Prelude.{List, [], ◌∷◌, ◌++◌, true, replicate}
use Rattle.arrival.specs.declared.Action.TheVariants.{Dequeue, Step}
use Rattle.arrival.specs.declared.Request.TheVariants.{Whole}
use Rattle.calendar.specs.rules.Operations.{Memory, open_pool}
use Rattle.calendar.proofs.facts.Starred.{lent}
use Rattle.dealer.specs.Dealing.{new_dealer}
use Rattle.dealer.specs.DealtHistory.{Move, asks, memory_after}
use Rattle.dealer.specs.DealtExample.{three, dealing, at_stage}

unfoldable pub begins : List Move
begins = asks (Whole (Dequeue 0)) ∷ asks (Whole (Dequeue 1)) ∷ asks (Whole (Dequeue 2)) ∷ []

unfoldable pub pool : Memory
pool = memory_after three (open_pool three lent).memory (new_dealer three) begins

-- worker 2's three turns by the host end its take; the dealer then goes on with the others
unfoldable pub ended_by_host : List Move
ended_by_host = replicate 3 (asks (Whole (Step 2))) ++ dealing true 3

-- ── nothing refused by 3 ──
-- all words are 0; worker 0 is to unlink node 0, which was never used, and workers 1 and 2 have begun a take
unfoldable pub leaky : Memory
leaky = record { store = replicate 20 0; table = at_stage 3 ∷ at_stage 8 ∷ at_stage 8 ∷ [] }
