-- A worked history: a take that is set into the past, and an empty answer. Take 2 has seen 7 and pauses; 3 is stored; take 2 then
-- takes 7, so it stands before put 3, though put 3 ended first. No other order is possible. Assumes nothing.
use Rattle.std.specs.Prelude.{◌≡◌, refl, List, [], ◌∷◌, ◌++◌}
use Rattle.std.proofs.Math.Option.{some}
use Rattle.arrival.specs.declared.Shape.{Shape}
use Rattle.arrival.specs.declared.Action.{Action}
use Rattle.arrival.specs.declared.Response.TheVariants.{Stored, Took, Empty}
use Rattle.arrival.specs.Keys.{lower, bucket_of}
use Rattle.arrival.specs.Energy.{energy_of}
use Rattle.laws.specs.Counting.{every}
use Rattle.laws.specs.Lists.{words_from, below}
use Rattle.calendar.specs.rules.Layout.{address, read, write}
use Rattle.calendar.specs.rules.Ranges.{blank, store_in_range, table_in_range}
use Rattle.calendar.specs.rules.Reclaim.{is_free, first_free_of, first_free}
use Rattle.calendar.specs.rules.Opening.{open_store, open_table}
use Rattle.calendar.specs.rules.Starts.{enqueue_start, dequeue_start}
use Rattle.calendar.specs.rules.SearchSteps.{found, settle, step_1, step_2, step_3}
use Rattle.calendar.specs.rules.EnqueueSteps.{step_4, step_5, step_6, step_7}
use Rattle.calendar.specs.rules.DequeueSteps.{walk, step_8, step_9, step_10, step_11, step_12, step_13}
use Rattle.calendar.specs.rules.Steps.{no_step, step}
use Rattle.calendar.specs.rules.Refusals.{open_refusal, enqueue_refusal, dequeue_refusal, step_refusal}
use Rattle.calendar.specs.rules.Operations.{Memory, open_pool, act, run}
use Rattle.calendar.specs.rules.Ledger.{Ledger, new, ledger}
use Rattle.calendar.specs.rules.Linearizability.{Linearization}
use Rattle.calendar.proofs.facts.Starred.{arrival, turns, put, take, lent}
use Rattle.calendar.specs.facts.AdmittedOrders.{orders_of}
use Rattle.calendar.proofs.facts.Guards.{forced}

unfoldable pub one_bucket : Shape
one_bucket = record { workers = 2; nodes = 4; buckets = 1; width = 10 }

unfoldable pub history : List Action
history = put 0 (arrival 7 3) 5 ++ take 1 3 ++ put 0 (arrival 3 3) 6 ++ turns 1 5 ++ take 0 7 ++ take 0 3

unfoldable pub start : Memory
start = (open_pool one_bucket lent).memory

unfoldable pub seen : Ledger
seen = ledger one_bucket start history new

-- five calls, all finished: take 2 and put 3 both ended when three calls had started
pub answers :
    (seen.started ≡ 5)
    × (seen.response 1 ≡ Stored 1)
    × (seen.response 2 ≡ Took 7 7 1 3 1864135)
    × (seen.response 3 ≡ Stored 3)
    × (seen.response 4 ≡ Took 3 7 1 3 1864135)
    × (seen.response 5 ≡ Empty)
    × (seen.ended 1 ≡ some 1)
    × (seen.ended 2 ≡ some 3)
    × (seen.ended 3 ≡ some 3)
    × (seen.ended 4 ≡ some 4)
    × (seen.ended 5 ≡ some 5)
unfolding one_bucket history start seen arrival turns put take lent address read write every blank store_in_range table_in_range is_free first_free_of
    first_free
    words_from open_store open_table enqueue_start dequeue_start found settle step_1 step_2 step_3 step_4 step_5 step_6 step_7 walk step_8 step_9
    step_10 step_11
    step_12 step_13 no_step step open_refusal enqueue_refusal dequeue_refusal step_refusal open_pool act run ledger lower bucket_of energy_of
answers = (refl, refl, refl, refl, refl, refl, refl, refl, refl, refl, refl)

-- THE ORDER IS FORCED
pub order_forced : (X : Linearization seen) → X.order ≡ 1 ∷ 2 ∷ 3 ∷ 4 ∷ 5 ∷ []
unfolding one_bucket history start seen arrival turns put take lent address read write every blank store_in_range table_in_range is_free first_free_of
    first_free
    words_from open_store open_table enqueue_start dequeue_start found settle step_1 step_2 step_3 step_4 step_5 step_6 step_7 walk step_8 step_9
    step_10 step_11
    step_12 step_13 no_step step open_refusal enqueue_refusal dequeue_refusal step_refusal open_pool act run ledger lower bucket_of energy_of orders_of below
order_forced = forced seen _ refl
