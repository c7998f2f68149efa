-- A worked history in the tail. Two buckets of 10: calls 1 to 3 put 4294967295, 1000 and 1000 again, all far behind 20 and all in
-- bucket 1. Take 4 finds bucket 0 empty, comes to the tail and pauses at a 1000; put 5 stores 5 in bucket 0; take 4 goes on and takes
-- the 1000 of call 2, so it stands before put 5. The takes after it get 5, the later 1000, 4294967295 and nothing. Assumes nothing.
use Rattle.std.specs.Prelude.{◌≡◌, refl, List, [], ◌∷◌, ◌++◌}
use Rattle.std.proofs.Math.Option.{some}
use Rattle.arrival.specs.declared.Action.{Action}
use Rattle.arrival.specs.declared.Response.TheVariants.{Stored, Took, Empty}
use Rattle.arrival.specs.Keys.{lower, bucket_of}
use Rattle.arrival.specs.Energy.{energy_of}
use Rattle.laws.specs.Counting.{every}
use Rattle.laws.specs.Lists.{words_from, below}
use Rattle.calendar.specs.rules.Layout.{address, read, write}
use Rattle.calendar.specs.rules.Ranges.{blank, store_in_range, table_in_range}
use Rattle.calendar.specs.rules.Reclaim.{is_free, first_free_of, first_free}
use Rattle.calendar.specs.rules.Opening.{open_store, open_table}
use Rattle.calendar.specs.rules.Starts.{enqueue_start, dequeue_start}
use Rattle.calendar.specs.rules.SearchSteps.{found, settle, step_1, step_2, step_3}
use Rattle.calendar.specs.rules.EnqueueSteps.{step_4, step_5, step_6, step_7}
use Rattle.calendar.specs.rules.DequeueSteps.{walk, step_8, step_9, step_10, step_11, step_12, step_13}
use Rattle.calendar.specs.rules.Steps.{no_step, step}
use Rattle.calendar.specs.rules.Refusals.{open_refusal, enqueue_refusal, dequeue_refusal, step_refusal}
use Rattle.calendar.specs.rules.Operations.{Memory, open_pool, act, run}
use Rattle.calendar.specs.rules.Ledger.{Ledger, new, ledger}
use Rattle.calendar.specs.rules.Linearizability.{Linearization}
use Rattle.calendar.proofs.facts.Starred.{two_workers, arrival, turns, put, take, lent}
use Rattle.calendar.specs.facts.AdmittedOrders.{orders_of}
use Rattle.calendar.proofs.facts.Guards.{forced}

unfoldable pub history : List Action
history =
    put 0 (arrival 4294967295 3) 4 ++ put 1 (arrival 1000 5) 5 ++ put 0 (arrival 1000 1) 6
    ++ take 1 5 ++ put 0 (arrival 5 1024) 5 ++ turns 1 5
    ++ take 0 7 ++ take 0 10 ++ take 0 7 ++ take 0 3

unfoldable pub start : Memory
start = (open_pool two_workers lent).memory

unfoldable pub seen : Ledger
seen = ledger two_workers start history new

-- nine calls, all finished: take 4 and put 5 both ended when five calls had started
pub answers :
    (seen.started ≡ 9)
    × (seen.response 1 ≡ Stored 1)
    × (seen.response 2 ≡ Stored 2)
    × (seen.response 3 ≡ Stored 3)
    × (seen.response 4 ≡ Took 1000 7 1 5 671088)
    × (seen.response 5 ≡ Stored 5)
    × (seen.response 6 ≡ Took 5 7 1 1024 16)
    × (seen.response 7 ≡ Took 1000 7 1 1 16777216)
    × (seen.response 8 ≡ Took 4294967295 7 1 3 1864135)
    × (seen.response 9 ≡ Empty)
    × (seen.ended 4 ≡ some 5)
    × (seen.ended 5 ≡ some 5)
unfolding two_workers history start seen arrival turns put take lent address read write every blank store_in_range table_in_range is_free
    first_free_of first_free
    words_from open_store open_table enqueue_start dequeue_start found settle step_1 step_2 step_3 step_4 step_5 step_6 step_7 walk step_8 step_9
    step_10 step_11
    step_12 step_13 no_step step open_refusal enqueue_refusal dequeue_refusal step_refusal open_pool act run ledger lower bucket_of energy_of
answers = (refl, refl, refl, refl, refl, refl, refl, refl, refl, refl, refl, refl)

-- THE ORDER IS FORCED
pub order_forced : (X : Linearization seen) → X.order ≡ 1 ∷ 2 ∷ 3 ∷ 4 ∷ 5 ∷ 6 ∷ 7 ∷ 8 ∷ 9 ∷ []
unfolding two_workers history start seen arrival turns put take lent address read write every blank store_in_range table_in_range is_free
    first_free_of first_free
    words_from open_store open_table enqueue_start dequeue_start found settle step_1 step_2 step_3 step_4 step_5 step_6 step_7 walk step_8 step_9
    step_10 step_11
    step_12 step_13 no_step step open_refusal enqueue_refusal dequeue_refusal step_refusal open_pool act run ledger lower bucket_of energy_of orders_of below
order_forced = forced seen _ refl
