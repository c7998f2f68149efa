-- A worked history of ties. Take 2 has seen the first reflection of call 1 and pauses; put 3 stores the direct sound of the same
-- time; take 2 goes on and takes what it saw, so it stands before put 3. Then one of order 63 is put before two of order 1, all at
-- that time, and at last one of order 0 at the next sample. The takes get the direct sound, those of order 1 by their tickets and
-- not by their paths, that of order 63, that of the next sample, and nothing. Assumes nothing.
use Rattle.std.specs.Prelude.{◌≡◌, refl, List, [], ◌∷◌, ◌++◌, ℕ}
use Rattle.std.proofs.Math.Option.{some}
use Rattle.arrival.specs.declared.Arrival.{Arrival}
use Rattle.arrival.specs.declared.Action.{Action}
use Rattle.arrival.specs.declared.Response.TheVariants.{Stored, Took, Empty}
use Rattle.arrival.specs.Keys.{lower, bucket_of}
use Rattle.arrival.specs.Energy.{energy_of}
use Rattle.laws.specs.Counting.{every}
use Rattle.laws.specs.Lists.{words_from, below}
use Rattle.calendar.specs.rules.Layout.{address, read, write}
use Rattle.calendar.specs.rules.Ranges.{blank, store_in_range, table_in_range}
use Rattle.calendar.specs.rules.Reclaim.{is_free, first_free_of, first_free}
use Rattle.calendar.specs.rules.Opening.{open_store, open_table}
use Rattle.calendar.specs.rules.Starts.{enqueue_start, dequeue_start}
use Rattle.calendar.specs.rules.SearchSteps.{found, settle, step_1, step_2, step_3}
use Rattle.calendar.specs.rules.EnqueueSteps.{step_4, step_5, step_6, step_7}
use Rattle.calendar.specs.rules.DequeueSteps.{walk, step_8, step_9, step_10, step_11, step_12, step_13}
use Rattle.calendar.specs.rules.Steps.{no_step, step}
use Rattle.calendar.specs.rules.Refusals.{open_refusal, enqueue_refusal, dequeue_refusal, step_refusal}
use Rattle.calendar.specs.rules.Operations.{open_pool, act, run}
use Rattle.calendar.specs.rules.Ledger.{Ledger, new, ledger}
use Rattle.calendar.specs.rules.Linearizability.{Linearization}
use Rattle.calendar.proofs.facts.Starred.{turns, put, take, lent}
use Rattle.calendar.specs.facts.AdmittedOrders.{orders_of}
use Rattle.calendar.proofs.facts.Guards.{forced}
use Rattle.calendar.proofs.facts.WorkedHistory.{one_bucket, start}

unfoldable pub reflection : ℕ → ℕ → ℕ → Arrival
reflection time order path = record { time = time; path = path; order = order; distance = 3 }

unfoldable pub history : List Action
history =
    put 0 (reflection 5 1 21) 5 ++ take 1 3 ++ put 0 (reflection 5 0 23) 6 ++ turns 1 5
    ++ put 0 (reflection 5 63 24) 6 ++ put 0 (reflection 5 1 26) 7 ++ put 0 (reflection 5 1 25) 8
    ++ take 0 8 ++ put 0 (reflection 6 0 28) 8
    ++ take 0 8 ++ take 0 8 ++ take 0 8 ++ take 0 7 ++ take 0 3

unfoldable pub seen : Ledger
seen = ledger one_bucket start history new

-- thirteen calls, all finished: take 2 and put 3 both ended when three calls had started
pub answers :
    (seen.started ≡ 13)
    × (seen.response 1 ≡ Stored 1)
    × (seen.response 2 ≡ Took 5 21 1 3 1864135)
    × (seen.response 3 ≡ Stored 3)
    × (seen.response 4 ≡ Stored 4)
    × (seen.response 5 ≡ Stored 5)
    × (seen.response 6 ≡ Stored 6)
    × (seen.response 7 ≡ Took 5 23 0 3 1864135)
    × (seen.response 8 ≡ Stored 8)
    × (seen.response 9 ≡ Took 5 26 1 3 1864135)
    × (seen.response 10 ≡ Took 5 25 1 3 1864135)
    × (seen.response 11 ≡ Took 5 24 63 3 1864135)
    × (seen.response 12 ≡ Took 6 28 0 3 1864135)
    × (seen.response 13 ≡ Empty)
    × (seen.ended 2 ≡ some 3)
    × (seen.ended 3 ≡ some 3)
unfolding one_bucket history start seen reflection turns put take lent address read write every blank store_in_range table_in_range is_free
    first_free_of first_free
    words_from open_store open_table enqueue_start dequeue_start found settle step_1 step_2 step_3 step_4 step_5 step_6 step_7 walk step_8 step_9
    step_10 step_11
    step_12 step_13 no_step step open_refusal enqueue_refusal dequeue_refusal step_refusal open_pool act run ledger lower bucket_of energy_of
answers = (refl, refl, refl, refl, refl, refl, refl, refl, refl, refl, refl, refl, refl, refl, refl, refl)

-- THE ORDER IS FORCED
pub order_forced : (X : Linearization seen) → X.order ≡ 1 ∷ 2 ∷ 3 ∷ 4 ∷ 5 ∷ 6 ∷ 7 ∷ 8 ∷ 9 ∷ 10 ∷ 11 ∷ 12 ∷ 13 ∷ []
unfolding one_bucket history start seen reflection turns put take lent address read write every blank store_in_range table_in_range is_free
    first_free_of first_free
    words_from open_store open_table enqueue_start dequeue_start found settle step_1 step_2 step_3 step_4 step_5 step_6 step_7 walk step_8 step_9
    step_10 step_11
    step_12 step_13 no_step step open_refusal enqueue_refusal dequeue_refusal step_refusal open_pool act run ledger lower bucket_of energy_of orders_of below
order_forced = forced seen _ refl
