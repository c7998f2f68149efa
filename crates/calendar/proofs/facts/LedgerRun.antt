-- A run with its ledger: a put and a take, what is written down of them, and the list in between. Assumes nothing.
use Rattle.std.specs.Prelude.{◌≡◌, refl, List, [], ◌∷◌, ◌++◌, ℕ}
use Rattle.std.proofs.Math.Option.{none, some}
use Rattle.arrival.specs.declared.Item.{Item}
use Rattle.arrival.specs.declared.Action.{Action}
use Rattle.arrival.specs.declared.Response.TheVariants.{Stored, Took}
use Rattle.arrival.specs.Keys.{lower, bucket_of}
use Rattle.arrival.specs.Energy.{energy_of}
use Rattle.arrival.specs.Queue.{enqueue, dequeue}
use Rattle.laws.specs.Counting.{every, count}
use Rattle.laws.specs.Lists.{words_from}
use Rattle.calendar.specs.rules.Layout.{address, read, write}
use Rattle.calendar.specs.rules.Ranges.{blank, store_in_range, table_in_range}
use Rattle.calendar.specs.rules.Reclaim.{is_free, first_free_of, first_free}
use Rattle.calendar.specs.rules.Opening.{open_store, open_table}
use Rattle.calendar.specs.rules.Starts.{enqueue_start, dequeue_start}
use Rattle.calendar.specs.rules.SearchSteps.{found, settle, step_1, step_2, step_3}
use Rattle.calendar.specs.rules.EnqueueSteps.{step_4, step_5, step_6, step_7}
use Rattle.calendar.specs.rules.DequeueSteps.{walk, step_8, step_9, step_10, step_11, step_12, step_13}
use Rattle.calendar.specs.rules.Steps.{no_step, step}
use Rattle.calendar.specs.rules.Refusals.{open_refusal, enqueue_refusal, dequeue_refusal, step_refusal}
use Rattle.calendar.specs.rules.Operations.{Memory, open_pool, act, run}
use Rattle.calendar.specs.rules.Ledger.{Ledger, new, ledger}
use Rattle.calendar.specs.rules.Snapshot.{nodes_from, bucket_list, unmarked_in, unmarked_of, has_linked, has_marked, workers_with}
use Rattle.calendar.proofs.facts.Starred.{two_workers, arrival, turns, put, take, lent}

pub start : Memory
start = (open_pool two_workers lent).memory

-- worker 1 puts, worker 0 takes; four turns into the take its node is marked
pub half : List Action
half = put 1 (arrival 5 3) 5 ++ take 0 4

pub whole : List Action
whole = put 1 (arrival 5 3) 5 ++ take 0 7

pub item : Item
item = record { time = 5; path = 7; order = 1; distance = 3; ticket = 1 }

pub after : List Action → Ledger
after h = ledger two_workers start h new

pub words : List Action → List ℕ
words h = (run two_workers start h).store

pub ledger_run :
    ((after whole).started ≡ 2)
    × ((after whole).asked 1 ≡ enqueue item)
    × ((after whole).asked 2 ≡ dequeue)
    × ((after whole).call_of 1 ≡ 1)
    × ((after whole).call_of 0 ≡ 2)
    × ((after whole).ended 1 ≡ some 1)
    × ((after whole).ended 2 ≡ some 2)
    × ((after whole).response 1 ≡ Stored 1)
    × ((after whole).response 2 ≡ Took 5 7 1 3 1864135)
    × ((after whole).marked 1 ≡ none)
    × ((after whole).marked 2 ≡ some item)
    × ((after whole).stored ≡ 1)
    × ((after whole).took ≡ 1)
    × ((after half).ended 2 ≡ none)
    × ((after half).marked 2 ≡ some item)
    × (bucket_list two_workers (words (put 1 (arrival 5 3) 5)) 0 ≡ some (0 ∷ []))
    × (bucket_list two_workers (words (put 1 (arrival 5 3) 5)) 1 ≡ some [])
    × (unmarked_in two_workers (words (put 1 (arrival 5 3) 5)) (0 ∷ []) ≡ 1)
    × (unmarked_of two_workers (words (put 1 (arrival 5 3) 5)) item (0 ∷ []) ≡ 1)
    × (unmarked_in two_workers (words half) (0 ∷ []) ≡ 0)
    × (workers_with two_workers (run two_workers start half).table has_marked ≡ 1)
    × (workers_with two_workers (run two_workers start (put 1 (arrival 5 3) 3)).table has_linked ≡ 1)
unfolding start half whole item after words two_workers arrival turns put take lent address read write every count blank store_in_range table_in_range is_free
    first_free_of first_free words_from open_store open_table enqueue_start dequeue_start found settle step_1 step_2 step_3 step_4 step_5 step_6
    step_7 walk step_8
    step_9 step_10 step_11 step_12 step_13 no_step step open_refusal enqueue_refusal dequeue_refusal step_refusal open_pool act run ledger nodes_from
    unmarked_in
    unmarked_of lower bucket_of energy_of
ledger_run = (refl, refl, refl, refl, refl, refl, refl, refl, refl, refl, refl, refl, refl, refl, refl, refl, refl, refl, refl, refl, refl, refl)
