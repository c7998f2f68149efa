-- A worked example: worker 0 of three begins a put, worker 2 a take, worker 1 stays idle; a new dealer deals.
--     in_turn                    0 and 2 are served in turn until both calls are answered; then nobody is left, 16
--     in_runs                    the same in runs: one ends with the take, one with the put, and one deals no turn
--     as_requests                the requests that are made: two turns; none for a dealer that is refused
--     by_hand                    a record by its stage; whom a dealer of three serves, by hand
--     outside                    a dealer that remembers worker 3 is refused by 4
--     nobody_left                a dealer that remembers worker 1 remembers it still when it is refused by 16
--     lowest_first               where 16 applies too, 1 to 4 go before it
--     damaged                    one record out of range: a narrow turn is refused by 3 where that is the worker to be served, a whole one in any case
--     moves_on                   the put's fifth turn is refused by 11: the memory stays, the dealer moves on, and the next turn is the take's
-- Assumes nothing.
use Rattle.std.specs.Prelude.{◌≡◌, refl, [], ◌∷◌, ◌++◌, Bool, true, false, set}
use Rattle.arrival.specs.declared.Action.TheVariants.{Step}
use Rattle.arrival.specs.declared.Request.TheVariants.{Whole, Narrow}
use Rattle.arrival.specs.declared.Response.TheVariants.{Begun, On, Stored, Empty, Refused}
use Rattle.arrival.specs.Keys.{bucket_of}
use Rattle.laws.specs.Counting.{every}
use Rattle.laws.specs.Lists.{words_from}
use Rattle.calendar.specs.rules.Layout.{address, read, write}
use Rattle.calendar.specs.rules.Ranges.{blank, store_in_range, table_in_range}
use Rattle.calendar.specs.rules.Reclaim.{is_free, first_free_of, first_free}
use Rattle.calendar.specs.rules.Opening.{open_store, open_table}
use Rattle.calendar.specs.rules.Starts.{enqueue_start, dequeue_start}
use Rattle.calendar.specs.rules.SearchSteps.{found, settle, step_1}
use Rattle.calendar.specs.rules.EnqueueSteps.{step_4, step_5, step_6, step_7}
use Rattle.calendar.specs.rules.DequeueSteps.{walk, step_8, step_9, step_13}
use Rattle.calendar.specs.rules.Steps.{step}
use Rattle.calendar.specs.rules.Refusals.{out_of_range, open_refusal, enqueue_refusal, dequeue_refusal, step_refusal}
use Rattle.calendar.specs.rules.Operations.{open_pool, act}
use Rattle.calendar.specs.rules.NarrowCalls.{narrow_refusal, narrow_act, turns_after, narrow_call}
use Rattle.calendar.proofs.facts.Starred.{arrival, lent}
use Rattle.dealer.specs.Dealing.{new_dealer, first_busy_of, next_served, deal_refusal, dealt, dealt_on, dealt_run}
use Rattle.dealer.specs.DealtHistory.{deals, memory_after, dealer_after, answers_to, served_in, requests_in, refused_in}
use Rattle.dealer.specs.DealtExample.{three, dealing, starts, at_work, at_stage, torn, spent, late, at_the_end}

-- ── in turn ──
pub in_turn :
    (answers_to three (open_pool three lent).memory (new_dealer three) (starts ++ dealing true 9)
    ≡ Begun 1 ∷ Begun 2 ∷ On ∷ On ∷ On ∷ On ∷ On ∷ Empty ∷ On ∷ Stored 1 ∷ Refused 16 ∷ [])
    × (served_in three (open_pool three lent).memory (new_dealer three) (starts ++ dealing true 9) ≡ 0 ∷ 2 ∷ 0 ∷ 2 ∷ 0 ∷ 2 ∷ 0 ∷ 0 ∷ [])
    × (dealer_after three (open_pool three lent).memory (new_dealer three) (starts ++ dealing true 9) ≡ 0)
    × (answers_to three at_work 2 (dealing false 9) ≡ On ∷ On ∷ On ∷ On ∷ On ∷ Empty ∷ On ∷ Stored 1 ∷ Refused 16 ∷ [])
    × (served_in three at_work 2 (dealing false 9) ≡ 0 ∷ 2 ∷ 0 ∷ 2 ∷ 0 ∷ 2 ∷ 0 ∷ 0 ∷ [])
unfolding three starts at_work dealing arrival lent address read write every blank store_in_range table_in_range is_free first_free_of first_free words_from
    open_store open_table enqueue_start dequeue_start found settle step_1 step_4 step_5 step_6 step_7 walk step_8 step_9 step_13 step open_refusal
    enqueue_refusal dequeue_refusal step_refusal open_pool act narrow_refusal narrow_act turns_after narrow_call bucket_of first_busy_of deal_refusal dealt
    memory_after dealer_after answers_to served_in
in_turn = (refl, refl, refl, refl, refl)

-- ── in runs ──
pub in_runs :
    let first = dealt_run true three 9 at_work 2 in
    let second = dealt_run true three 9 first.memory first.dealer in
    let third = dealt_run true three 9 second.memory second.dealer in
    (first.response ≡ Empty) × (first.turns ≡ 6) × (first.dealer ≡ 2)
    × (second.response ≡ Stored 1) × (second.turns ≡ 2) × (second.dealer ≡ 0)
    × (third.response ≡ Refused 16) × (third.turns ≡ 0) × (third.dealer ≡ 0)
unfolding three starts at_work arrival lent address read write every blank store_in_range table_in_range is_free first_free_of first_free words_from open_store
    open_table enqueue_start dequeue_start found settle step_1 step_4 step_5 step_6 step_7 walk step_8 step_9 step_13 step open_refusal enqueue_refusal
    dequeue_refusal step_refusal open_pool act bucket_of first_busy_of deal_refusal dealt dealt_on memory_after
in_runs = (refl, refl, refl, refl, refl, refl, refl, refl, refl)

-- ── as requests ──
pub as_requests :
    (requests_in three at_work 2 (dealing true 2) ≡ Whole (Step 0) ∷ Whole (Step 2) ∷ [])
    × (refused_in three at_work 2 (dealing true 2) ≡ 0 ∷ 0 ∷ [])
    × (requests_in three at_work 2 (dealing false 2) ≡ Narrow (Step 0) 0 ∷ Narrow (Step 2) 0 ∷ [])
    × (requests_in three at_work 3 (dealing true 2) ≡ [])
    × (refused_in three at_work 3 (dealing true 2) ≡ 4 ∷ 4 ∷ [])
unfolding three starts at_work dealing arrival lent address read write every blank store_in_range table_in_range is_free first_free_of first_free words_from
    open_store open_table enqueue_start dequeue_start found settle step_1 step_8 step open_refusal enqueue_refusal dequeue_refusal step_refusal open_pool act
    narrow_refusal narrow_act turns_after narrow_call bucket_of first_busy_of deal_refusal dealt memory_after requests_in refused_in
as_requests = (refl, refl, refl, refl, refl)

-- workers 0 and 2 have a call in progress; worker 0 alone; none
pub by_hand :
    let both = at_stage 8 ∷ at_stage 0 ∷ at_stage 8 ∷ [] in
    let one = at_stage 8 ∷ at_stage 0 ∷ at_stage 0 ∷ [] in
    let none = at_stage 0 ∷ at_stage 0 ∷ at_stage 0 ∷ [] in
    (next_served three both 2 ≡ 0) × (next_served three both 0 ≡ 2) × (next_served three both 1 ≡ 2)
    × (next_served three one 0 ≡ 0) × (next_served three one 1 ≡ 0) × (next_served three one 2 ≡ 0)
    × (next_served three none 0 ≡ 3) × (next_served three none 1 ≡ 3) × (next_served three none 2 ≡ 3)
unfolding three at_stage first_busy_of
by_hand = (refl, refl, refl, refl, refl, refl, refl, refl, refl)

-- ── a remembered worker that there is not ──
pub outside :
    (answers_to three at_work 3 (dealing true 1) ≡ Refused 4 ∷ [])
    × (memory_after three at_work 3 (dealing true 1) ≡ at_work)
    × (dealer_after three at_work 3 (dealing true 1) ≡ 3)
    × (served_in three at_work 3 (dealing true 1) ≡ [])
    × (answers_to three at_work 3 (dealing false 1) ≡ Refused 4 ∷ [])
unfolding three starts at_work dealing arrival lent address read write every blank store_in_range table_in_range is_free first_free_of first_free words_from
    open_store open_table enqueue_start dequeue_start open_refusal enqueue_refusal dequeue_refusal open_pool act bucket_of first_busy_of deal_refusal dealt
    memory_after dealer_after answers_to served_in
outside = (refl, refl, refl, refl, refl)

-- ── nobody left ──
pub nobody_left :
    let idle = (open_pool three lent).memory in
    (answers_to three idle 1 (dealing true 1) ≡ Refused 16 ∷ [])
    × (dealer_after three idle 1 (dealing true 1) ≡ 1)
    × (memory_after three idle 1 (dealing true 1) ≡ idle)
    × (served_in three idle 1 (dealing true 1) ≡ [])
    × (answers_to three idle 1 (dealing false 1) ≡ Refused 16 ∷ [])
    × (dealer_after three idle 1 (dealing false 1) ≡ 1)
unfolding three dealing lent address read write every blank store_in_range table_in_range words_from open_store open_table open_refusal open_pool first_busy_of
    deal_refusal dealt memory_after dealer_after answers_to served_in
nobody_left = (refl, refl, refl, refl, refl, refl)

-- no bucket; no store; a third word that names no node; a remembered worker that there is not
pub lowest_first : (whole : Bool)
    → let idle = (open_pool three lent).memory in
    (answers_to (record { workers = 3; nodes = 2; buckets = 0; width = 1 }) idle 1 (deals whole ∷ []) ≡ Refused 1 ∷ [])
    × (answers_to three (record { store = []; table = idle.table }) 1 (deals whole ∷ []) ≡ Refused 2 ∷ [])
    × (answers_to three (record { store = set idle.store 2 4; table = idle.table }) 1 (deals whole ∷ []) ≡ Refused 3 ∷ [])
    × (answers_to three idle 3 (deals whole ∷ []) ≡ Refused 4 ∷ [])
unfolding three lent address read write every blank store_in_range table_in_range words_from open_store open_table open_refusal open_pool first_busy_of
    deal_refusal dealt answers_to
lowest_first true = (refl, refl, refl, refl)
lowest_first false = (refl, refl, refl, refl)

-- worker 0 is the next to be served
pub damaged :
    (answers_to three (torn 0) 2 (dealing false 1) ≡ Refused 3 ∷ [])
    × (dealer_after three (torn 0) 2 (dealing false 1) ≡ 2)
    × (memory_after three (torn 0) 2 (dealing false 1) ≡ torn 0)
    × (answers_to three (torn 2) 2 (dealing false 1) ≡ On ∷ [])
    × (served_in three (torn 2) 2 (dealing false 1) ≡ 0 ∷ [])
    × (dealer_after three (torn 2) 2 (dealing false 1) ≡ 0)
    × (answers_to three (torn 2) 2 (dealing true 1) ≡ Refused 3 ∷ [])
    × (dealer_after three (torn 2) 2 (dealing true 1) ≡ 2)
    × (memory_after three (torn 2) 2 (dealing true 1) ≡ torn 2)
unfolding three starts at_work torn at_stage dealing arrival lent address read write every blank store_in_range table_in_range is_free first_free_of
    first_free words_from open_store open_table enqueue_start dequeue_start found settle step_1 step open_refusal enqueue_refusal dequeue_refusal open_pool
    act narrow_refusal narrow_act turns_after narrow_call bucket_of first_busy_of deal_refusal dealt memory_after dealer_after answers_to served_in
damaged = (refl, refl, refl, refl, refl, refl, refl, refl, refl)

pub moves_on :
    (answers_to three spent 2 late ≡ Begun 1 ∷ On ∷ On ∷ On ∷ On ∷ Begun 2 ∷ [])
    × (out_of_range three at_the_end.store at_the_end.table ≡ false)
    × (answers_to three at_the_end 2 (dealing true 4) ≡ Refused 11 ∷ On ∷ Refused 11 ∷ On ∷ [])
    × (served_in three at_the_end 2 (dealing true 4) ≡ 0 ∷ 2 ∷ 0 ∷ 2 ∷ [])
    × (memory_after three at_the_end 2 (dealing true 1) ≡ at_the_end)
    × (dealer_after three at_the_end 2 (dealing true 1) ≡ 0)
    × (answers_to three at_the_end 2 (dealing false 4) ≡ Refused 11 ∷ On ∷ Refused 11 ∷ On ∷ [])
    × (served_in three at_the_end 2 (dealing false 4) ≡ 0 ∷ 2 ∷ 0 ∷ 2 ∷ [])
unfolding three spent late at_the_end dealing arrival lent address read write every blank store_in_range table_in_range is_free first_free_of first_free
    words_from open_store open_table enqueue_start dequeue_start found settle step_1 step_4 step_5 step_6 walk step_8 step_9 step open_refusal enqueue_refusal
    dequeue_refusal step_refusal open_pool act narrow_refusal narrow_act turns_after narrow_call bucket_of first_busy_of deal_refusal dealt memory_after
    dealer_after answers_to served_in
moves_on = (refl, refl, refl, refl, refl, refl, refl, refl)
