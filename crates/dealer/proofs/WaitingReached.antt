-- What the bound on waiting and its hypotheses are for: computed runs. Three workers begin a take each, and a new dealer deals.
--     reached                            two dealt turns pass worker 2 by, and the third is its own
--     all_turns_needed_begun             so one turn fewer than workers is too few, where the call is in progress at the beginning
--     all_turns_needed                   so where it stays in progress; all_turns_needed_opened, also after an opening
--     helped_by_host                     the host makes one turn of worker 2 itself, and its call stays in progress: it is served by the third dealt turn
--     no_turn_needed                     and ends its call: the dealer then has no turn for it; no_turn_needed_opened, also after an opening
--     leak, unrefused_3_needed_begun     a dealt turn leads it out of range, and every later one is refused by 3
--     unrefused_3_needed                 so also where the call stays in progress
-- Assumes nothing.
use Rattle.std.specs.Prelude.{◌≡◌, refl, List, [], ◌∷◌, true, false, ℕ, ◌-◌, ◌<◌, ◌≤◌}
use Rattle.std.proofs.Common.{sym, ap, ◌∙◌, arith}
use Rattle.arrival.specs.declared.Shape.{Shape}
use Rattle.arrival.specs.declared.Action.TheVariants.{Step}
use Rattle.arrival.specs.declared.Request.TheVariants.{Whole}
use Rattle.arrival.specs.declared.Response.TheVariants.{Opened, On, Refused}
use Rattle.laws.specs.Tests.{never}
use Rattle.laws.specs.Counting.{every}
use Rattle.laws.specs.Lists.{words_from}
use Rattle.laws.specs.FirstOf.{first_of}
use Rattle.calendar.specs.rules.Layout.{address, read, write}
use Rattle.calendar.specs.rules.Ranges.{blank, worker, store_in_range, table_in_range}
use Rattle.calendar.specs.rules.Reclaim.{in_progress}
use Rattle.calendar.specs.rules.Opening.{open_store, open_table}
use Rattle.calendar.specs.rules.Starts.{dequeue_start}
use Rattle.calendar.specs.rules.SearchSteps.{settle, step_3}
use Rattle.calendar.specs.rules.DequeueSteps.{walk, step_8, step_9, step_13}
use Rattle.calendar.specs.rules.Steps.{step}
use Rattle.calendar.specs.rules.Refusals.{too_short, out_of_range, memory_tests, open_refusal, dequeue_refusal, step_refusal}
use Rattle.calendar.specs.rules.Operations.{Memory, open_pool, act}
use Rattle.calendar.specs.rules.NarrowCalls.{narrow_refusal, narrow_act, turns_after, narrow_call}
use Rattle.calendar.proofs.facts.Starred.{lent}
use Rattle.lists.specs.NodeReuse.{always_in_range}
use Rattle.dealer.specs.Dealing.{new_dealer, first_busy_of, deal_refusal, dealt}
use Rattle.dealer.specs.DealtHistory.{Move, asks, memory_after, dealer_after, answers_to, served_in, among, deals_in, no_turn_of}
use Rattle.dealer.specs.DealtHistory.{Unrefused3, StaysInProgress}
use Rattle.dealer.specs.DealtExample.{three, dealing, at_stage}
use Rattle.dealer.proofs.DealtInRange.{never_3, kept_after}
use Rattle.dealer.proofs.Waited.{begun_stays, open_able}
use Rattle.dealer.specs.WaitingReached.{begins, pool, ended_by_host, leaky}

-- ── the bound ──
pub reached :
    (dealer_after three (open_pool three lent).memory (new_dealer three) begins ≡ 2)
    × (in_progress (worker pool.table 2) ≡ true)
    × (served_in three pool 2 (dealing true 2) ≡ 0 ∷ 1 ∷ [])
    × (served_in three pool 2 (dealing true 3) ≡ 0 ∷ 1 ∷ 2 ∷ [])
    × (served_in three pool 2 (dealing false 2) ≡ 0 ∷ 1 ∷ [])
    × (served_in three pool 2 (dealing false 3) ≡ 0 ∷ 1 ∷ 2 ∷ [])
    × (first_of (memory_tests three (too_short three pool.store pool.table) false 2) ≡ 0)
unfolding three begins pool dealing lent address read write every blank store_in_range table_in_range words_from open_store open_table dequeue_start step_8
    step open_refusal dequeue_refusal step_refusal open_pool act narrow_refusal narrow_act turns_after narrow_call first_busy_of deal_refusal dealt
    memory_after dealer_after served_in
reached = (refl, refl, refl, refl, refl, refl, refl)

-- no turn that is dealt to this pool is refused by 3
in_range_lem : (xs : List Move) → Unrefused3 three pool 2 xs
unfolding three pool lent open_pool open_refusal
in_range_lem xs = never_3 three xs pool 2 (kept_after three begins _ 2 (always_in_range three lent refl, open_able three lent refl 2 (omega arith))).0

-- WAITING with one turn fewer is false: where the call is in progress at the beginning,
pub all_turns_needed_begun :
    ((sh : Shape) (m : Memory) (last i : ℕ) (xs : List Move)
    → first_of (memory_tests sh (too_short sh m.store m.table) false last) ≡ 0
    → i < sh.workers → in_progress (worker m.table i) ≡ true → no_turn_of i xs ≡ true → Unrefused3 sh m last xs → sh.workers - 1 ≤ deals_in xs
    → among i (served_in sh m last xs) ≡ true) → ⊥
unfolding three dealing
all_turns_needed_begun claim =
    never (sym (ap (among 2) reached.2) ∙ claim three pool 2 2 (dealing true 2) reached.6 (omega arith) reached.1 refl (in_range_lem _) (omega arith))

-- so where it stays in progress,
pub all_turns_needed :
    ((sh : Shape) (m : Memory) (last i : ℕ) (xs : List Move)
    → first_of (memory_tests sh (too_short sh m.store m.table) false last) ≡ 0
    → i < sh.workers → StaysInProgress sh m last i xs → Unrefused3 sh m last xs → sh.workers - 1 ≤ deals_in xs
    → among i (served_in sh m last xs) ≡ true) → ⊥
all_turns_needed claim =
    all_turns_needed_begun (λ sh m last i xs e l busy own U all. claim sh m last i xs e l (begun_stays sh i xs m last busy own) U all)

-- and after an opening
pub all_turns_needed_opened :
    ((sh : Shape) (m : Memory) → (open_pool sh m).response ≡ Opened → (last i : ℕ) (xs ys : List Move)
    → let p = (open_pool sh m).memory in let n = memory_after sh p last xs in let d = dealer_after sh p last xs in
    last < sh.workers → i < sh.workers → in_progress (worker n.table i) ≡ true → no_turn_of i ys ≡ true → sh.workers - 1 ≤ deals_in ys
    → among i (served_in sh n d ys) ≡ true) → ⊥
unfolding three pool dealing lent open_pool open_refusal
all_turns_needed_opened claim =
    let late = claim three lent refl 2 2 begins (dealing true 2) (omega arith) (omega arith) reached.1 refl (omega arith) in
    never (sym (ap (λ d. among 2 (served_in three pool d (dealing true 2))) reached.0 ∙ ap (among 2) reached.2) ∙ late)

-- ── turns of the host's ──
pub helped_by_host :
    let xs = asks (Whole (Step 2)) ∷ dealing true 3 in
    (no_turn_of 2 xs ≡ false) × StaysInProgress three pool 2 2 xs × (served_in three pool 2 xs ≡ 0 ∷ 1 ∷ 2 ∷ [])
unfolding three begins pool dealing lent address read write every blank store_in_range table_in_range words_from open_store open_table dequeue_start walk step_8
    step_9 step open_refusal dequeue_refusal step_refusal open_pool act first_busy_of deal_refusal dealt memory_after served_in StaysInProgress
helped_by_host = (refl, (refl, λ a. (refl, λ b. (refl, λ c. tt))), refl)

ended_run : served_in three pool 2 ended_by_host ≡ 0 ∷ 1 ∷ 0 ∷ []
unfolding three begins pool dealing ended_by_host lent address read write every blank store_in_range table_in_range words_from open_store open_table
    dequeue_start walk step_8 step_9 step_13 step open_refusal dequeue_refusal step_refusal open_pool act first_busy_of deal_refusal dealt memory_after
    served_in
ended_run = refl

pub no_turn_needed :
    ((sh : Shape) (m : Memory) (last i : ℕ) (xs : List Move)
    → first_of (memory_tests sh (too_short sh m.store m.table) false last) ≡ 0
    → i < sh.workers → in_progress (worker m.table i) ≡ true → Unrefused3 sh m last xs → sh.workers ≤ deals_in xs
    → among i (served_in sh m last xs) ≡ true) → ⊥
unfolding three dealing ended_by_host
no_turn_needed claim =
    never (sym (ap (among 2) ended_run) ∙ claim three pool 2 2 ended_by_host reached.6 (omega arith) reached.1 (in_range_lem _) (omega arith))

pub no_turn_needed_opened :
    ((sh : Shape) (m : Memory) → (open_pool sh m).response ≡ Opened → (last i : ℕ) (xs ys : List Move)
    → let p = (open_pool sh m).memory in let n = memory_after sh p last xs in let d = dealer_after sh p last xs in
    last < sh.workers → i < sh.workers → in_progress (worker n.table i) ≡ true → sh.workers ≤ deals_in ys
    → among i (served_in sh n d ys) ≡ true) → ⊥
unfolding three pool dealing ended_by_host lent open_pool open_refusal
no_turn_needed_opened claim =
    let late = claim three lent refl 2 2 begins ended_by_host (omega arith) (omega arith) reached.1 (omega arith) in
    never (sym (ap (λ d. among 2 (served_in three pool d ended_by_host)) reached.0 ∙ ap (among 2) ended_run) ∙ late)

pub leak :
    (out_of_range three leaky.store leaky.table ≡ false)
    × (answers_to three leaky 2 (dealing true 3) ≡ On ∷ Refused 3 ∷ Refused 3 ∷ [])
    × (served_in three leaky 2 (dealing true 3) ≡ 0 ∷ [])
unfolding three dealing leaky at_stage address read write every store_in_range table_in_range settle step_3 step step_refusal act first_busy_of deal_refusal
    dealt answers_to served_in
leak = (refl, refl, refl)

pub unrefused_3_needed_begun :
    ((sh : Shape) (m : Memory) (last i : ℕ) (xs : List Move)
    → first_of (memory_tests sh (too_short sh m.store m.table) false last) ≡ 0
    → i < sh.workers → in_progress (worker m.table i) ≡ true → no_turn_of i xs ≡ true → sh.workers ≤ deals_in xs
    → among i (served_in sh m last xs) ≡ true) → ⊥
unfolding three dealing leaky at_stage
unrefused_3_needed_begun claim =
    never (sym (ap (among 2) leak.2) ∙ claim three leaky 2 2 (dealing true 3) refl (omega arith) refl refl (omega arith))

pub unrefused_3_needed :
    ((sh : Shape) (m : Memory) (last i : ℕ) (xs : List Move)
    → first_of (memory_tests sh (too_short sh m.store m.table) false last) ≡ 0
    → i < sh.workers → StaysInProgress sh m last i xs → sh.workers ≤ deals_in xs
    → among i (served_in sh m last xs) ≡ true) → ⊥
unrefused_3_needed claim =
    unrefused_3_needed_begun (λ sh m last i xs e l busy own all. claim sh m last i xs e l (begun_stays sh i xs m last busy own) all)
