-- What the hypotheses of promises 1 to 5 are for: runs in which a conclusion fails because its hypothesis does. 7 and 3 are arrivals, by their times.
--     seen, item, nowhere                      the ledger after a history; an arrival by time and ticket; an empty list has none
--     no_overlap_needed                        1: calls that overlap
--     put_before_needed                        2: a put that ended after the take had started
--     put_before_empty_needed                  3: a put that ended after the take had
--     apart_needed, put_before_both_needed     4: takes that overlap; a put that ended after the first take had started
--     end_needed                               5: a put that has not ended
-- Assumes nothing.
use Rattle.std.specs.Prelude.{◌≡◌, refl, Bool, true, false, cond, ◌≢◌, ℕ, ◌<◌, eqb}
use Rattle.std.proofs.Common.{sym, ap, ◌∙◌, subst, inl, inr, arith}
use mathlib.Core.List.Memᴰ
use mathlib.Core.List.{List, [], ◌++◌, map, Memᴰ}
use Rattle.std.proofs.Math.Option.{Option, none, some, none-ne-some, some-injective}
use Rattle.arrival.specs.declared.Item.{Item}
use Rattle.arrival.specs.declared.Action.{Action}
use Rattle.arrival.specs.declared.Response.TheVariants.{Empty}
use Rattle.arrival.specs.Keys.{lower, bucket_of}
use Rattle.arrival.specs.Energy.{energy_of}
use Rattle.arrival.specs.Queue.{enqueue, Reply, replies}
use Rattle.laws.specs.Tests.{never}
use Rattle.laws.specs.Counting.{every}
use Rattle.laws.specs.Lists.{words_from}
use Rattle.calendar.specs.rules.Layout.{address, read, write}
use Rattle.calendar.specs.rules.Ranges.{blank, store_in_range, table_in_range}
use Rattle.calendar.specs.rules.Reclaim.{is_free, first_free_of, first_free}
use Rattle.calendar.specs.rules.Opening.{open_store, open_table}
use Rattle.calendar.specs.rules.Starts.{enqueue_start, dequeue_start}
use Rattle.calendar.specs.rules.SearchSteps.{found, settle, step_1, step_2, step_3}
use Rattle.calendar.specs.rules.EnqueueSteps.{step_4, step_5, step_6, step_7}
use Rattle.calendar.specs.rules.DequeueSteps.{walk, step_8, step_9, step_10, step_11, step_12, step_13}
use Rattle.calendar.specs.rules.Steps.{no_step, step}
use Rattle.calendar.specs.rules.Refusals.{open_refusal, enqueue_refusal, dequeue_refusal, step_refusal}
use Rattle.calendar.specs.rules.Operations.{open_pool, act, run}
use Rattle.calendar.specs.rules.Ledger.{Ledger, new, at, ledger}
use Rattle.calendar.specs.rules.Snapshot.{nodes_from, bucket_list}
use Rattle.calendar.specs.rules.Linearizability.{Finished, EndedBefore, Agree, Correct, Demand3}
use Rattle.calendar.proofs.facts.Starred.{arrival, turns, put, take, lent}
use Rattle.calendar.proofs.facts.WorkedHistory.{one_bucket, start}
use Rattle.interleavings.specs.Demand3.{demand_3}
use Rattle.taken_list.specs.Promises.{Answers, GoneToAnother, InLists, starts, Fate}

unfoldable pub seen : List Action → Ledger
seen h = ledger one_bucket start h new

unfoldable pub item : ℕ → ℕ → Item
item time ticket = record { time = time; path = 7; order = 1; distance = 3; ticket = ticket }

-- an arrival that differs from the only one marked is not marked
not_marked : (f : ℕ → Option Item) (d : ℕ) (x y : Item) → f ≡ at d (some y) (λ c. none) → x.ticket ≢ y.ticket → (e : ℕ) → f e ≡ some x → ⊥
not_marked f d x y is apart e k = go (eqb d e) (ap (λ (g : ℕ → Option Item). g e) (sym is) ∙ k)
  where
    go : (t : Bool) → cond t (some y) none ≡ some x → ⊥
    go true q = apart (ap (λ (z : Item). z.ticket) (sym (some-injective _ _ q)))
    go false q = none-ne-some _ q

-- the pool's one list is empty: nothing is in the lists
pub nowhere : (h : List Action) → bucket_list one_bucket (run one_bucket start h).store 0 ≡ some [] → (x : Item)
    → InLists one_bucket (run one_bucket start h) x → ⊥
unfolding one_bucket
nowhere h e x (b, n, ns, l, q, i, c, t) = go b l q
  where
    go : (b : ℕ) → b < 1 → bucket_list one_bucket (run one_bucket start h).store b ≡ some ns → ⊥
    go b l q =
        let z : b ≡ 0 = omega arith in
        let none_there : ns ≡ [] = some-injective _ _ (sym q ∙ ap (bucket_list one_bucket (run one_bucket start h).store) z ∙ e) in
        Memᴰ.not-nil (subst (λ (k : List ℕ). Memᴰ n k) none_there i)

correct : (h : List Action) → Correct one_bucket (run one_bucket start h) (seen h)
unfolding seen one_bucket start lent open_pool open_refusal Demand3
correct h = demand_3 one_bucket lent refl h

-- ── 1 ──
-- a take begins, 7 is stored, the take answers it: the queue, asked as they started, has nothing for the take
unfoldable pub overlapping : List Action
overlapping = take 0 0 ++ put 1 (arrival 7 3) 5 ++ turns 0 7

pub no_overlap_needed : Agree (seen overlapping) (starts (seen overlapping)) (replies [] (map (seen overlapping).asked (starts (seen overlapping)))) → ⊥
unfolding seen item overlapping one_bucket start arrival turns put take lent address read write every blank store_in_range table_in_range is_free
    first_free_of first_free words_from open_store open_table enqueue_start dequeue_start found settle step_1 step_2 step_3 step_4 step_5 step_6 step_7 walk
    step_8 step_9 step_10 step_11 step_12 step_13 no_step step open_refusal enqueue_refusal dequeue_refusal step_refusal open_pool act run ledger
    nodes_from lower bucket_of energy_of
no_overlap_needed agree = let z : ◌≡◌ {A = ℕ} 0 2 = ap (λ (r : Reply). r.ticket) (agree.0 (2, refl)) in omega arith

-- ── 2 ──
-- a take has seen 7 and pauses, 3 is stored, another call starts, the take answers 7: 3 is not marked
unfoldable pub passing : List Action
passing = put 0 (arrival 7 3) 5 ++ take 1 3 ++ put 0 (arrival 3 3) 6 ++ take 0 0 ++ turns 1 5

passing_run :
    ((seen passing).asked 3 ≡ enqueue (item 3 3))
    × ((seen passing).ended 3 ≡ some 3)
    × ((seen passing).ended 2 ≡ some 4)
    × Answers (seen passing) 2 (item 7 1)
    × (lower (item 3 3) (item 7 1) ≡ true)
    × ((seen passing).marked ≡ at 2 (some (item 7 1)) (λ c. none))
    × ((item 3 3).ticket ≢ (item 7 1).ticket)
unfolding seen item passing one_bucket start arrival turns put take lent address read write every blank store_in_range table_in_range is_free
    first_free_of first_free words_from open_store open_table enqueue_start dequeue_start found settle step_1 step_2 step_3 step_4 step_5 step_6 step_7 walk
    step_8 step_9 step_10 step_11 step_12 step_13 no_step step open_refusal enqueue_refusal dequeue_refusal step_refusal open_pool act run ledger
    nodes_from lower bucket_of energy_of
passing_run = (refl, refl, refl, (((4, refl), refl), refl), refl, refl, λ q. omega arith)

-- it is not enough that the put ended before the take ended
pub put_before_needed :
    ((d s t : ℕ) (x y : Item) → (seen passing).asked x.ticket ≡ enqueue x → (seen passing).ended x.ticket ≡ some s → (seen passing).ended d ≡ some t → s < t
    → Answers (seen passing) d y → lower x y ≡ true → GoneToAnother one_bucket (run one_bucket start passing) (seen passing) d x) → ⊥
unfolding item
put_before_needed claim =
    let (a, e, f, g, l, is, apart) = passing_run in
    let (d, u, k, w) = claim 2 3 4 (item 3 3) (item 7 1) a e f (omega arith) g l in
    not_marked (seen passing).marked 2 (item 3 3) (item 7 1) is apart d k

-- ── 3 ──
-- A take has seen no node, 7 is linked, the take answers empty, and then the put of 7 ends: 7 is not marked. (No run is known in which the put ends during
-- the take: docs/DECISIONS.md, P15.)
unfoldable pub linked : List Action
linked = take 0 2 ++ put 1 (arrival 7 3) 3 ++ turns 0 1 ++ turns 1 2

linked_run :
    ((seen linked).asked 2 ≡ enqueue (item 7 2))
    × ((seen linked).ended 2 ≡ some 2)
    × ((seen linked).ended 1 ≡ some 2)
    × ((seen linked).response 1 ≡ Empty)
    × ((seen linked).marked ≡ (λ c. none))
unfolding seen item linked one_bucket start arrival turns put take lent address read write every blank store_in_range table_in_range is_free
    first_free_of first_free words_from open_store open_table enqueue_start dequeue_start found settle step_1 step_2 step_3 step_4 step_5 step_6 step_7 walk
    step_8 step_9 step_10 step_11 step_12 step_13 no_step step open_refusal enqueue_refusal dequeue_refusal step_refusal open_pool act run ledger
    nodes_from lower bucket_of energy_of
linked_run = (refl, refl, refl, refl, refl)

pub put_before_empty_needed :
    ((x : Item) (d : ℕ) → (seen linked).asked x.ticket ≡ enqueue x → Finished (seen linked) x.ticket → Finished (seen linked) d
    → (seen linked).response d ≡ Empty → GoneToAnother one_bucket (run one_bucket start linked) (seen linked) d x) → ⊥
unfolding item
put_before_empty_needed claim =
    let (a, e, f, r, is) = linked_run in
    let (d, u, k, w) = claim (item 7 2) 1 a (2, e) (2, f) r in
    none-ne-some _ (ap (λ (g : ℕ → Option Item). g d) (sym is) ∙ k)

-- ── 4 ──
-- 3 and 7 are stored; a take marks 3 and pauses, another takes 7, one more starts, the first answers 3
unfoldable pub swapping : List Action
swapping = put 0 (arrival 3 3) 5 ++ put 0 (arrival 7 3) 6 ++ take 0 4 ++ take 1 10 ++ take 1 0 ++ turns 0 1

-- it is not enough that the one ended before the other ended
pub apart_needed :
    ((c d s t : ℕ) (x y : Item) → (seen swapping).ended c ≡ some s → (seen swapping).ended d ≡ some t → s < t → Answers (seen swapping) c x
    → Answers (seen swapping) d y → EndedBefore (seen swapping) y.ticket c → lower x y ≡ true) → ⊥
unfolding seen item swapping one_bucket start arrival turns put take lent address read write every blank store_in_range table_in_range is_free
    first_free_of first_free words_from open_store open_table enqueue_start dequeue_start found settle step_1 step_2 step_3 step_4 step_5 step_6 step_7 walk
    step_8 step_9 step_10 step_11 step_12 step_13 no_step step open_refusal enqueue_refusal dequeue_refusal step_refusal open_pool act run ledger
    nodes_from lower bucket_of energy_of
apart_needed claim =
    never (claim 4 3 4 5 (item 7 2) (item 3 1) refl refl (omega arith) (((4, refl), refl), refl) (((5, refl), refl), refl) (1, refl, omega arith))

-- the take of `passing` answers 7, and one that starts then answers 3
unfoldable pub between : List Action
between = passing ++ take 1 7

-- it is not enough that the put ended before the first take ended
pub put_before_both_needed :
    ((c d s t : ℕ) (x y : Item) → EndedBefore (seen between) c d → Answers (seen between) c x → Answers (seen between) d y
    → (seen between).ended y.ticket ≡ some s → (seen between).ended c ≡ some t → s < t → lower x y ≡ true) → ⊥
unfolding seen item passing between one_bucket start arrival turns put take lent address read write every blank store_in_range table_in_range is_free
    first_free_of first_free words_from open_store open_table enqueue_start dequeue_start found settle step_1 step_2 step_3 step_4 step_5 step_6 step_7 walk
    step_8 step_9 step_10 step_11 step_12 step_13 no_step step open_refusal enqueue_refusal dequeue_refusal step_refusal open_pool act run ledger
    nodes_from lower bucket_of energy_of
put_before_both_needed claim =
    never (claim 2 5 3 4 (item 7 1) (item 3 3) (4, refl, omega arith) (((4, refl), refl), refl) (((5, refl), refl), refl) refl refl (omega arith))

-- ── 5 ──
-- a put has begun: its arrival is nowhere yet
unfoldable pub beginning : List Action
beginning = put 0 (arrival 7 3) 0

beginning_run :
    ((seen beginning).asked 1 ≡ enqueue (item 7 1))
    × ((seen beginning).marked ≡ (λ c. none))
    × (bucket_list one_bucket (run one_bucket start beginning).store 0 ≡ some [])
    × (one_bucket.buckets ≡ 1)
unfolding seen item beginning one_bucket start arrival turns put take lent address read write every blank store_in_range table_in_range is_free
    first_free_of first_free words_from open_store open_table enqueue_start dequeue_start found settle step_1 step_2 step_3 step_4 step_5 step_6 step_7 walk
    step_8 step_9 step_10 step_11 step_12 step_13 no_step step open_refusal enqueue_refusal dequeue_refusal step_refusal open_pool act run ledger
    nodes_from lower bucket_of energy_of
beginning_run = (refl, refl, refl, refl)

pub end_needed :
    ((x : Item) → (seen beginning).asked x.ticket ≡ enqueue x → Fate one_bucket (run one_bucket start beginning) (seen beginning) x) → ⊥
unfolding item
end_needed claim = go (claim (item 7 1) beginning_run.0)
  where
    nobody : (d : ℕ) → (seen beginning).marked d ≡ some (item 7 1) → ⊥
    nobody d k = none-ne-some _ (ap (λ (g : ℕ → Option Item). g d) (sym beginning_run.1) ∙ k)

    go : Fate one_bucket (run one_bucket start beginning) (seen beginning) (item 7 1) → ⊥
    go (inl ((d, g, w), y, z)) = nobody d g.1
    go (inr (inl ((d, g, w), y, z))) = nobody d ((correct beginning).held_marked d (item 7 1) g)
    go (inr (inr (i, y, z))) = nowhere beginning beginning_run.2 (item 7 1) i
