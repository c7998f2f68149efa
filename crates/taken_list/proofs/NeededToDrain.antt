-- What the hypotheses of promise 6 are for: places and what follows them, where takes do not answer what was in the lists. 7 and 3 are arrivals, by times.
--     put_in_progress, take_in_progress     a call in progress at the place
--     put_behind                            a put behind it
--     takes_crossing                        takes that overlap
-- Assumes nothing.
use Rattle.std.specs.Prelude.{◌≡◌, refl, true, false, ◌≢◌, ◌⊎◌, ℕ, zero, suc, ◌+◌, ◌<◌, ◌≤◌}
use Rattle.std.proofs.Common.{sym, ap, ◌∙◌, inl, inr, arith}
use mathlib.Core.List.Memᴰ
use mathlib.Core.List.{List, [], ◌∷◌, ◌++◌, Memᴰ}
use Rattle.std.proofs.Math.Option.{none, some}
use Rattle.arrival.specs.declared.Item.{Item}
use Rattle.arrival.specs.declared.Action.{Action}
use Rattle.arrival.specs.declared.Response.TheVariants.{Empty}
use Rattle.arrival.specs.Keys.{lower, bucket_of}
use Rattle.arrival.specs.Energy.{energy_of}
use Rattle.arrival.specs.Queue.{dequeue, Reply, dequeued, taken}
use Rattle.laws.specs.Tests.{never, by_size}
use Rattle.laws.specs.Counting.{every}
use Rattle.laws.specs.Lists.{words_from}
use Rattle.calendar.specs.rules.Layout.{address, read, write}
use Rattle.calendar.specs.rules.Ranges.{blank, worker, store_in_range, table_in_range}
use Rattle.calendar.specs.rules.Reclaim.{in_progress, is_free, first_free_of, first_free}
use Rattle.calendar.specs.rules.Opening.{open_store, open_table}
use Rattle.calendar.specs.rules.Starts.{enqueue_start, dequeue_start}
use Rattle.calendar.specs.rules.SearchSteps.{found, settle, step_1, step_2, step_3}
use Rattle.calendar.specs.rules.EnqueueSteps.{step_4, step_5, step_6, step_7}
use Rattle.calendar.specs.rules.DequeueSteps.{walk, step_8, step_9, step_10, step_11, step_12, step_13}
use Rattle.calendar.specs.rules.Steps.{no_step, step}
use Rattle.calendar.specs.rules.Refusals.{open_refusal, enqueue_refusal, dequeue_refusal, step_refusal}
use Rattle.calendar.specs.rules.Operations.{open_pool, act, run}
use Rattle.calendar.specs.rules.Ledger.{Ledger, ledger}
use Rattle.calendar.specs.rules.Snapshot.{nodes_from, bucket_list}
use Rattle.calendar.specs.rules.Linearizability.{Finished, EndedBefore, pool_reply}
use Rattle.calendar.proofs.facts.Starred.{arrival, turns, put, take, lent}
use Rattle.calendar.proofs.facts.WorkedHistory.{one_bucket, start}
use Rattle.taken_list.specs.Promises.{InLists, Quiet, TakesInTurn, Ascending, nth, Drained}
use Rattle.taken_list.proofs.Needed.{seen, item, nowhere, beginning}

-- the ledger after g, which goes on from h
abbrev pub afterwards : List Action → List Action → Ledger
afterwards h g = ledger one_bucket (run one_bucket start h) g (seen h)

-- what is said of h and g, where n calls had started at the place
abbrev pub Drain : List Action → ℕ → List Action → Type 0
Drain h n g = Drained one_bucket (run one_bucket start h) n (afterwards h g)

-- ── replies ──
shows_item : (x y : Item) → dequeued (some x) ≡ dequeued (some y) → x ≡ y
shows_item x y e =
    let shown : taken x ≡ taken y = ap (λ (r : Reply). r.response) e in
    let time : x.time ≡ y.time = cc in
    let path : x.path ≡ y.path = cc in
    let order : x.order ≡ y.order = cc in
    let distance : x.distance ≡ y.distance = cc in
    let ticket : x.ticket ≡ y.ticket = ap (λ (r : Reply). r.ticket) e in
    λ i. record { time = time i; path = path i; order = order i; distance = distance i; ticket = ticket i }

shows_one : (x : Item) → dequeued (some x) ≡ dequeued none → ⊥
shows_one x e =
    let shown : taken x ≡ Empty = ap (λ (r : Reply). r.response) e in absurd (let z : ◌≡◌ {A = ℕ} 0 1 = cc in omega arith)

-- where nothing is in the lists, every take answers empty
all_empty : (h g : List Action) (n k : ℕ) → bucket_list one_bucket (run one_bucket start h).store 0 ≡ some [] → Drain h n g
    → Finished (afterwards h g) (n + suc k) → pool_reply (afterwards h g) (n + suc k) ≡ dequeued none
all_empty h g n k e D f = go D.left D.left_listed (D.answers k f)
  where
    go : (left : List Item) → ((x : Item) → Memᴰ x left → InLists one_bucket (run one_bucket start h) x)
        → pool_reply (afterwards h g) (n + suc k) ≡ dequeued (nth left k) → pool_reply (afterwards h g) (n + suc k) ≡ dequeued none
    go [] listed r = r
    go (x ∷ left) listed r = absurd (nowhere h e x (listed x (Memᴰ.head refl)))

-- ── a put in progress ──
-- a put has begun and nothing is in the lists; it goes on, and a take answers its arrival
unfoldable pub going_on : List Action
going_on = turns 0 5 ++ take 0 7

going_on_run :
    ((seen beginning).started ≡ 1)
    × (bucket_list one_bucket (run one_bucket start beginning).store 0 ≡ some [])
    × ((afterwards beginning going_on).ended 2 ≡ some 2)
    × (pool_reply (afterwards beginning going_on) 2 ≡ dequeued (some (item 7 1)))
    × TakesInTurn 1 (afterwards beginning going_on)
unfolding seen item beginning going_on one_bucket start arrival turns put take lent address read write every blank store_in_range table_in_range is_free
    first_free_of first_free words_from open_store open_table enqueue_start dequeue_start found settle step_1 step_2 step_3 step_4 step_5 step_6 step_7 walk
    step_8 step_9 step_10 step_11 step_12 step_13 no_step step open_refusal enqueue_refusal dequeue_refusal step_refusal open_pool act run ledger nodes_from
    lower bucket_of energy_of
going_on_run = (refl, refl, refl, refl, λ c lo hi. let z : c ≡ 2 = omega arith in (rw z refl, λ h. absurd (omega arith)))

pub put_in_progress : ((seen beginning).started ≡ 1) × TakesInTurn 1 (afterwards beginning going_on) × (Drain beginning 1 going_on → ⊥)
put_in_progress =
    let (n, none-listed, f, r, turns) = going_on_run in
    (n, turns, λ D. shows_one (item 7 1) (sym r ∙ all_empty beginning going_on 1 0 none-listed D (2, f)))

-- ── a take in progress ──
-- 3 and 7 are stored, and a take has seen 3; it goes on and takes 3, and one that starts then answers 7
unfoldable pub looking : List Action
looking = put 0 (arrival 3 3) 5 ++ put 0 (arrival 7 3) 6 ++ take 0 3

unfoldable pub taking_on : List Action
taking_on = turns 0 5 ++ take 1 7

taking_on_run :
    ((seen looking).started ≡ 3)
    × InLists one_bucket (run one_bucket start looking) (item 3 1)
    × ((afterwards looking taking_on).ended 4 ≡ some 4)
    × (pool_reply (afterwards looking taking_on) 4 ≡ dequeued (some (item 7 2)))
    × (lower (item 7 2) (item 3 1) ≡ false)
    × ((item 3 1).ticket ≢ (item 7 2).ticket)
    × TakesInTurn 3 (afterwards looking taking_on)
unfolding seen item looking taking_on one_bucket start arrival turns put take lent address read write every blank store_in_range table_in_range is_free
    first_free_of first_free words_from open_store open_table enqueue_start dequeue_start found settle step_1 step_2 step_3 step_4 step_5 step_6 step_7 walk
    step_8 step_9 step_10 step_11 step_12 step_13 no_step step open_refusal enqueue_refusal dequeue_refusal step_refusal open_pool act run ledger nodes_from
    lower bucket_of energy_of
taking_on_run = (
  refl,
  (0, 0, 0 ∷ 1 ∷ [], omega arith, refl, Memᴰ.head refl, refl, refl),
  refl,
  refl,
  refl,
  λ q. omega arith,
  λ c lo hi. let z : c ≡ 4 = omega arith in (rw z refl, λ h. absurd (omega arith)),
)

pub take_in_progress : ((seen looking).started ≡ 3) × TakesInTurn 3 (afterwards looking taking_on) × (Drain looking 3 taking_on → ⊥)
take_in_progress =
    let (n, listed, f, r, l, apart, turns) = taking_on_run in
    (n, turns, λ D. go D.left D.ascending (D.listed_left (item 3 1) listed) (sym r ∙ D.answers 0 (4, f)) l apart)
  where
    go : (left : List Item) → Ascending left → Memᴰ (item 3 1) left → dequeued (some (item 7 2)) ≡ dequeued (nth left 0)
        → lower (item 7 2) (item 3 1) ≡ false → (item 3 1).ticket ≢ (item 7 2).ticket → ⊥
    go [] up i r l apart = Memᴰ.not-nil i
    go (x ∷ left) up i r l apart = pick (Memᴰ.cases_cons i)
      where
        pick : (item 3 1 ≡ x) ⊎ Memᴰ (item 3 1) left → ⊥
        pick (inl e) = apart (ap (λ (z : Item). z.ticket) (e ∙ sym (shows_item (item 7 2) x r)))
        pick (inr j) = never (sym l ∙ ap (λ (z : Item). lower z (item 3 1)) (shows_item (item 7 2) x r) ∙ up.0 (item 3 1) j)

-- ── a put behind the place ──
-- nothing is in the lists; 3 is stored, and a take answers it
unfoldable pub storing : List Action
storing = put 0 (arrival 3 3) 5 ++ take 0 7

storing_run :
    (bucket_list one_bucket (run one_bucket start []).store 0 ≡ some [])
    × ((afterwards [] storing).ended 1 ≡ some 1)
    × ((afterwards [] storing).ended 2 ≡ some 2)
    × (pool_reply (afterwards [] storing) 2 ≡ dequeued (some (item 3 1)))
    × Quiet one_bucket (run one_bucket start [])
unfolding seen item storing one_bucket start arrival turns put take lent address read write every blank store_in_range table_in_range is_free first_free_of
    first_free words_from open_store open_table enqueue_start dequeue_start found settle step_1 step_2 step_3 step_4 step_5 step_6 step_7 walk step_8 step_9
    step_10 step_11 step_12 step_13 no_step step open_refusal enqueue_refusal dequeue_refusal step_refusal open_pool act run ledger nodes_from lower bucket_of
    energy_of
storing_run = (refl, refl, refl, refl, idle)
  where
    idle : (i : ℕ) → i < 2 → in_progress (worker (run one_bucket start []).table i) ≡ false
    idle zero h = refl
    idle (suc zero) h = refl
    idle (suc (suc i)) h = absurd (omega arith)

-- no call was in progress, and the two do not overlap
pub put_behind : Quiet one_bucket (run one_bucket start []) × EndedBefore (afterwards [] storing) 1 2 × (Drain [] 0 storing → ⊥)
put_behind =
    let (none-listed, e, f, r, idle) = storing_run in
    (idle, (1, e, omega arith), λ D. shows_one (item 3 1) (sym r ∙ all_empty [] storing 0 1 none-listed D (2, f)))

-- ── takes that overlap ──
-- 3 and 7 are stored; a take begins, another marks 3, the first answers 7, the other 3: by starts and by ends not in the order of keys
unfoldable pub stored : List Action
stored = put 0 (arrival 3 3) 5 ++ put 0 (arrival 7 3) 6

unfoldable pub crossing : List Action
crossing = take 0 0 ++ take 1 4 ++ turns 0 10 ++ turns 1 1

crossing_run :
    ((seen stored).started ≡ 2)
    × ((afterwards stored crossing).ended 3 ≡ some 4)
    × ((afterwards stored crossing).ended 4 ≡ some 4)
    × (pool_reply (afterwards stored crossing) 3 ≡ dequeued (some (item 7 2)))
    × (pool_reply (afterwards stored crossing) 4 ≡ dequeued (some (item 3 1)))
    × (lower (item 7 2) (item 3 1) ≡ false)
    × Quiet one_bucket (run one_bucket start stored)
    × ((c : ℕ) → 2 < c → c ≤ (afterwards stored crossing).started → (afterwards stored crossing).asked c ≡ dequeue)
unfolding seen item stored crossing one_bucket start arrival turns put take lent address read write every blank store_in_range table_in_range is_free
    first_free_of first_free words_from open_store open_table enqueue_start dequeue_start found settle step_1 step_2 step_3 step_4 step_5 step_6 step_7 walk
    step_8 step_9 step_10 step_11 step_12 step_13 no_step step open_refusal enqueue_refusal dequeue_refusal step_refusal open_pool act run ledger nodes_from
    lower bucket_of energy_of
crossing_run = (refl, refl, refl, refl, refl, refl, idle, takes)
  where
    idle : (i : ℕ) → i < 2 → in_progress (worker (run one_bucket start stored).table i) ≡ false
    idle zero h = refl
    idle (suc zero) h = refl
    idle (suc (suc i)) h = absurd (omega arith)

    takes : (c : ℕ) → 2 < c → c ≤ 4 → (afterwards stored crossing).asked c ≡ dequeue
    takes c lo hi = by_size c 4 (λ h. let z : c ≡ 3 = omega arith in rw z refl) (λ h. let z : c ≡ 4 = omega arith in rw z refl)

-- all are takes, and no call was in progress
pub takes_crossing :
    ((seen stored).started ≡ 2)
    × Quiet one_bucket (run one_bucket start stored)
    × ((c : ℕ) → 2 < c → c ≤ (afterwards stored crossing).started → (afterwards stored crossing).asked c ≡ dequeue)
    × (Drain stored 2 crossing → ⊥)
takes_crossing =
    let (n, e, f, r, q, l, idle, takes) = crossing_run in
    (n, idle, takes, λ D. go D.left D.ascending (sym r ∙ D.answers 0 (4, e)) (sym q ∙ D.answers 1 (4, f)) l)
  where
    go : (left : List Item) → Ascending left → dequeued (some (item 7 2)) ≡ dequeued (nth left 0) → dequeued (some (item 3 1)) ≡ dequeued (nth left 1)
        → lower (item 7 2) (item 3 1) ≡ false → ⊥
    go [] up r q l = shows_one (item 7 2) r
    go (x ∷ []) up r q l = shows_one (item 3 1) q
    go (x ∷ y ∷ left) up r q l =
        let h : lower x y ≡ true = up.0 y (Memᴰ.head refl) in
        never (sym l ∙ (λ i. lower (shows_item (item 7 2) x r i) (shows_item (item 3 1) y q i)) ∙ h)
