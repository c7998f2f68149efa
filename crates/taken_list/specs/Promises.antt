-- What a reader of the taken list, and a host, may rely on: six promises. They speak of a history's memory and ledger, and name no order of
-- calls but that of their starts.
--     Answers, PutBefore, GoneToAnother, InLists     what became of an arrival, as an onlooker can say it
--     NoOverlap, starts, OneAtATime                  1: used by one at a time
--     NothingPassedOver                              2: nothing earlier is passed over
--     EmptyMeansEmpty                                3: empty means empty
--     TwoTakes, Swapped                              4: two takes
--     Fate, OnceEach                                 5: once each
--     Quiet, TakesInTurn, Ascending, nth             6: drained
--     Drained, DrainedIf, Drains, HostDrains
-- Where 2 and 3 say what holds once a take has ended, the history may be the one that stops with its last turn: so it holds when the take ends.
-- Assumes nothing.
use Rattle.std.specs.Prelude.{◌≡◌, ◌≢◌, ◌⊎◌, true, false, ℕ, zero, suc, ◌+◌, ◌≤◌, ◌<◌}
use mathlib.Core.List.{List, [], ◌∷◌, map, Memᴰ}
use Rattle.std.proofs.Math.Option.{Option, none, some}
use Rattle.arrival.specs.declared.Shape.{Shape}
use Rattle.arrival.specs.declared.Item.{Item}
use Rattle.arrival.specs.declared.Action.{Action}
use Rattle.arrival.specs.declared.Request.{Request}
use Rattle.arrival.specs.declared.Response.TheVariants.{Opened, Stored, Empty}
use Rattle.arrival.specs.Keys.{lower}
use Rattle.arrival.specs.Queue.{enqueue, dequeue, dequeued, replies}
use Rattle.laws.specs.Lists.{words_from}
use Rattle.calendar.specs.rules.Layout.{link, item_at, is_marked}
use Rattle.calendar.specs.rules.Ranges.{worker}
use Rattle.calendar.specs.rules.Reclaim.{in_progress}
use Rattle.calendar.specs.rules.Operations.{Memory, open_pool, run}
use Rattle.calendar.specs.rules.Ledger.{Ledger, new, ledger}
use Rattle.calendar.specs.rules.Snapshot.{bucket_list}
use Rattle.calendar.specs.rules.Linearizability.{Finished, EndedBefore, pool_reply, Agree, HeldBy, AnsweredBy}
use Rattle.calendar.specs.rules.HostHistory.{host_run, one_by_one}

-- ── what became of an arrival ──
-- take d has answered x, which is what it marked
abbrev pub Answers : Ledger → ℕ → Item → Type 0
Answers L d x = AnsweredBy L d x × (L.marked d ≡ some x)

-- x was put, and its put had ended before call d started
abbrev pub PutBefore : Ledger → Item → ℕ → Type 0
PutBefore L x d = (L.asked x.ticket ≡ enqueue x) × EndedBefore L x.ticket d

-- x is marked: another take than d holds it or has answered it
abbrev pub GoneToAnother : Shape → Memory → Ledger → ℕ → Item → Type 0
GoneToAnother sh m L d x = (e : ℕ) × (e ≢ d) × (L.marked e ≡ some x) × (HeldBy sh m L e x ⊎ AnsweredBy L e x)

-- x is in the lists: an unmarked node of a bucket's list holds it
abbrev pub InLists : Shape → Memory → Item → Type 0
InLists sh m x =
    (b : ℕ)
    × (n : ℕ)
    × (ns : List ℕ)
    × (b < sh.buckets)
    × (bucket_list sh m.store b ≡ some ns)
    × Memᴰ n ns
    × (is_marked (link sh m.store n) ≡ false)
    × (item_at sh m.store n ≡ x)

-- ── 1: used by one at a time ──
-- every start comes after the end of the call before it
abbrev pub NoOverlap : Ledger → Type 0
NoOverlap L = (c : ℕ) → 1 ≤ c → c < L.started → EndedBefore L c (c + 1)

-- the calls as they started: 1, 2, ..
abbrev pub starts : Ledger → List ℕ
starts L = words_from (λ c. c) 1 L.started

-- the plain queue, fed the calls as they started, answers each finished call as the pool did
abbrev pub OneAtATime : Shape → Memory → Ledger → Type 0
OneAtATime sh m L = NoOverlap L → Agree L (starts L) (replies [] (map L.asked (starts L)))

-- ── 2: nothing earlier is passed over ──
abbrev pub NothingPassedOver : Shape → Memory → Ledger → Type 0
NothingPassedOver sh m L = (d : ℕ) (x y : Item) → PutBefore L x d → Answers L d y → lower x y ≡ true → GoneToAnother sh m L d x

-- ── 3: empty means empty ──
abbrev pub EmptyMeansEmpty : Shape → Memory → Ledger → Type 0
EmptyMeansEmpty sh m L = (d : ℕ) (x : Item) → PutBefore L x d → Finished L d → L.response d ≡ Empty → GoneToAnother sh m L d x

-- ── 4: two takes ──
-- c ended before d started, and y was in the pool before both
abbrev pub TwoTakes : Shape → Memory → Ledger → Type 0
TwoTakes sh m L = (c d : ℕ) (x y : Item) → EndedBefore L c d → Answers L c x → Answers L d y → EndedBefore L y.ticket c → lower x y ≡ true

-- so where c answers the later of two, d had started when c ended: the takes overlap, or d was the first
abbrev pub Swapped : Shape → Memory → Ledger → Type 0
Swapped sh m L =
    (c d s : ℕ) (x y : Item) → L.ended c ≡ some s → Answers L c x → Answers L d y → EndedBefore L y.ticket c → lower y x ≡ true → d ≤ s

-- ── 5: once each ──
-- one take has answered x, or one holds it, or it is in the lists: only one of the three
abbrev pub Fate : Shape → Memory → Ledger → Item → Type 0
Fate sh m L x =
    (((d : ℕ) × Answers L d x × ((e : ℕ) → Answers L e x → e ≡ d)) × ((e : ℕ) → HeldBy sh m L e x → ⊥) × (InLists sh m x → ⊥))
    ⊎ ((((d : ℕ) × HeldBy sh m L d x × ((e : ℕ) → HeldBy sh m L e x → e ≡ d)) × ((e : ℕ) → Answers L e x → ⊥) × (InLists sh m x → ⊥))
    ⊎ (InLists sh m x × ((e : ℕ) → Answers L e x → ⊥) × ((e : ℕ) → HeldBy sh m L e x → ⊥)))

pub record OnceEach (sh : Shape) (m : Memory) (L : Ledger) : Type 0 where
  -- what a finished put answered is stored, with its ticket
  pub put_stored : (c : ℕ) (x : Item) → L.asked c ≡ enqueue x → Finished L c → L.response c ≡ Stored c
  -- what a finished take answered is an arrival that was put, with all its fields, or empty
  pub answered_put : (d : ℕ) → L.asked d ≡ dequeue → Finished L d
      → (L.response d ≡ Empty) ⊎ ((x : Item) × Answers L d x × (L.asked x.ticket ≡ enqueue x))
  -- no two answers come from one put
  pub answered_once : (c d : ℕ) (x y : Item) → Answers L c x → Answers L d y → x.ticket ≡ y.ticket → c ≡ d
  -- what was put bears the ticket of its put, and is not lost once that has ended
  pub fate : (c : ℕ) (x : Item) → L.asked c ≡ enqueue x → Finished L c → (x.ticket ≡ c) × Fate sh m L x

-- ── 6: drained ──
-- no call is in progress
abbrev pub Quiet : Shape → Memory → Type 0
Quiet sh m = (i : ℕ) → i < sh.workers → in_progress (worker m.table i) ≡ false

-- the calls after the n-th are takes, each started after the end of the one before it
abbrev pub TakesInTurn : ℕ → Ledger → Type 0
TakesInTurn n L = (c : ℕ) → n < c → c ≤ L.started → (L.asked c ≡ dequeue) × (c < L.started → EndedBefore L c (c + 1))

-- each key is lower than all behind it
abbrev pub Ascending : List Item → Type 0
Ascending [] = Unit {0}
Ascending (x ∷ xs) = ((y : Item) → Memᴰ y xs → lower x y ≡ true) × Ascending xs

-- the k-th from 0, or none
abbrev pub nth : List Item → ℕ → Option Item
nth [] k = none
nth (x ∷ xs) zero = some x
nth (x ∷ xs) (suc k) = nth xs k

-- what was in the lists of m, after n starts, comes out in the order of keys, each once, and then empty
pub record Drained (sh : Shape) (m : Memory) (n : ℕ) (L : Ledger) : Type 0 where
  pub left : List Item
  pub ascending : Ascending left
  pub left_listed : (x : Item) → Memᴰ x left → InLists sh m x
  pub listed_left : (x : Item) → InLists sh m x → Memᴰ x left
  pub answers : (k : ℕ) → Finished L (n + suc k) → pool_reply L (n + suc k) ≡ dequeued (nth left k)

-- a place, the ledger there, and the ledger later
abbrev pub DrainedIf : Shape → Memory → Ledger → Ledger → Type 0
DrainedIf sh place before later = Quiet sh place → TakesInTurn before.started later → Drained sh place before.started later

-- after any opening that is not refused and any history h, whatever g goes on from there
abbrev pub Drains : Type 0
Drains =
    (sh : Shape) (m : Memory) → (open_pool sh m).response ≡ Opened → (h g : List Action) → let p = (open_pool sh m).memory in
    let place = run sh p h in
    let before = ledger sh p h new in
    DrainedIf sh place before (ledger sh place g before)

-- the same for a host's requests
abbrev pub HostDrains : Type 0
HostDrains =
    (sh : Shape) (m : Memory) → (open_pool sh m).response ≡ Opened → (qs rs : List Request) → let p = (open_pool sh m).memory in
    let place = host_run sh p qs in
    let before = ledger sh p (one_by_one sh p qs) new in
    DrainedIf sh place before (ledger sh place (one_by_one sh place rs) before)
