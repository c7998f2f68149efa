-- Demand 3 as a statement: every interleaving has a sequential order, and no item or node is lost or shared on the way.
-- It speaks of histories, memory, ledger and sequential queue. Assumes nothing.
use Rattle.std.specs.Prelude.{◌≡◌, ◌≢◌, ◌⊎◌, true, false, ℕ, ◌+◌, ◌≤◌, ◌<◌}
use mathlib.Core.List.{List, [], ◌∷◌, map, Memᴰ}
use Rattle.std.proofs.Math.Option.{Option, none, some}
use Rattle.arrival.specs.declared.Shape.{Shape}
use Rattle.arrival.specs.declared.Arrival.{Arrival}
use Rattle.arrival.specs.declared.Item.{Item}
use Rattle.arrival.specs.declared.Action.{Action}
use Rattle.arrival.specs.declared.Action.TheVariants.{Enqueue}
use Rattle.arrival.specs.declared.Response.TheVariants.{Opened, Begun}
use Rattle.arrival.specs.Keys.{bucket_of}
use Rattle.arrival.specs.Queue.{enqueue, dequeue, Reply, dequeued, replies, taken}
use Rattle.laws.specs.Lists.{Once}
use Rattle.calendar.specs.rules.Layout.{link, item_at, is_marked}
use Rattle.calendar.specs.rules.Ranges.{worker, store_in_range, table_in_range}
use Rattle.calendar.specs.rules.Reclaim.{in_progress}
use Rattle.calendar.specs.rules.Operations.{Memory, open_pool, act, run}
use Rattle.calendar.specs.rules.Ledger.{Ledger, new, succeeds_11, ledger}
use Rattle.calendar.specs.rules.Snapshot.{bucket_list, unmarked_of, unmarked_to, holds, has_linked, has_marked, workers_with}

-- ── the order ──
abbrev pub Finished : Ledger → ℕ → Type 0
Finished L c = (s : ℕ) × (L.ended c ≡ some s)

-- y had ended before x started: x is one of the calls that started after y's end
abbrev pub EndedBefore : Ledger → ℕ → ℕ → Type 0
EndedBefore L y x = (s : ℕ) × (L.ended y ≡ some s) × (s < x)

-- what stands first had not started after the end of what stands behind it
abbrev pub RespectsTime : Ledger → List ℕ → Type 0
RespectsTime L [] = Unit {0}
RespectsTime L (x ∷ ys) = ((y : ℕ) → Memᴰ y ys → EndedBefore L y x → ⊥) × RespectsTime L ys

-- The pool's answer to call c, with the ticket of the item marked at 11.
abbrev pub mark_ticket : Option Item → ℕ
mark_ticket none = 0
mark_ticket (some x) = x.ticket

abbrev pub pool_reply : Ledger → ℕ → Reply
pool_reply L c = record { response = L.response c; ticket = mark_ticket (L.marked c) }

-- there is a reply for each call, and P holds of both
abbrev pub Each : (ℕ → Reply → Type 0) → List ℕ → List Reply → Type 0
Each P [] [] = Unit {0}
Each P [] (r ∷ rs) = ⊥
Each P (c ∷ cs) [] = ⊥
Each P (c ∷ cs) (r ∷ rs) = P c r × Each P cs rs

-- the queue's replies are the pool's, wherever the call has finished
abbrev pub Agree : Ledger → List ℕ → List Reply → Type 0
Agree L = Each (λ c r. Finished L c → r ≡ pool_reply L c)

-- a take that has not finished has marked the very item that the queue gives it
abbrev pub MarkedAhead : Ledger → List ℕ → List Reply → Type 0
MarkedAhead L = Each (λ c r. L.asked c ≡ dequeue → L.ended c ≡ none → (x : Item) × (L.marked c ≡ some x) × (r ≡ dequeued (some x)))

pub record Linearization (L : Ledger) : Type 0 where
  pub order : List ℕ
  -- each is a start that was not refused, and stands once
  pub calls : (c : ℕ) → Memᴰ c order → (1 ≤ c) × (c ≤ L.started)
  pub once : Once order
  -- every finished call is there
  pub finished : (c : ℕ) → Finished L c → Memᴰ c order
  pub real_time : RespectsTime L order
  -- the sequential queue, fed these calls in this order, answers as the pool did
  pub agrees : Agree L order (replies [] (map L.asked order))
  -- and gives each take that stands there unfinished what it has marked
  pub marked_ahead : MarkedAhead L order (replies [] (map L.asked order))

-- ── calls ──
-- call c is in progress at some worker
abbrev pub InProgress : Shape → Memory → Ledger → ℕ → Type 0
InProgress sh m L c = (i : ℕ) × (i < sh.workers) × (L.call_of i ≡ c) × (in_progress (worker m.table i) ≡ true)

-- ── items and nodes ──
-- the take d is in progress at some worker and holds x
abbrev pub HeldBy : Shape → Memory → Ledger → ℕ → Item → Type 0
HeldBy sh m L d x =
    (i : ℕ) × (i < sh.workers) × (L.call_of i ≡ d) × (has_marked (worker m.table i) ≡ true) × (item_at sh m.store (worker m.table i).own ≡ x)

abbrev pub AnsweredBy : Ledger → ℕ → Item → Type 0
AnsweredBy L d x = Finished L d × (L.response d ≡ taken x)

-- n unmarked nodes hold x: one, and nobody has marked it; or none, and a take has
abbrev pub ListedOrMarked : Ledger → Item → ℕ → Type 0
ListedOrMarked L x n = ((n ≡ 1) × ((d : ℕ) → L.marked d ≢ some x)) ⊎ ((n ≡ 0) × ((d : ℕ) × (L.marked d ≡ some x)))

-- What holds of the memory and the ledger after a history.
pub record Correct (sh : Shape) (m : Memory) (L : Ledger) : Type 0 where
  pub linearization : Linearization L
  -- a call that started is in progress or has ended, and not both
  pub in_progress_or_ended : (c : ℕ) → 1 ≤ c → c ≤ L.started → InProgress sh m L c ⊎ Finished L c
  pub in_progress_not_ended : (c : ℕ) → InProgress sh m L c → L.ended c ≡ none
  -- every field lies in its range
  pub in_range_lem : (store_in_range sh m.store ≡ true) × (table_in_range sh m.table ≡ true)
  -- each bucket has a list
  pub lists : ℕ → List ℕ
  pub listed : (b : ℕ) → b < sh.buckets → bucket_list sh m.store b ≡ some (lists b)
  -- no put gets a node that another call in progress stands on
  pub not_held : (i c : ℕ) (a : Arrival) → (act sh m (Enqueue i a)).response ≡ Begun c
      → (j : ℕ) → j < sh.workers → j ≢ i → holds sh (worker m.table j) (worker (act sh m (Enqueue i a)).memory.table i).own ≡ false
  -- a take marks once, no two takes mark one arrival, and what is marked was put
  pub marks_new : (i : ℕ) → i < sh.workers → succeeds_11 sh m.store (worker m.table i) ≡ true → L.marked (L.call_of i) ≡ none
  pub marked_once : (c d : ℕ) (x y : Item) → L.marked c ≡ some x → L.marked d ≡ some y → x.ticket ≡ y.ticket → c ≡ d
  pub marked_put : (d : ℕ) (x : Item) → L.marked d ≡ some x → L.asked x.ticket ≡ enqueue x
  -- whoever marked an arrival holds it or has answered it; whoever holds one has marked it
  pub marked_kept : (d : ℕ) (x : Item) → L.marked d ≡ some x → HeldBy sh m L d x ⊎ AnsweredBy L d x
  pub held_marked : (d : ℕ) (x : Item) → HeldBy sh m L d x → L.marked d ≡ some x
  -- an unmarked node of a bucket's list holds an arrival that was put, and whose bucket it is
  pub listed_put : (b n : ℕ) → b < sh.buckets → Memᴰ n (lists b) → is_marked (link sh m.store n) ≡ false
      → (L.asked (item_at sh m.store n).ticket ≡ enqueue (item_at sh m.store n)) × (bucket_of sh (item_at sh m.store n).time ≡ b)
  -- an arrival whose put has ended is unmarked in its bucket's list exactly once, until a take has marked it
  pub not_lost : (c : ℕ) (x : Item) → L.asked c ≡ enqueue x → Finished L c → ListedOrMarked L x (unmarked_of sh m.store x (lists (bucket_of sh x.time)))
  -- stored + puts at 6 and 7 = arrivals answered + takes at 1 to 3 + unmarked nodes in the lists
  pub balance : L.stored + workers_with sh m.table has_linked ≡ L.took + workers_with sh m.table has_marked + unmarked_to sh m.store lists sh.buckets

-- P holds after any opening that is not refused and any history of starts and turns, refused ones included
abbrev pub Always : (Shape → Memory → Ledger → Type 0) → Type 0
Always P =
    (sh : Shape) (m : Memory) → (open_pool sh m).response ≡ Opened → (h : List Action)
    → P sh (run sh (open_pool sh m).memory h) (ledger sh (open_pool sh m).memory h new)

-- DEMAND 3
unfoldable pub Demand3 : Type 0
Demand3 = Always Correct
