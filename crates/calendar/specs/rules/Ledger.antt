-- What an onlooker writes down while reading a history: the calls, their ends and answers, and what each take marked.
--     Ledger, new                  what is written down; nothing yet
--     begins, ends, marks          a call begins; it is answered; a take marks
--     hears, succeeds_11, sees     what a response tells of a call; what a turn at 11 shows
--     notes, reads, ledger         an action that was not refused; any action; a history
-- Assumes nothing.
use Rattle.std.specs.Prelude.{List, [], ◌∷◌, Bool, cond, ◌&&◌, ℕ, ◌+◌, eqb}
use Rattle.std.proofs.Math.Option.{Option, none, some}
use Rattle.arrival.specs.declared.Shape.{Shape}
use Rattle.arrival.specs.declared.Item.{Item}
use Rattle.arrival.specs.declared.Worker.{Worker}
use Rattle.arrival.specs.declared.Action.{Action}
use Rattle.arrival.specs.declared.Action.TheVariants.{Enqueue, Dequeue, Step}
use Rattle.arrival.specs.declared.Response.{Response}
use Rattle.arrival.specs.declared.Response.TheVariants.{Opened, Begun, On, Stored, Took, Empty, Refused}
use Rattle.arrival.specs.Responses.{said}
use Rattle.arrival.specs.Queue as queue
use Rattle.calendar.specs.rules.Layout.{item_at}
use Rattle.calendar.specs.rules.Ranges.{worker}
use Rattle.calendar.specs.rules.Starts.{item_of}
use Rattle.calendar.specs.rules.DequeueSteps.{link_holds}
use Rattle.calendar.specs.rules.Operations.{Memory, act}

-- A call is known by its ticket: its place among the starts that were not refused, from 1.
pub record Ledger : Type 0 where
  -- how many starts were not refused
  pub started : ℕ
  -- what each call asks of the sequential queue
  pub asked : ℕ → queue.Call
  -- each worker's last call
  pub call_of : ℕ → ℕ
  -- of a finished call, how many calls had started when it ended; and its answer
  pub ended : ℕ → Option ℕ
  pub response : ℕ → Response
  -- of a take that succeeded at 11, what the node that it marked held
  pub marked : ℕ → Option Item
  -- how many calls were answered stored, and how many an arrival
  pub stored : ℕ
  pub took : ℕ

abbrev pub new : Ledger
new = record { started = 0; asked = λ c. queue.dequeue; call_of = λ i. 0; ended = λ c. none; response = λ c. Empty; marked = λ c. none; stored = 0; took = 0 }

-- a function changed at one argument
abbrev pub at : {A : Type 0} → ℕ → A → (ℕ → A) → ℕ → A
at k v f n = cond (eqb k n) v (f n)

-- worker i begins a call
abbrev pub begins : ℕ → queue.Call → Ledger → Ledger
begins i call L =
    let c = L.started + 1 in
    record {
      started = c;
      asked = at c call L.asked;
      call_of = at i c L.call_of;
      ended = L.ended;
      response = L.response;
      marked = L.marked;
      stored = L.stored;
      took = L.took;
    }

-- worker i's call is answered r; it is one more stored, or one more taken
abbrev pub ends : ℕ → Response → ℕ → ℕ → Ledger → Ledger
ends i r more-stored more-taken L =
    let c = L.call_of i in
    record {
      started = L.started;
      asked = L.asked;
      call_of = L.call_of;
      ended = at c (some L.started) L.ended;
      response = at c r L.response;
      marked = L.marked;
      stored = more-stored + L.stored;
      took = more-taken + L.took;
    }

-- worker i's take marks an item
abbrev pub marks : ℕ → Item → Ledger → Ledger
marks i x L =
    record {
      started = L.started;
      asked = L.asked;
      call_of = L.call_of;
      ended = L.ended;
      response = L.response;
      marked = at (L.call_of i) (some x) L.marked;
      stored = L.stored;
      took = L.took;
    }

-- A turn answers a call by stored, empty or an arrival; any other response leaves it in progress.
abbrev pub hears : ℕ → Response → Ledger → Ledger
hears i Opened L = L
hears i (Begun c) L = L
hears i On L = L
hears i (Stored c) L = ends i (Stored c) 1 0 L
hears i (Took time path order distance energy) L = ends i (Took time path order distance energy) 0 1 L
hears i Empty L = ends i Empty 0 0 L
hears i (Refused k) L = L

-- the turn of w is a successful 11
abbrev pub succeeds_11 : Shape → List ℕ → Worker → Bool
succeeds_11 sh s w = eqb w.stage 11 && link_holds sh s w

-- worker i's turn, before it is made: a successful 11 marks what the node holds
abbrev pub sees : Shape → Memory → ℕ → Ledger → Ledger
sees sh m i L =
    let w = worker m.table i in
    cond (succeeds_11 sh m.store w) (marks i (item_at sh m.store w.right) L) L

-- an action that was not refused, with its response
abbrev pub notes : Shape → Memory → Action → Response → Ledger → Ledger
notes sh m (Enqueue i a) r L = begins i (queue.enqueue (item_of a (L.started + 1))) L
notes sh m (Dequeue i) r L = begins i queue.dequeue L
notes sh m (Step i) r L = hears i r (sees sh m i L)

-- What was refused leaves the ledger unchanged.
abbrev pub reads : Shape → Memory → Action → Ledger → Ledger
reads sh m a L = let r = (act sh m a).response in cond (eqb (said r).number 0) (notes sh m a r L) L

-- the ledger after a history
unfoldable pub ledger : Shape → Memory → List Action → Ledger → Ledger
ledger sh m [] L = L
ledger sh m (a ∷ h) L = ledger sh (act sh m a).memory h (reads sh m a L)
