-- What a host does with a pool and a dealer: requests of its own, and dealt turns. Each is given the memory and the dealer as the last one left them.
--     Move, moved                        one of the two; what it leaves
--     memory_after, dealer_after           what a list of them leaves
--     answers_to, served_in                the responses on the way; the workers that the dealer served
--     among, deals_in                     whether a worker is among the served; how many turns were to be dealt
--     is_turn_of, no_turn_of                 the host makes no turn of worker i itself
--     Unrefused3                         no turn to be dealt is refused by 3
--     StaysInProgress, Waiting           until worker i is served its call stays in progress: the bound on waiting for a turn
--     WaitingBegun, WaitingOpened        the call is in progress at the beginning, and the host makes no turn of it; after an opening
--     requests_in                         the requests that are made, dealt turns among them
--     refused_in, filled                  by what no turn was dealt; responses with those between them
--     all_whole, DealerCovered            every look is at the whole memory; dealt turns are turns, on any memory
--     DealerCorrect, DealerDemand3       and after an opening all of demand 3 holds
-- Assumes nothing.
use Rattle.std.specs.Prelude.{◌≡◌, List, [], ◌∷◌, map, Bool, true, false, cond, not, ◌&&◌, ◌||◌, ◌≢◌, ℕ, zero, suc, ◌<◌, ◌≤◌, eqb}
use Rattle.laws.specs.FirstOf.{first_of}
use Rattle.arrival.specs.declared.Shape.{Shape}
use Rattle.arrival.specs.declared.Action.{Action}
use Rattle.arrival.specs.declared.Action.TheVariants.{Enqueue, Dequeue, Step}
use Rattle.arrival.specs.declared.Request.{Request}
use Rattle.arrival.specs.declared.Request.TheVariants.{Whole, Narrow}
use Rattle.arrival.specs.declared.Response.{Response}
use Rattle.arrival.specs.declared.Response.TheVariants.{Opened, Refused}
use Rattle.calendar.specs.rules.Ranges.{worker}
use Rattle.calendar.specs.rules.Reclaim.{in_progress}
use Rattle.calendar.specs.rules.Refusals.{too_short, memory_tests}
use Rattle.calendar.specs.rules.Operations.{Memory, open_pool, run, responses}
use Rattle.calendar.specs.rules.HostHistory.{requested, host_run, host_answers, action_of, HostCorrect}
use Rattle.dealer.specs.Dealing.{Deal, deal_refusal, turn_of, dealt}

-- a request of the host's own, or a turn to be dealt, with a look at the whole memory or not
pub data Move : Type 0 where
  asks : Request → Move
  deals : Bool → Move

abbrev pub moved : Shape → Memory → ℕ → Move → Deal
moved sh m last (asks q) = record { memory = (requested sh m q).memory; dealer = last; turns = 0; response = (requested sh m q).response }
moved sh m last (deals whole) = dealt whole sh m last

unfoldable pub memory_after : Shape → Memory → ℕ → List Move → Memory
memory_after sh m last [] = m
memory_after sh m last (x ∷ xs) = let r = moved sh m last x in memory_after sh r.memory r.dealer xs

unfoldable pub dealer_after : Shape → Memory → ℕ → List Move → ℕ
dealer_after sh m last [] = last
dealer_after sh m last (x ∷ xs) = let r = moved sh m last x in dealer_after sh r.memory r.dealer xs

unfoldable pub answers_to : Shape → Memory → ℕ → List Move → List Response
answers_to sh m last [] = []
answers_to sh m last (x ∷ xs) = let r = moved sh m last x in r.response ∷ answers_to sh r.memory r.dealer xs

-- ── waiting ──
-- the workers that the dealer served, in order
unfoldable pub served_in : Shape → Memory → ℕ → List Move → List ℕ
served_in sh m last [] = []
served_in sh m last (x ∷ xs) =
    let r = moved sh m last x in
    cond (eqb r.turns 0) (served_in sh r.memory r.dealer xs) (r.dealer ∷ served_in sh r.memory r.dealer xs)

abbrev pub among : ℕ → List ℕ → Bool
among i [] = false
among i (j ∷ js) = eqb j i || among i js

abbrev pub deals_in : List Move → ℕ
deals_in [] = 0
deals_in (asks q ∷ xs) = deals_in xs
deals_in (deals whole ∷ xs) = suc (deals_in xs)

abbrev pub is_turn_of : ℕ → Action → Bool
is_turn_of i (Enqueue j a) = false
is_turn_of i (Dequeue j) = false
is_turn_of i (Step j) = eqb j i

-- starts of any worker, worker i among them, and turns of others
abbrev pub no_turn_of : ℕ → List Move → Bool
no_turn_of i [] = true
no_turn_of i (asks q ∷ xs) = not (is_turn_of i (action_of q)) && no_turn_of i xs
no_turn_of i (deals whole ∷ xs) = no_turn_of i xs

-- no turn to be dealt is refused by 3 (starts may be)
unfoldable pub Unrefused3 : Shape → Memory → ℕ → List Move → Type 0
Unrefused3 sh m last [] = Unit {0}
Unrefused3 sh m last (asks q ∷ xs) = let r = moved sh m last (asks q) in Unrefused3 sh r.memory r.dealer xs
Unrefused3 sh m last (deals whole ∷ xs) = let r = dealt whole sh m last in (r.response ≢ Refused 3) × Unrefused3 sh r.memory r.dealer xs

-- at each turn to be dealt, until worker i is served, it has a call in progress
unfoldable pub StaysInProgress : Shape → Memory → ℕ → ℕ → List Move → Type 0
StaysInProgress sh m last i [] = Unit {0}
StaysInProgress sh m last i (asks q ∷ xs) = let r = moved sh m last (asks q) in StaysInProgress sh r.memory r.dealer i xs
StaysInProgress sh m last i (deals whole ∷ xs) =
    let r = dealt whole sh m last in (in_progress (worker m.table i) ≡ true) × (r.dealer ≢ i → StaysInProgress sh r.memory r.dealer i xs)

-- WAITING: on any memory, from any moment on: neither the lengths nor the dealer are refused (1, 2, 4), and no turn to be dealt is refused by 3. The host may
-- begin whatever it likes, and make turns of its own, also of worker i. A worker whose call stays in progress is served by the time that as many turns are
-- dealt as the shape has workers.
unfoldable pub Waiting : Type 0
Waiting =
    (sh : Shape) (m : Memory) (last i : ℕ) (xs : List Move)
    → first_of (memory_tests sh (too_short sh m.store m.table) false last) ≡ 0
    → i < sh.workers → StaysInProgress sh m last i xs
    → Unrefused3 sh m last xs
    → sh.workers ≤ deals_in xs
    → among i (served_in sh m last xs) ≡ true

-- The same where worker i has a call in progress at the beginning, and the host makes no turn of it: then the call stays in progress.
unfoldable pub WaitingBegun : Type 0
WaitingBegun =
    (sh : Shape) (m : Memory) (last i : ℕ) (xs : List Move)
    → first_of (memory_tests sh (too_short sh m.store m.table) false last) ≡ 0
    → i < sh.workers → in_progress (worker m.table i) ≡ true
    → no_turn_of i xs ≡ true → Unrefused3 sh m last xs → sh.workers ≤ deals_in xs
    → among i (served_in sh m last xs) ≡ true

-- And so from any moment xs after an opening, where nothing is refused by 3.
unfoldable pub WaitingOpened : Type 0
WaitingOpened =
    (sh : Shape) (m : Memory) → (open_pool sh m).response ≡ Opened → (last i : ℕ) (xs ys : List Move)
    → let p = (open_pool sh m).memory in let n = memory_after sh p last xs in let d = dealer_after sh p last xs in
    last < sh.workers → i < sh.workers → in_progress (worker n.table i) ≡ true
    → no_turn_of i ys ≡ true
    → sh.workers ≤ deals_in ys
    → among i (served_in sh n d ys) ≡ true

-- ── one kind of interleaving ──
-- the requests that are made: the host's own, and the turns that were dealt
unfoldable pub requests_in : Shape → Memory → ℕ → List Move → List Request
requests_in sh m last [] = []
requests_in sh m last (asks q ∷ xs) = q ∷ requests_in sh (requested sh m q).memory last xs
requests_in sh m last (deals whole ∷ xs) =
    let r = dealt whole sh m last in
    let rest = requests_in sh r.memory r.dealer xs in
    cond (eqb (deal_refusal whole sh m last) 0) (turn_of whole r.dealer ∷ rest) rest

-- move by move, the number by which no request was made: 0 where one was
unfoldable pub refused_in : Shape → Memory → ℕ → List Move → List ℕ
refused_in sh m last [] = []
refused_in sh m last (asks q ∷ xs) = 0 ∷ refused_in sh (requested sh m q).memory last xs
refused_in sh m last (deals whole ∷ xs) = let r = dealt whole sh m last in deal_refusal whole sh m last ∷ refused_in sh r.memory r.dealer xs

-- the pool's responses in order, with the dealer's refusals between them
abbrev pub filled : List ℕ → List Response → List Response
filled [] rs = []
filled (zero ∷ ks) [] = []
filled (zero ∷ ks) (r ∷ rs) = r ∷ filled ks rs
filled (suc k ∷ ks) rs = Refused (suc k) ∷ filled ks rs

-- every look is at the whole memory, as in document 01
abbrev pub all_whole : List Move → Bool
all_whole [] = true
all_whole (asks (Whole a) ∷ xs) = all_whole xs
all_whole (asks (Narrow a n) ∷ xs) = false
all_whole (deals whole ∷ xs) = whole && all_whole xs

-- What is promised on any memory:
pub record DealerCovered (sh : Shape) (m : Memory) (last : ℕ) (xs : List Move) : Type 0 where
  -- the memory is what the requests leave, and each answer is the pool's, or a refusal by the dealer;
  pub memory : memory_after sh m last xs ≡ host_run sh m (requests_in sh m last xs)
  pub answers : answers_to sh m last xs ≡ filled (refused_in sh m last xs) (host_answers sh m (requests_in sh m last xs))
  -- where every look is at the whole memory, the requests are starts and turns of Operations
  pub as_turns : all_whole xs ≡ true
      → (memory_after sh m last xs ≡ run sh m (map action_of (requests_in sh m last xs)))
      × (answers_to sh m last xs ≡ filled (refused_in sh m last xs) (responses sh m (map action_of (requests_in sh m last xs))))

-- and after an opening
pub record DealerCorrect (sh : Shape) (m : Memory) (last : ℕ) (xs : List Move) : Type 0 where
  pub covered : DealerCovered sh m last xs
  pub correct : HostCorrect sh m (requests_in sh m last xs)

-- DEMAND 3 WITH A DEALER: after any opening that is not refused, whatever the dealer remembers, any list of requests and dealt turns.
unfoldable pub DealerDemand3 : Type 0
DealerDemand3 =
    (sh : Shape) (m : Memory) → (open_pool sh m).response ≡ Opened → (last : ℕ) (xs : List Move) → DealerCorrect sh (open_pool sh m).memory last xs
