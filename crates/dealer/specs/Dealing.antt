-- The dealer: whom it serves next, what refuses a dealt turn, and what the turn and a run of turns leave. Above the pool's own rules: a dealt turn is a turn
-- of them. `whole` says whether a look at all of the lent memory goes before it; if not, it is narrow, and looks only at what it needs.
--     new_dealer                   what a new dealer remembers
--     worker_after, first_busy_of    the worker after one, going round; of the k workers after one, the first that has a call in progress
--     next_served                  the next to be served
--     all_idle                     16
--     served_in_range, deal_out      3
--     deal_tests, deal_refusal      by what no turn is dealt: the lowest that applies, or 0
--     Deal, dealt                 what is left by a dealt turn
--     dealt_on, dealt_run           what is left by at most n of them, behind what was dealt; from the start
-- Assumes nothing.
use Rattle.std.specs.Prelude.{List, [], ◌∷◌, ◌++◌, Bool, true, false, cond, not, ◌&&◌, ◌||◌, ℕ, zero, suc, ◌+◌, ◌-◌, eqb, ltb}
use Rattle.laws.specs.FirstOf.{first_of}
use Rattle.arrival.specs.declared.Shape.{Shape}
use Rattle.arrival.specs.declared.Worker.{Worker}
use Rattle.arrival.specs.declared.Action.TheVariants.{Step}
use Rattle.arrival.specs.declared.Request.{Request}
use Rattle.arrival.specs.declared.Request.TheVariants.{Whole, Narrow}
use Rattle.arrival.specs.declared.Response.{Response}
use Rattle.arrival.specs.declared.Response.TheVariants.{On, Refused}
use Rattle.calendar.specs.rules.Ranges.{words_in_range, record_in_range, worker}
use Rattle.calendar.specs.rules.Reclaim.{in_progress}
use Rattle.calendar.specs.rules.Refusals.{too_short, out_of_range, no_worker, memory_tests}
use Rattle.calendar.specs.rules.Operations.{Memory, Result}
use Rattle.calendar.specs.rules.NarrowCalls.{goes_on}
use Rattle.calendar.specs.rules.HostHistory.{requested}

-- A dealer remembers the worker served last; a new one, the shape's last worker.
abbrev pub new_dealer : Shape → ℕ
new_dealer sh = sh.workers - 1

-- ── whom it serves ──
-- the worker after i, going round from the last worker to worker 0
abbrev pub worker_after : Shape → ℕ → ℕ
worker_after sh i = cond (ltb (i + 1) sh.workers) (i + 1) 0

-- of the k workers that follow i, the first that has a call in progress; `workers` where none has
unfoldable pub first_busy_of : Shape → List Worker → ℕ → ℕ → ℕ
first_busy_of sh t zero i = sh.workers
first_busy_of sh t (suc k) i = cond (in_progress (worker t (worker_after sh i))) (worker_after sh i) (first_busy_of sh t k (worker_after sh i))

-- the first after the one served last, which is itself the last candidate
abbrev pub next_served : Shape → List Worker → ℕ → ℕ
next_served sh t last = first_busy_of sh t sh.workers last

-- ── what refuses it ──
-- 16: no call is in progress
abbrev pub all_idle : Shape → List Worker → ℕ → Bool
all_idle sh t last = eqb (next_served sh t last) sh.workers

-- 3: of the whole memory; or, narrow, of the three first words and of the record of the worker to be served, if there is one
abbrev pub served_in_range : Shape → List Worker → ℕ → Bool
served_in_range sh t last = no_worker sh last || all_idle sh t last || record_in_range sh (worker t (next_served sh t last))

abbrev pub deal_out : Bool → Shape → Memory → ℕ → Bool
deal_out true sh m last = out_of_range sh m.store m.table
deal_out false sh m last = not (words_in_range sh m.store && served_in_range sh m.table last)

-- 1 to 4, where 4 is for a remembered worker outside the shape, and then 16
abbrev pub deal_tests : Bool → Shape → Memory → ℕ → List (ℕ × Bool)
deal_tests whole sh m last =
    memory_tests sh (too_short sh m.store m.table) (deal_out whole sh m last) last ++ (16, all_idle sh m.table last) ∷ []

unfoldable pub deal_refusal : Bool → Shape → Memory → ℕ → ℕ
deal_refusal whole sh m last = first_of (deal_tests whole sh m last)

-- ── a dealt turn ──
-- the memory, what the dealer remembers, how many turns were dealt, and the response
pub record Deal : Type 0 where
  pub memory : Memory
  pub dealer : ℕ
  pub turns : ℕ
  pub response : Response

abbrev pub turn_of : Bool → ℕ → Request
turn_of true i = Whole (Step i)
turn_of false i = Narrow (Step i) 0

-- worker i is served: it has its turn by the rules, whatever that leads to, and the dealer remembers it
abbrev pub serving : ℕ → Result → Deal
serving i r = record { memory = r.memory; dealer = i; turns = 1; response = r.response }

-- nobody is served, by number k
abbrev pub turned_away : ℕ → Memory → ℕ → Deal
turned_away k m last = record { memory = m; dealer = last; turns = 0; response = Refused k }

unfoldable pub dealt : Bool → Shape → Memory → ℕ → Deal
dealt whole sh m last =
    let i = next_served sh m.table last in
    let k = deal_refusal whole sh m last in
    cond (eqb k 0) (serving i (requested sh m (turn_of whole i))) (turned_away k m last)

-- ── a run ──
-- nothing dealt yet
abbrev pub undealt : Memory → ℕ → Deal
undealt m last = record { memory = m; dealer = last; turns = 0; response = On }

-- behind n turns
abbrev pub behind : ℕ → Deal → Deal
behind n r = record { memory = r.memory; dealer = r.dealer; turns = n + r.turns; response = r.response }

-- at most n dealt turns more, each on what the last one left, until a call is answered or one is refused
unfoldable pub dealt_on : Bool → Shape → ℕ → Deal → Deal
dealt_on whole sh zero r = r
dealt_on whole sh (suc n) r = cond (goes_on r.response) (dealt_on whole sh n (behind r.turns (dealt whole sh r.memory r.dealer))) r

abbrev pub dealt_run : Bool → Shape → ℕ → Memory → ℕ → Deal
dealt_run whole sh n m last = dealt_on whole sh n (undealt m last)
