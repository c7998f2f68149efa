-- A run of dealt turns as the code has it, by value: how it begins, and what a look at one candidate makes of it.
--     Run                             it goes on, or has ended
--     stopped_by, started_at, begun   ended where it stands; behind a worker; before the first turn
--     passed_by, moved_on             past a candidate with no call in progress; past a turn
--     Visited, visits, visited        run, record and store behind a look at a candidate: of what the code left, and by the rules
--     Visitable                       what the look needs
-- Assumes nothing.
use Rattle.std.specs.Prelude.{◌≡◌, List, Bool, true, cond, not, ◌||◌, ℕ, ◌+◌, ◌-◌, ◌<◌, eqb, length}
use Rattle.std.specs.declared.ops.ControlFlow.{ControlFlow}
use Rattle.std.specs.declared.ops.ControlFlow.TheVariants.{Continue, Break}
use Rattle.arrival.specs.declared.Worker.{Worker}
use Rattle.arrival.specs.declared.Response.{Response}
use Rattle.arrival.specs.declared.Response.TheVariants.{On, Refused}
use Rattle.calendar.specs.rules.Ranges.{shape_in_range, record_in_range}
use Rattle.calendar.specs.rules.Reclaim.{in_progress}
use Rattle.calendar.specs.rules.NarrowCalls.{goes_on}
use Rattle.words.specs.Done.{Done}
use Rattle.admission.specs.Gate.{gate_of}
use Rattle.stages.specs.Ready.{Ready}
use Rattle.stages.specs.LocalStep.{local_step}
use Rattle.dealer.specs.declared.asks.Ask.{Ask}
use Rattle.dealer.specs.declared.runs.Going.{Going}
use Rattle.dealer.specs.declared.runs.Ended.{Ended}
use Rattle.dealer.specs.Dealing.{worker_after}
use Rattle.dealer.specs.Dealable.{leaks_of}
use Rattle.dealer.specs.Looks.{is_whole, flag_of}

abbrev pub Run : Type 0
Run = ControlFlow Ended Going

abbrev pub stopped_by : Response → Going → Ended
stopped_by x r = record { at = r.at; rest = r.rest; last = r.last; made = r.made; response = x }

abbrev pub started_at : Ask → ℕ → ℕ → Going
started_at a last made = record { ask = a; at = worker_after a.shape last; rest = a.shape.workers; last = last; made = made; response = On }

abbrev pub unbegun : Response → ℕ → Ended
unbegun x dealer = record { at = 0; rest = 0; last = dealer; made = 0; response = x }

unfoldable pub begun : Ask → List ℕ → ℕ → Bool → Run
begun a s n ok =
    let k = gate_of a.shape (length s) n a.dealer (flag_of (is_whole a.look) a.shape s n ok) in
    cond (eqb a.turns 0) (Break (unbegun On a.dealer))
    (cond (eqb k 0) (Continue (started_at a a.dealer 0)) (Break (unbegun (Refused k) a.dealer)))

-- on to the next candidate; or 16, where none is left
unfoldable pub passed_by : Going → Run
passed_by r =
    cond (eqb r.rest 1) (Break (stopped_by (Refused 16) r))
    (Continue (record { ask = r.ask; at = worker_after r.ask.shape r.at; rest = r.rest - 1; last = r.last; made = r.made; response = r.response }))

-- the candidate was served: the run ends with its turn, or with a leak, or goes on with the next round
unfoldable pub moved_on : Going → Bool → Response → Run
moved_on r leak x =
    let next = started_at r.ask r.at (r.made + 1) in
    cond (eqb (r.made + 1) r.ask.turns || not (goes_on x)) (Break (stopped_by x next))
    (cond leak (Break (stopped_by (Refused 3) next)) (Continue next))

pub record Visited : Type 0 where
  pub run : Run
  pub worker : Worker
  pub store : List ℕ

abbrev pub visits : List ℕ → Worker → Run → Visited
visits s w r = record { run = r; worker = w; store = s }

abbrev pub served : Going → List ℕ → Worker → Done → Visited
served r s w d = record { run = moved_on r (leaks_of (is_whole r.ask.look) r.ask.shape s w) d.response; worker = d.worker; store = d.store }

unfoldable pub visited : Going → List ℕ → Worker → Visited
visited r s w =
    cond (in_progress w)
    (cond (is_whole r.ask.look || record_in_range r.ask.shape w) (served r s w (local_step r.ask.shape s w))
    (record { run = Break (stopped_by (Refused 3) r); worker = w; store = s }))
    (record { run = passed_by r; worker = w; store = s })

pub record Visitable (r : Going) (s : List ℕ) (w : Worker) : Type 0 where
  pub shape : shape_in_range r.ask.shape ≡ true
  pub inside : r.at < r.ask.shape.workers
  pub some : 0 < r.rest
  pub more : r.made < r.ask.turns
  pub ready : in_progress w ≡ true → (is_whole r.ask.look || record_in_range r.ask.shape w) ≡ true → Ready r.ask.shape s w
