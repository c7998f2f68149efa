-- A run of dealt turns over lent memory, candidate by candidate: each look at one leaves the outcome of the run as it was, and brings its end nearer.
--     Touring, Sound                  what a run that goes on keeps; what any run does
--     wanted                          the outcome of a run, from where it stands; where it has ended
--     todo                            how much is left
--     Moved                           what the look leaves is sound, wants the same, and has less to do
-- Assumes nothing.
use Rattle.std.specs.Prelude.{◌≡◌, List, cond, length, set, ⊤}
use Rattle.std.specs.declared.ops.ControlFlow.TheVariants.{Continue, Break}
use Prim.Native.Nat.{ℕ, suc, ◌+◌, ◌-◌, ◌*◌, ◌<◌, ◌≤◌}
use Rattle.arrival.specs.declared.Worker.{Worker}
use Rattle.calendar.specs.rules.Ranges.{worker}
use Rattle.calendar.specs.rules.Reclaim.{in_progress}
use Rattle.wubraken.specs.Results.{lent}
use Rattle.dealer.specs.declared.runs.Going.{Going}
use Rattle.dealer.specs.Dealing.{first_busy_of, next_served, Deal, dealt_on}
use Rattle.dealer.specs.Answered.{leaves_deal}
use Rattle.dealer.specs.Dealable.{Dealable}
use Rattle.dealer.specs.Looks.{is_whole}
use Rattle.dealer.specs.Runs.{Run, Visited}
use Rattle.dealer.specs.DealLoop.{running}

-- of the workers that are left, with the candidate, the first that has a call in progress is the next to be served
pub record Touring (r : Going) (s : List ℕ) (t : List Worker) : Type 0 where
  pub able : Dealable (is_whole r.ask.look) r.ask.shape (lent s t) r.last
  pub more : r.made < r.ask.turns
  pub inside : r.at < r.ask.shape.workers
  pub some : 0 < r.rest
  pub few : r.rest ≤ r.ask.shape.workers
  pub next : cond (in_progress (worker t r.at)) r.at (first_busy_of r.ask.shape t (r.rest - 1) r.at) ≡ next_served r.ask.shape t r.last

abbrev pub Sound : Run → List ℕ → List Worker → Type 0
Sound (Continue r) s t = Touring r s t
Sound (Break e) s t = ⊤

unfoldable pub wanted : Run → List ℕ → List Worker → Deal
wanted (Continue r) s t = dealt_on (is_whole r.ask.look) r.ask.shape (r.ask.turns - r.made) (running (lent s t) r.last r.made)
wanted (Break e) s t = leaves_deal s t e

-- the turns that are left, each with a round of candidates, and the candidates left in this round
unfoldable pub todo : Run → ℕ
todo (Continue r) = suc ((r.ask.turns - r.made) * suc r.ask.shape.workers + r.rest)
todo (Break e) = 0

-- what the look at the candidate left, v
pub record Moved (r : Going) (s : List ℕ) (t : List Worker) (v : Visited) : Type 0 where
  pub sound : Sound v.run v.store (set t r.at v.worker)
  pub same : wanted v.run v.store (set t r.at v.worker) ≡ wanted (Continue r) s t
  pub less : todo v.run < todo (Continue r)
  pub long : length v.store ≡ length s
