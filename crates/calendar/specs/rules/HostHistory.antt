-- What a host asks of a pool, request by request, and what is promised of it.
--     requested                          what one request leaves and answers
--     host_run, host_answers               the memory after a list of requests, and their answers
--     made_by, one_by_one, counts           the starts and turns that a request makes; those of a list, one by one; how many each request makes
--     last_of_each                         of responses one by one, the last for each request
--     single                             no request has turns behind it
--     HostCorrect                        the promise
--     HostAlways, HostDemand3            something holds whatever a host asks for; the promise does
-- Assumes nothing.
use Rattle.std.specs.Prelude.{◌≡◌, List, [], ◌∷◌, ◌++◌, map, Bool, true, ◌&&◌, ℕ, ◌-◌, eqb, length, get_or, drop}
use Rattle.arrival.specs.declared.Shape.{Shape}
use Rattle.arrival.specs.declared.Action.{Action}
use Rattle.arrival.specs.declared.Request.{Request}
use Rattle.arrival.specs.declared.Request.TheVariants.{Whole, Narrow}
pub use Rattle.arrival.specs.Requests.{action_of}
use Rattle.arrival.specs.declared.Response.{Response}
use Rattle.arrival.specs.declared.Response.TheVariants.{Opened}
use Rattle.calendar.specs.rules.Operations.{Memory, Result, open_pool, act, run, responses}
use Rattle.calendar.specs.rules.NarrowCalls.{narrow_call, narrow_made}
use Rattle.calendar.specs.rules.Ledger.{Ledger, new, ledger}
use Rattle.calendar.specs.rules.Linearizability.{Correct}

-- ── requests ──
-- `Whole a` looks at the whole memory; `Narrow a n` only at what it needs, and makes at most n turns behind a
abbrev pub requested : Shape → Memory → Request → Result
requested sh m (Whole a) = act sh m a
requested sh m (Narrow a n) = narrow_call sh m a n

unfoldable pub host_run : Shape → Memory → List Request → Memory
host_run sh m [] = m
host_run sh m (q ∷ qs) = host_run sh (requested sh m q).memory qs

unfoldable pub host_answers : Shape → Memory → List Request → List Response
host_answers sh m [] = []
host_answers sh m (q ∷ qs) = (requested sh m q).response ∷ host_answers sh (requested sh m q).memory qs

-- ── the same, one by one ──
abbrev pub made_by : Shape → Memory → Request → List Action
made_by sh m (Whole a) = a ∷ []
made_by sh m (Narrow a n) = narrow_made sh m a n

unfoldable pub one_by_one : Shape → Memory → List Request → List Action
one_by_one sh m [] = []
one_by_one sh m (q ∷ qs) = made_by sh m q ++ one_by_one sh (requested sh m q).memory qs

unfoldable pub counts : Shape → Memory → List Request → List ℕ
counts sh m [] = []
counts sh m (q ∷ qs) = length (made_by sh m q) ∷ counts sh (requested sh m q).memory qs

-- the first k responses are the first request's; where there were none it would be Opened, but k is never 0
abbrev pub last_of_each : List ℕ → List Response → List Response
last_of_each [] rs = []
last_of_each (k ∷ ks) rs = get_or rs (k - 1) Opened ∷ last_of_each ks (drop k rs)

-- ── without turns behind ──
abbrev pub single : List Request → Bool
single [] = true
single (Whole a ∷ qs) = single qs
single (Narrow a n ∷ qs) = eqb n 0 && single qs

-- ── the promise ──
pub record HostCorrect (sh : Shape) (m : Memory) (qs : List Request) : Type 0 where
  -- the memory is what the starts and turns of Operations leave, one by one;
  pub memory : host_run sh m qs ≡ run sh m (one_by_one sh m qs)
  -- each answer is the last of their responses to the request
  pub answers : host_answers sh m qs ≡ last_of_each (counts sh m qs) (responses sh m (one_by_one sh m qs))
  -- without turns behind them, narrow or whole is all the same
  pub item_by_item : single qs ≡ true → (host_run sh m qs ≡ run sh m (map action_of qs)) × (host_answers sh m qs ≡ responses sh m (map action_of qs))
  -- and all of demand 3 holds of what the host did
  pub correct : Correct sh (host_run sh m qs) (ledger sh m (one_by_one sh m qs) new)

-- P holds after any opening that is not refused and any list of requests, narrow ones and runs among them, read one by one
abbrev pub HostAlways : (Shape → Memory → Ledger → Type 0) → Type 0
HostAlways P =
    (sh : Shape) (m : Memory) → (open_pool sh m).response ≡ Opened → (qs : List Request) → let p = (open_pool sh m).memory in
    P sh (host_run sh p qs) (ledger sh p (one_by_one sh p qs) new)

-- DEMAND 3 FOR A HOST: after any opening that is not refused, any list of requests.
unfoldable pub HostDemand3 : Type 0
HostDemand3 = (sh : Shape) (m : Memory) → (open_pool sh m).response ≡ Opened → (qs : List Request) → HostCorrect sh (open_pool sh m).memory qs
