-- What an operation that is not refused may count on.
--     Lent, Usable                                          without refusals 1 and 2; and without 3 and 4
--     EnqueueAccepted, DequeueAccepted, StepAccepted        and without those of a put, of a take, of a turn
--     EnqueuePassed                                         without those of a put, whatever the memory's tests say
-- Assumes nothing.
use Rattle.std.specs.Prelude.{◌≡◌, List, false, ◌≢◌, ℕ, ◌<◌, ◌≤◌, length}
use Rattle.arrival.specs.declared.Shape.{Shape}
use Rattle.arrival.specs.declared.Arrival.{Arrival}
use Rattle.arrival.specs.declared.Worker.{Worker}
use Rattle.calendar.specs.rules.Layout.{layout, started}
use Rattle.calendar.specs.rules.Ranges.{worker}
use Rattle.calendar.specs.facts.RangeFacts.{Limits, StoreRanges, RecordRanges}
use Rattle.calendar.specs.facts.Views.{view}
use Rattle.calendar.specs.rules.Reclaim.{first_free}
use Rattle.calendar.specs.rules.Refusals.{no_epoch}

-- shape and lengths: refusals 1 and 2
pub record Lent (sh : Shape) (s : List ℕ) (t : List Worker) : Type 0 where
  pub limits : Limits sh
  pub store : layout sh ≤ length s
  pub table : sh.workers ≤ length t

-- and 3 and 4
pub record Usable (sh : Shape) (s : List ℕ) (t : List Worker) (i : ℕ) : Type 0 where
  pub lent : Lent sh s t
  pub store : StoreRanges sh (view sh s)
  pub table : (j : ℕ) → j < sh.workers → RecordRanges sh (worker t j)
  pub exists : i < sh.workers

pub record EnqueueAccepted (sh : Shape) (s : List ℕ) (t : List Worker) (i : ℕ) (a : Arrival) : Type 0 where
  pub usable : Usable sh s t i
  pub path : a.path ≤ 65535
  pub order : a.order ≤ 63
  pub some_distance : 1 ≤ a.distance
  pub distance : a.distance ≤ 1024
  pub time : a.time < 4294967296
  pub idle : (worker t i).stage ≡ 0
  pub ticket : started sh s ≢ 4294967295
  pub node : first_free sh s t ≢ sh.nodes

pub record DequeueAccepted (sh : Shape) (s : List ℕ) (t : List Worker) (i : ℕ) : Type 0 where
  pub usable : Usable sh s t i
  pub idle : (worker t i).stage ≡ 0
  pub ticket : started sh s ≢ 4294967295

pub record StepAccepted (sh : Shape) (s : List ℕ) (t : List Worker) (i : ℕ) : Type 0 where
  pub usable : Usable sh s t i
  pub busy : (worker t i).stage ≢ 0
  pub epoch : no_epoch sh s (worker t i) ≡ false

-- ── an action's own tests ──
pub record EnqueuePassed (sh : Shape) (s : List ℕ) (t : List Worker) (i : ℕ) (a : Arrival) : Type 0 where
  pub path : a.path ≤ 65535
  pub order : a.order ≤ 63
  pub some_distance : 1 ≤ a.distance
  pub distance : a.distance ≤ 1024
  pub time : a.time < 4294967296
  pub idle : (worker t i).stage ≡ 0
  pub ticket : started sh s ≢ 4294967295
  pub node : first_free sh s t ≢ sh.nodes
