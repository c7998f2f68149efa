-- A batch as the code has it: the pool and the lent slices, before and after. Assumes nothing.
use Rattle.std.specs.Prelude.{◌≡◌, Bool, List, ℕ, ◌≤◌, length, take}
use Rattle.arrival.specs.declared.Shape.{Shape}
use Rattle.arrival.specs.declared.Worker.{Worker}
use Rattle.calendar.specs.rules.Operations.{Memory}
use Rattle.batch.specs.declared.HeldPool.{HeldPool}
use Rattle.batch.specs.declared.Progress as declared
use Rattle.batch.specs.declared.Stop.{Stop}
use Rattle.batch.specs.Batch.{Progress, Stopped}
use Rattle.admission.specs.Watched.{Watched}
use Rattle.admission.specs.Gate.{Tight}
use Rattle.batch.specs.BatchLoop.{at_work}

-- the array's records that stand for the lent ones
abbrev pub lent_records : HeldPool → List Worker
lent_records d = take d.records d.table

abbrev pub lent_to : HeldPool → List ℕ → Memory
lent_to d s = record { store = s; table = lent_records d }

-- a pool lends at most the 64 records of its array; its flag tells whether the memory is in range, and is down where it is too short
abbrev pub Sound : HeldPool → List ℕ → Type 0
Sound d s = (length d.table ≡ 64) × (d.records ≤ 64) × Watched d.shape (lent_to d s) d.sound × Tight d.shape (length s) d.records d.sound

abbrev pub begins : HeldPool → List ℕ → ℕ → List ℕ → ℕ → Progress
begins d s at lines to = at_work d.shape s (lent_records d) at lines to

abbrev pub ends : List ℕ → List ℕ → declared.Progress → Stopped
ends s lines r = record { progress = begins r.pool s r.at lines r.to; stop = r.stop }

-- the pool of these
abbrev pub held_of : Shape → Bool → ℕ → ℕ → List Worker → HeldPool
held_of sh sound records held t = record { shape = sh; sound = sound; records = records; held = held; table = t }

-- where a batch is left with these
abbrev pub stopped_of : Shape → Bool → ℕ → ℕ → List Worker → ℕ → ℕ → Stop → declared.Progress
stopped_of sh sound records held t at to stop = record { pool = held_of sh sound records held t; at = at; to = to; stop = stop }
