-- Records behind those that a batch holds are neither read nor changed: on any other table with the same held records it does the same, and keeps the rest.
--     Alike, Covers                  tables that are alike in the first k records and in how many count; k records are enough for the workers
--     over, on_table, keeping_from     the first k records of one table and the rest of another; a batch on it, and what it left with it
--     more                           records past the 64th do not matter, and stay
-- Assumes nothing.
use Rattle.std.specs.Prelude.{◌≡◌, length, take}
use Rattle.std.proofs.Math.Bool.{true}
use mathlib.Core.List.{List, ◌++◌}
use Prim.Native.Nat.{ℕ, ◌≤◌}
use Rattle.std.proofs.Math.ListN.{drop}
use Rattle.arrival.specs.declared.Shape.{Shape}
use Rattle.arrival.specs.declared.Worker.{Worker}
use Rattle.calendar.specs.rules.Ranges.{shape_in_range}
use Rattle.batch.specs.Batch.{Progress, Stopped}
use Rattle.batch.specs.RecordsCounted.{counted_of}

-- u has the first k records of t, and as many as count
pub record Alike (k : ℕ) (t u : List Worker) : Type 0 where
  pub first : take k u ≡ take k t
  pub counted : counted_of (length u) ≡ counted_of (length t)
  pub within : k ≤ counted_of (length t)

-- k records have one for each worker of a shape that n records are enough for
abbrev pub Covers : Shape → ℕ → ℕ → Type 0
Covers sh n k = shape_in_range sh ≡ true → sh.workers ≤ n → sh.workers ≤ k

-- the first k records of t, and behind them those of u
abbrev pub over : ℕ → List Worker → List Worker → List Worker
over k t u = take k t ++ drop k u

abbrev pub on_table : Progress → List Worker → Progress
on_table p u =
    record { pool = record { shape = p.pool.shape; memory = record { store = p.pool.memory.store; table = u } }; at = p.at; lines = p.lines; to = p.to }

-- what a batch left, but the records from the k-th on as u has them
abbrev pub keeping_from : ℕ → Stopped → List Worker → Stopped
keeping_from k q u = record { progress = on_table q.progress (over k q.progress.pool.memory.table u); stop = q.stop }

-- ── records past the 64th ──
-- the same with records u behind the table
abbrev pub more : Progress → List Worker → Progress
more p u = on_table p (p.pool.memory.table ++ u)
