-- One record of the file on a held pool, as the code has it. Assumes nothing.
--     pool_of       the shape so far, and the lent memory
--     holding       the pool of a batch at work
--     with_record   a record in the array
--     opened_to     a pool past an opening that is not refused
--     past_opening  past one that the gate answers by k; past_action: what is known past a start or turn
--     Does          what a record does to a held pool and the store, and its response
use Rattle.std.specs.Prelude.{◌≡◌, ◌++◌, List, cond, true, ℕ, eqb, set, drop, replicate}
use Rattle.arrival.specs.declared.Shape.{Shape}
use Rattle.arrival.specs.declared.Action.{Action}
use Rattle.arrival.specs.declared.Worker.{Worker}
use Rattle.arrival.specs.declared.Response.{Response}
use Rattle.calendar.specs.rules.Ranges.{blank}
use Rattle.turn_file.specs.declared.Record.{Record}
use Rattle.batch.specs.declared.HeldPool.{HeldPool}
use Rattle.batch.specs.declared.known.Known.{Known}
use Rattle.batch.specs.Batch.{Pool, result_of, pool_after}
use Rattle.batch.specs.Held.{greater, held_after}
use Rattle.batch.specs.CodeView.{Sound, lent_to}
use Rattle.batch.specs.ActHeld.{sound_after}

abbrev pub pool_of : HeldPool → List ℕ → Pool
pool_of d s = record { shape = d.shape; memory = lent_to d s }

-- the pool of what is known and of the records
abbrev pub holding : Known → List Worker → HeldPool
holding k t = record { shape = k.shape; sound = k.sound; records = k.records; held = k.held; table = t }

-- the record w at i
abbrev pub with_record : HeldPool → ℕ → Worker → HeldPool
with_record d i w = record { shape = d.shape; sound = d.sound; records = d.records; held = d.held; table = set d.table i w }

-- opened for sh
abbrev pub opened_to : Shape → HeldPool → HeldPool
opened_to sh d = record {
  shape = sh;
  sound = true;
  records = d.records;
  held = greater d.held sh.workers;
  table = replicate sh.workers blank ++ drop sh.workers d.table;
}

-- past an opening that the gate answers by k
abbrev pub past_opening : ℕ → Shape → HeldPool → HeldPool
past_opening k sh d = cond (eqb k 0) (opened_to sh d) d

-- past a start or turn of record w that it answers by k
abbrev pub past_action : ℕ → Known → Action → Worker → List ℕ → Known
past_action k n a w s = record { shape = n.shape; sound = sound_after k n.shape n.sound a w s; records = n.records; held = n.held }

-- d and s as they were, d' and s' as they are then, with response l
pub record Does (r : Record) (d : HeldPool) (s : List ℕ) (l : Response) (d' : HeldPool) (s' : List ℕ) : Type 0 where
  pub pool : pool_of d' s' ≡ pool_after r (pool_of d s)
  pub response : l ≡ (result_of r (pool_of d s)).response
  pub held : d'.held ≡ held_after r (pool_of d s) d.held
  pub records : d'.records ≡ d.records
  pub sound : Sound d' s'
