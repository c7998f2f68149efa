-- A whole turn file: the lines that it prints and the memory and shape that it leaves. Assumes nothing.
use Rattle.std.specs.Prelude.{List, [], ◌++◌, ℕ, zero, suc, length, drop, Some, None, Ok, Err}
use Rattle.arrival.specs.declared.Shape.{Shape}
use Rattle.arrival.specs.declared.Response.TheVariants as response
use Rattle.calendar.specs.rules.Operations.{Memory}
use Rattle.turn_file.specs.Reading.{Reading, number_of, record_at}
use Rattle.turn_file.specs.Lines.{line_of}
use Rattle.batch.specs.Batch.{Pool, pool_after, line_for}

-- the pool at the end, and all lines, one behind the other
pub record Ran : Type 0 where
  pub pool : Pool
  pub lines : List ℕ

-- these lines come first
abbrev pub behind : List ℕ → Ran → Ran
behind lines r = record { pool = r.pool; lines = lines ++ r.lines }

-- One line a record; a reading that is refused has its line, which is the last.
abbrev pub from_first : (ℕ → Pool → Ran) → Pool → Reading → Ran
from_first rest x (Ok (Some (r, next))) = behind (line_for r x) (rest next (pool_after r x))
from_first rest x (Ok None) = record { pool = x; lines = [] }
from_first rest x (Err why) = record { pool = x; lines = line_of (response.Refused (number_of why)) }

-- at most n records
unfoldable pub records : ℕ → List ℕ → Pool → Ran
records zero bytes x = record { pool = x; lines = [] }
records (suc n) bytes x = from_first (λ next. records n (drop next bytes)) x (record_at bytes 0)

-- All of them: no record is empty, so there are fewer than these.
abbrev pub all_records : List ℕ → Pool → Ran
all_records bytes x = records (suc (length bytes)) bytes x

-- before the first opening
abbrev pub zeros : Shape
zeros = record { workers = 0; nodes = 0; buckets = 0; width = 0 }

-- A TURN FILE on lent memory.
abbrev pub turn_file : List ℕ → Memory → Ran
turn_file bytes m = all_records bytes (record { shape = zeros; memory = m })
