-- A batch of a turn file, record by record: what each record does, its line, and where it stops. Assumes nothing.
use Rattle.std.specs.Prelude.{Bool, cond, List, ℕ, zero, suc, ◌+◌, eqb, leb, length, Some, None, Ok, Err}
use Rattle.arrival.specs.declared.Shape.{Shape}
use Rattle.calendar.specs.rules.Refusals.{open_refusal}
use Rattle.calendar.specs.rules.Operations.{Memory, Result, open_pool, act}
use Rattle.turn_file.specs.declared.Record.{Record}
use Rattle.turn_file.specs.declared.Record.TheVariants.{Open, Act}
use Rattle.turn_file.specs.Reading.{Reading, record_at}
use Rattle.turn_file.specs.Lines.{line_of}
use Rattle.turn_file.specs.Buffer.{written, after}
use Rattle.batch.specs.declared.Stop.{Stop}
use Rattle.batch.specs.declared.Stop.TheVariants.{Drained, Full, Halted}

-- the shape so far, and the lent memory
pub record Pool : Type 0 where
  pub shape : Shape
  pub memory : Memory

-- what a record of the file does; a start or turn is handed the shape so far
abbrev pub result_of : Record → Pool → Result
result_of (Open sh) x = open_pool sh x.memory
result_of (Act a) x = act x.shape x.memory a

-- An opening sets the shape, unless it is refused.
abbrev pub shape_after : Record → Pool → Shape
shape_after (Open sh) x = cond (eqb (open_refusal sh x.memory.store x.memory.table) 0) sh x.shape
shape_after (Act a) x = x.shape

abbrev pub pool_after : Record → Pool → Pool
pool_after r x = record { shape = shape_after r x; memory = (result_of r x).memory }

abbrev pub line_for : Record → Pool → List ℕ
line_for r x = line_of (result_of r x).response

-- `at`: the next byte to be read; `lines`: the lent buffer; `to`: where the next line goes
pub record Progress : Type 0 where
  pub pool : Pool
  pub at : ℕ
  pub lines : List ℕ
  pub to : ℕ

pub record Stopped : Type 0 where
  pub progress : Progress
  pub stop : Stop

-- the longest line
abbrev pub has_room : List ℕ → ℕ → Bool
has_room lines to = leb (to + 89) (length lines)

-- r has been answered, its line written, and the next record stands at `next`
abbrev pub wrote : Progress → Record → ℕ → Progress
wrote p r next = record {
  pool = pool_after r p.pool;
  at = next;
  lines = written p.lines p.to (line_for r p.pool);
  to = after p.lines p.to (line_for r p.pool);
}

abbrev pub onward : (Progress → Stopped) → Progress → Reading → Stopped
onward rest p (Ok (Some (r, next))) = rest (wrote p r next)
onward rest p (Ok None) = record { progress = p; stop = Drained }
onward rest p (Err why) = record { progress = p; stop = Halted why }

-- at most n records
unfoldable pub worked : ℕ → List ℕ → Progress → Stopped
worked zero bytes p = record { progress = p; stop = Drained }
worked (suc n) bytes p = cond (has_room p.lines p.to) (onward (worked n bytes) p (record_at bytes p.at)) (record { progress = p; stop = Full })

-- The whole batch: no record is empty, so there are at most as many as bytes.
abbrev pub worked_all : List ℕ → Progress → Stopped
worked_all bytes p = worked (length bytes + 1) bytes p
