-- What the program does between its reads and writes, over what each read hands over. Assumes nothing.
use Rattle.std.specs.Prelude.{Bool, true, false, cond, List, [], ◌∷◌, ◌++◌, ℕ, zero, suc, take, drop, replicate}
use Rattle.arrival.specs.declared.Response.TheVariants.{Refused}
use Rattle.turn_file.specs.declared.Unreadable.TheVariants.{UnknownMark, CutRecord}
use Rattle.turn_file.specs.Reading.{number_of}
use Rattle.turn_file.specs.Lines.{line_of}
use Rattle.turn_file.specs.Buffer.{written, after}
use Rattle.calendar.specs.rules.Ranges.{blank}
use Rattle.calendar.specs.rules.Operations.{Memory}
use Rattle.batch.specs.declared.Stop.{Stop}
use Rattle.batch.specs.declared.Stop.TheVariants.{Drained, Full, Halted}
use Rattle.batch.specs.Batch.{Pool, Stopped, worked_all}
use Rattle.batch.specs.TurnFile.{Ran, behind, zeros}
use Rattle.turns.specs.declared.Next.{Next}
use Rattle.turns.specs.declared.Next.TheVariants.{More, Read, End, Last}

-- what is lent
unfoldable pub lent : Memory
lent = record { store = replicate 4355 0; table = replicate 64 blank }

-- What follows a batch, once the input has ended and before: while bytes are left they are worked; what is used up or cut asks for
-- more, as long as there may be more; 7, and 8 at the input's end, have the last line.
abbrev pub follows : Bool → Stop → Next
follows ended Full = More
follows ended Drained = cond ended End Read
follows ended (Halted UnknownMark) = Last UnknownMark
follows ended (Halted CutRecord) = cond ended (Last CutRecord) Read

abbrev pub last_line : Next → List ℕ
last_line More = []
last_line Read = []
last_line End = []
last_line (Last why) = line_of (Refused (number_of why))

-- between two rounds: the bytes not yet worked through, whether the input has ended, and the output's buffer
pub record Held : Type 0 where
  pub pool : Pool
  pub bytes : List ℕ
  pub ended : Bool
  pub out : List ℕ

-- after a round: the bytes still not worked through, and the buffer, of which the first `to` bytes are written
pub record Rounded : Type 0 where
  pub pool : Pool
  pub rest : List ℕ
  pub out : List ℕ
  pub to : ℕ
  pub next : Next

-- a round by its batch: the last line stands behind the others
abbrev pub rounded : Held → Stopped → Rounded
rounded h q =
    let next = follows h.ended q.stop in
    record {
      pool = q.progress.pool;
      rest = drop q.progress.at h.bytes;
      out = written q.progress.lines q.progress.to (last_line next);
      to = after q.progress.lines q.progress.to (last_line next);
      next = next;
    }

-- One round: a batch over the bytes held, its lines from the buffer's front on.
unfoldable pub round_of : Held → Rounded
round_of h = rounded h (worked_all h.bytes (record { pool = h.pool; at = 0; lines = h.out; to = 0 }))

-- What reads hand over, one after the other; past the last of them it is nothing.
abbrev pub Reads : Type 0
Reads = List (List ℕ)

abbrev pub handed : Reads → List ℕ
handed [] = []
handed (piece ∷ reads) = piece

abbrev pub later : Reads → Reads
later [] = []
later (piece ∷ reads) = reads

abbrev pub is_empty : List ℕ → Bool
is_empty [] = true
is_empty (b ∷ bytes) = false

-- after a round: the rest is worked on, or a piece is read behind it, and the input has ended where the piece is empty
abbrev pub worked_on : Bool → Rounded → Held
worked_on ended r = record { pool = r.pool; bytes = r.rest; ended = ended; out = r.out }

abbrev pub read_on : List ℕ → Rounded → Held
read_on piece r = record { pool = r.pool; bytes = r.rest ++ piece; ended = is_empty piece; out = r.out }

abbrev pub next_round : (Reads → Held → Ran) → Reads → Bool → Rounded → Next → Ran
next_round run reads ended r More = run reads (worked_on ended r)
next_round run reads ended r Read = run (later reads) (read_on (handed reads) r)
next_round run reads ended r End = record { pool = r.pool; lines = [] }
next_round run reads ended r (Last why) = record { pool = r.pool; lines = [] }

-- at most n rounds: all that is written, and the pool at the end
unfoldable pub rounds : ℕ → Reads → Held → Ran
rounds zero reads h = record { pool = h.pool; lines = [] }
rounds (suc n) reads h = let r = round_of h in behind (take r.to r.out) (next_round (rounds n) reads h.ended r r.next)

-- before the first read: a shape of zeros and no bytes
abbrev pub at_first : Memory → List ℕ → Held
at_first m out = record { pool = record { shape = zeros; memory = m }; bytes = []; ended = false; out = out }

-- the input: what is read until a read hands over nothing
abbrev pub input_of : Reads → List ℕ
input_of [] = []
input_of ([] ∷ reads) = []
input_of ((b ∷ bytes) ∷ reads) = (b ∷ bytes) ++ input_of reads
