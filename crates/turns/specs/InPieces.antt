-- Worked through in rounds, cut anywhere, a turn file gives the lines, memory and shape that it gives in one piece.
--     ahead                        what is still to come
--     Step                         what a round does to the file; every round
--     load, weight                     how much is to come; enough rounds work through it
-- Assumes nothing.
use Rattle.std.specs.Prelude.{◌≡◌, Bool, true, false, List, [], ◌∷◌, ◌++◌, ℕ, suc, ◌+◌, ◌<◌, length, take}
use Rattle.turn_file.specs.declared.Unreadable.{Unreadable}
use Rattle.batch.specs.TurnFile.{behind, all_records}
use Rattle.turns.specs.declared.Next.{Next}
use Rattle.turns.specs.declared.Next.TheVariants.{More, Read, End, Last}
use Rattle.turns.specs.TurnsRun.{Held, Rounded, Reads}
use Rattle.turns.specs.TurnsRun.{input_of}

-- ── one round ──
-- what is still to come
abbrev pub ahead : Bool → Reads → List ℕ
ahead true reads = []
ahead false reads = input_of reads

-- The file, from what is held on, is the round's text and the file from what is held then.
pub data Step (h : Held) (reads : Reads) (r : Rounded) : Next → Type 0 where
  works : length r.rest < length h.bytes
      → all_records (h.bytes ++ ahead h.ended reads) h.pool ≡ behind (take r.to r.out) (all_records (r.rest ++ ahead h.ended reads) r.pool)
      → Step h reads r More
  reads_on : h.ended ≡ false
      → all_records (h.bytes ++ ahead h.ended reads) h.pool ≡ behind (take r.to r.out) (all_records (r.rest ++ input_of reads) r.pool)
      → Step h reads r Read
  ends : all_records (h.bytes ++ ahead h.ended reads) h.pool ≡ behind (take r.to r.out) (record { pool = r.pool; lines = [] }) → Step h reads r End
  refused : (why : Unreadable) → all_records (h.bytes ++ ahead h.ended reads) h.pool ≡ behind (take r.to r.out) (record { pool = r.pool; lines = [] })
      → Step h reads r (Last why)

-- ── all rounds ──
-- how many reads and bytes are to come
abbrev pub load : Reads → ℕ
load [] = 0
load (piece ∷ reads) = suc (length piece) + load reads

abbrev pub weight : Bool → Reads → ℕ
weight true reads = 0
weight false reads = suc (load reads)
