-- How many records a batch holds: those held at first, and all that an opening in it clears. Others it neither reads nor changes (RecordsNotHeld).
-- Assumes nothing.
use Rattle.std.specs.Prelude.{cond, List, ℕ, zero, suc, ◌+◌, eqb, ltb, length, Some, None, Ok, Err}
use Rattle.calendar.specs.rules.Refusals.{open_refusal}
use Rattle.turn_file.specs.declared.Record.{Record}
use Rattle.turn_file.specs.declared.Record.TheVariants.{Open, Act}
use Rattle.turn_file.specs.Reading.{Reading, record_at}
use Rattle.batch.specs.Batch.{Pool, Progress, has_room, wrote}

abbrev pub greater : ℕ → ℕ → ℕ
greater a b = cond (ltb a b) b a

-- past a record of the file: those of an opening's workers too, unless it is refused
abbrev pub held_after : Record → Pool → ℕ → ℕ
held_after (Open sh) x h = cond (eqb (open_refusal sh x.memory.store x.memory.table) 0) (greater h sh.workers) h
held_after (Act a) x h = h

abbrev pub onward : (ℕ → Progress → ℕ) → ℕ → Progress → Reading → ℕ
onward rest h p (Ok (Some (r, next))) = rest (held_after r p.pool h) (wrote p r next)
onward rest h p (Ok None) = h
onward rest h p (Err why) = h

-- past at most n records of the file
unfoldable pub held : ℕ → List ℕ → ℕ → Progress → ℕ
held zero bytes h p = h
held (suc n) bytes h p = cond (has_room p.lines p.to) (onward (held n bytes) h p (record_at bytes p.at)) h

-- past the whole batch
abbrev pub held_all : List ℕ → ℕ → Progress → ℕ
held_all bytes h p = held (length bytes + 1) bytes h p
