-- On any memory every answer's line fits the room that a batch asks for: its values are in range, or it is a refusal.
--     words_of        values in range are words
--     line_fits       a record's line fits
-- Assumes nothing.
use Rattle.std.specs.Prelude.{◌≤◌, length}
use Rattle.std.proofs.Common.{arith}
use Rattle.arrival.specs.declared.Response.{Response}
use Rattle.arrival.specs.declared.Response.TheVariants.{Opened, Begun, On, Stored, Took, Empty, Refused}
use Rattle.calendar.specs.rules.Operations.{open_pool, act}
use Rattle.calendar.specs.facts.AnswerRanges.{ValuesInRange}
use Rattle.calendar.proofs.facts.AnswerRanges.{act_values, open_values}
use Rattle.turn_file.specs.Lines.{Words}
use Rattle.turn_file.proofs.LineLaws.{line_most}
use Rattle.turn_file.specs.declared.Record.{Record}
use Rattle.turn_file.specs.declared.Record.TheVariants.{Open, Act}
use Rattle.batch.specs.Batch.{Pool, line_for}

words_of : (r : Response) → ValuesInRange r → Words r
words_of Opened h = tt
words_of (Begun ticket) h = omega arith
words_of On h = tt
words_of (Stored ticket) h = omega arith
words_of (Took time path order distance energy) h = (omega arith, omega arith, omega arith, omega arith)
words_of Empty h = tt
words_of (Refused number) h = omega arith

-- A RECORD'S LINE FITS
pub line_fits : (r : Record) (x : Pool) → length (line_for r x) ≤ 89
line_fits (Open sh) x = let r = (open_pool sh x.memory).response in line_most r (words_of r (open_values sh x.memory))
line_fits (Act a) x =
    let r = (act x.shape x.memory a).response in line_most r (words_of r (act_values x.shape x.memory a))
