-- No record of a turn file, read on any memory, is answered by 6. (A reading that is refused is so by 7 or 8: turn_file/Reading.) Assumes nothing.
use Rattle.std.specs.Prelude.{◌≢◌}
use Rattle.arrival.specs.declared.Request.TheVariants.{Whole}
use Rattle.arrival.specs.declared.Response.TheVariants.{Refused}
use Rattle.calendar.proofs.facts.EveryTime.{open_never_6, never_6}
use Rattle.turn_file.specs.declared.Record.{Record}
use Rattle.turn_file.specs.declared.Record.TheVariants.{Open, Act}
use Rattle.batch.specs.Batch.{Pool, result_of}

pub record_never_6 : (r : Record) (x : Pool) → (result_of r x).response ≢ Refused 6
record_never_6 (Open sh) x = open_never_6 sh x.memory
record_never_6 (Act a) x = never_6 x.shape x.memory (Whole a)
