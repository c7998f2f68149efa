-- The worked example of a turn file, whole: its lines, computed, and those of two files that end by 8 and 7. Assumes nothing.
use Rattle.std.specs.Prelude.{◌≡◌, refl, List, [], ◌∷◌, ◌++◌, ℕ, replicate}
use Rattle.arrival.specs.declared.Response.{Response}
use Rattle.arrival.specs.declared.Response.TheVariants.{Opened, Begun, On, Stored, Took, Refused}
use Rattle.arrival.specs.Keys.{lower, bucket_of}
use Rattle.arrival.specs.Energy.{energy_of}
use Rattle.calendar.specs.rules.Layout.{address, read, write}
use Rattle.laws.specs.Counting.{every}
use Rattle.laws.specs.Lists.{words_from}
use Rattle.calendar.specs.rules.Ranges.{blank, store_in_range, table_in_range}
use Rattle.calendar.specs.rules.Reclaim.{is_free, first_free_of, first_free}
use Rattle.calendar.specs.rules.Opening.{open_store, open_table}
use Rattle.calendar.specs.rules.Starts.{enqueue_start, dequeue_start}
use Rattle.calendar.specs.rules.SearchSteps.{found, settle, step_1, step_2, step_3}
use Rattle.calendar.specs.rules.EnqueueSteps.{step_4, step_5, step_6, step_7}
use Rattle.calendar.specs.rules.DequeueSteps.{walk, step_8, step_9, step_10, step_11}
use Rattle.calendar.specs.rules.Steps.{no_step, step}
use Rattle.calendar.specs.rules.Refusals.{open_refusal, enqueue_refusal, dequeue_refusal, step_refusal}
use Rattle.calendar.specs.rules.Operations.{Memory, open_pool, act}
use Rattle.turn_file.specs.Fields.{shape_at, arrival_at}
use Rattle.turn_file.specs.Records.{size_of}
use Rattle.turn_file.specs.Reading.{fields_at, marked_at, record_at}
use Rattle.turn_file.specs.Decimal.{decimal, digits}
use Rattle.turn_file.specs.Lines.{line_of}
use Rattle.batch.specs.TurnFile.{records, turn_file}

-- as many words as the example's shape needs
abbrev lent : Memory
lent = record { store = replicate 37 0; table = blank ∷ [] }

abbrev OP : ℕ → List ℕ
OP nodes = 79 ∷ 80 ∷ 1 ∷ nodes ∷ 0 ∷ 2 ∷ 0 ∷ 10 ∷ 0 ∷ []

abbrev PU : List ℕ
PU = 80 ∷ 85 ∷ 0 ∷ 5 ∷ 0 ∷ 0 ∷ 0 ∷ 7 ∷ 0 ∷ 1 ∷ 3 ∷ 0 ∷ []

abbrev TA : List ℕ
TA = 84 ∷ 65 ∷ 0 ∷ []

abbrev TU : List ℕ
TU = 84 ∷ 85 ∷ 0 ∷ []

abbrev joined : List (List ℕ) → List ℕ
joined [] = []
joined (x ∷ xs) = x ++ joined xs

abbrev printed : List Response → List ℕ
printed [] = []
printed (r ∷ rs) = line_of r ++ printed rs

abbrev example : List ℕ
example = joined ((OP 4 ∷ PU ∷ []) ++ replicate 5 TU ++ (TA ∷ []) ++ replicate 7 TU)

abbrev answers : List Response
answers = (Opened ∷ Begun 1 ∷ []) ++ replicate 4 On ++ (Stored 1 ∷ Begun 2 ∷ []) ++ replicate 6 On ++ (Took 5 7 1 3 1864135 ∷ [])

-- A turn before the first opening; an opening that is refused, and leaves the shape as it was; one byte left over.
abbrev around : List ℕ
around = joined (TU ∷ OP 4 ∷ OP 5 ∷ TU ∷ (84 ∷ []) ∷ [])

-- an unknown mark, and records behind it
abbrev unknown : List ℕ
unknown = joined (OP 4 ∷ (84 ∷ 84 ∷ []) ∷ TU ∷ [])

-- THE WORKED EXAMPLE
pub worked_example : ((turn_file example lent).lines ≡ printed answers)
    × ((turn_file around lent).lines ≡ printed (Refused 1 ∷ Opened ∷ Refused 2 ∷ Refused 10 ∷ Refused 8 ∷ []))
    × ((turn_file unknown lent).lines ≡ printed (Opened ∷ Refused 7 ∷ []))
unfolding records record_at marked_at size_of fields_at shape_at arrival_at open_pool act open_refusal enqueue_refusal dequeue_refusal step_refusal step
    no_step step_1 step_2 step_3 step_4 step_5 step_6 step_7 step_8 step_9 step_10 step_11 found settle walk enqueue_start dequeue_start open_store open_table
    words_from is_free first_free_of first_free blank store_in_range table_in_range every address read write lower bucket_of energy_of line_of decimal digits
worked_example = (refl, refl, refl)
