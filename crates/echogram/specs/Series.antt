-- A series: recordings of one slot length, handed over at once as times and energies, with a list that takes the answer to each.
--     recording, in_series                    a recording by its numbers; the one at i
--     uneven                                 2: the three slices have not one length
--     series_tests, series_refusal             what refuses the whole series, in order; the number, or 0
--     SeriesEnd, series                      what a series leaves: the answers and the row of its recordings one by one
-- Assumes nothing.
use Rattle.std.specs.Prelude.{List, [], ◌∷◌, Bool, cond, not, ◌||◌, ℕ, eqb, length, get_or}
use Rattle.laws.specs.FirstOf.{first_of}
use Rattle.laws.specs.Lists.{words_from}
use Rattle.echogram.specs.Row.{Recording, outside, row_after, answer_at}

abbrev pub recording : ℕ → ℕ → ℕ → Recording
recording slot_length time energy = record { slot_length = slot_length; time = time; energy = energy }

abbrev pub in_series : ℕ → List ℕ → List ℕ → ℕ → Recording
in_series slot_length times energies i = recording slot_length (get_or times i 0) (get_or energies i 0)

abbrev pub uneven : List ℕ → List ℕ → List ℕ → Bool
uneven times energies answers = not (eqb (length energies) (length times)) || not (eqb (length answers) (length times))

abbrev pub series_tests : ℕ → List ℕ → List ℕ → List ℕ → List ℕ → List (ℕ × Bool)
series_tests slot_length times energies answers row = (2, uneven times energies answers) ∷ (13, outside slot_length (length row)) ∷ []

unfoldable pub series_refusal : ℕ → List ℕ → List ℕ → List ℕ → List ℕ → ℕ
series_refusal slot_length times energies answers row = first_of (series_tests slot_length times energies answers row)

-- the answer to the whole, the answers to its recordings, and the row
pub record SeriesEnd : Type 0 where
  pub answer : ℕ
  pub answers : List ℕ
  pub row : List ℕ

-- refused, neither answers nor row are changed
unfoldable pub series : ℕ → List ℕ → List ℕ → List ℕ → List ℕ → SeriesEnd
series slot_length times energies answers row =
    cond (eqb (series_refusal slot_length times energies answers row) 0)
    (record {
      answer = 0;
      answers = words_from (answer_at row (in_series slot_length times energies)) 0 (length times);
      row = row_after row (in_series slot_length times energies) (length times);
    })
    (record { answer = series_refusal slot_length times energies answers row; answers = answers; row = row })
