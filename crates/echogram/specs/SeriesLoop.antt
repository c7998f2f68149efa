-- The loop over a series: what it has made of row and answers after i recordings, with the headroom that the row's sum leaves beside them.
--     Along              after i recordings
-- Assumes nothing.
use Rattle.std.specs.Prelude.{◌≡◌, List, ◌++◌, ℕ, length, drop}
use Rattle.laws.specs.Lists.{words_from}
use Rattle.echogram.specs.Row.{Recording, row_after, answer_at}
use Rattle.echogram.specs.AtSlot.{headroom_of}

pub record Along (row₀ answers₀ : List ℕ) (rs : ℕ → Recording) (i : ℕ) (row answers : List ℕ) (free : ℕ) : Type 0 where
  pub slots : length row ≡ length row₀
  pub size : length answers ≡ length answers₀
  pub headroom : free ≡ headroom_of row
  pub done : row ≡ row_after row₀ rs i
  pub answered : answers ≡ words_from (answer_at row₀ rs) 0 i ++ drop i answers₀
