-- One round of the loop, arm by arm: from what the code has at its end to what is still to be worked.
--     Round, Line                           what the loop keeps; a line that was written
-- Assumes nothing.
use Rattle.std.specs.Prelude.{◌≡◌, List, Bool, ℕ, ◌≤◌, length, take}
use Rattle.arrival.specs.declared.Shape.{Shape}
use Rattle.arrival.specs.declared.Worker.{Worker}
use Rattle.arrival.specs.declared.Response.{Response}
use Rattle.turn_file.specs.Lines.{line_of}
use Rattle.turn_file.specs.Buffer.{written, after}
use Rattle.batch.specs.Batch.{Progress}
use Rattle.admission.specs.Gate.{Tight}
use Rattle.batch.specs.BatchLoop.{Going, at_work}

-- What the loop keeps: `words`, `records` and `space` are what is lent, and t is its array, of which the first records are lent; h are held.
pub record Round (bytes : List ℕ) (p₀ : Progress) (h₀ words records space : ℕ) (sh : Shape) (s : List ℕ) (t : List Worker) (at : ℕ) (lines : List ℕ) (to : ℕ)
    (sound : Bool) (h : ℕ) : Type 0 where
  pub going : Going bytes p₀ h₀ (at_work sh s (take records t) at lines to) h sound
  pub store : words ≡ length s
  pub array : length t ≡ 64
  pub lent : records ≤ 64
  pub buffer : space ≡ length lines
  pub tight : Tight sh words records sound

-- the line l of a record, written, as `write_line` tells
abbrev pub Line : List ℕ → ℕ → Response → List ℕ → ℕ → Type 0
Line lines to l lines' to' = (to' ≡ after lines to (line_of l)) × (lines' ≡ written lines to (line_of l)) × (length (line_of l) ≤ 89)
