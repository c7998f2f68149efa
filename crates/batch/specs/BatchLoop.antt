-- The loop over a batch, round by round: what is still to be worked is what was to be worked at first.
--     Going                          what a round keeps; at first; past one record
--     at_work                        the loop's values as a progress
-- Assumes nothing.
use Rattle.std.specs.Prelude.{◌≡◌, List, Bool}
use Prim.Native.Nat.{ℕ}
use Rattle.arrival.specs.declared.Shape.{Shape}
use Rattle.arrival.specs.declared.Worker.{Worker}
use Rattle.batch.specs.Held.{held_all}
use Rattle.batch.specs.Batch.{Progress, worked_all}
use Rattle.admission.specs.Watched.{Watched}

-- From p the same is left to be worked through as from p₀; h and h₀ of the lent records are held.
pub record Going (bytes : List ℕ) (p₀ : Progress) (h₀ : ℕ) (p : Progress) (h : ℕ) (sound : Bool) : Type 0 where
  pub same : worked_all bytes p ≡ worked_all bytes p₀
  pub holds : held_all bytes h p ≡ held_all bytes h₀ p₀
  pub watched : Watched p.pool.shape p.pool.memory sound

-- the loop's own values as a progress
abbrev pub at_work : Shape → List ℕ → List Worker → ℕ → List ℕ → ℕ → Progress
at_work sh s t at lines to = record { pool = record { shape = sh; memory = record { store = s; table = t } }; at = at; lines = lines; to = to }
