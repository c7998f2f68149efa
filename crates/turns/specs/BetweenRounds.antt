-- What the code holds between rounds, as the definition of a round has it.
--     in_hand                         the bytes in hand
--     holding, leaves                what is held before a round, and left by it
--     Placed                         the places lie in their buffers
-- Assumes nothing.
use Rattle.std.specs.Prelude.{◌≡◌, Bool, List, ℕ, ◌-◌, ◌≤◌, ◌<◌, length, take, drop}
use Rattle.batch.specs.declared.HeldPool.{HeldPool}
use Rattle.batch.specs.CodeView.{lent_to}
use Rattle.turns.specs.declared.Next.TheVariants.{Read}
use Rattle.turns.specs.declared.Round.{Round}
use Rattle.turns.specs.TurnsRun.{Held, Rounded}

-- the bytes from `at` to `have`
abbrev pub in_hand : ℕ → ℕ → List ℕ → List ℕ
in_hand at have input = take (have - at) (drop at input)

abbrev pub holding : HeldPool → List ℕ → Bool → List ℕ → List ℕ → Held
holding d s ended bytes out = record { pool = record { shape = d.shape; memory = lent_to d s }; bytes = bytes; ended = ended; out = out }

abbrev pub leaves : Round → List ℕ → List ℕ → List ℕ → Rounded
leaves r bytes out s =
    record { pool = record { shape = r.pool.shape; memory = lent_to r.pool s }; rest = drop r.at bytes; out = out; to = r.to; next = r.next }

-- the places within their buffers; of a cut record fewer bytes are kept than any record has
pub record Placed (r : Round) (bytes out : List ℕ) : Type 0 where
  pub at : r.at ≤ length bytes
  pub to : r.to ≤ length out
  pub few : r.next ≡ Read → length bytes - r.at < 12
