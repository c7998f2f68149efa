-- What is read at a position is read at the front of the bytes from there on, also where more bytes follow; only what is cut may be read otherwise then.
--
--     Unknown, Cut                          an unknown mark; too few bytes
-- Assumes nothing.
use Rattle.std.specs.Prelude.{◌≡◌, List, ◌⊎◌, ℕ, ◌+◌, ◌<◌, length}
use Rattle.turn_file.specs.Fields.{two_at}
use Rattle.turn_file.specs.Records.{size_of}

-- ── what an answer without a record tells ──
-- an unknown mark
abbrev pub Unknown : List ℕ → ℕ → Type 0
Unknown s at = (at + 1 < length s) × (size_of (two_at s at) ≡ 0)

-- one byte, or a mark with too few behind it
abbrev pub Cut : List ℕ → ℕ → Type 0
Cut s at = (length s ≡ at + 1) ⊎ ((at + 1 < length s) × (length s < at + size_of (two_at s at)))
