-- The marks of a turn file's records, and the records' sizes.
-- Assumes nothing.
use Rattle.std.specs.Prelude.{cond, ℕ, ◌+◌, ◌*◌, eqb}

-- A mark: two ASCII letters, as a little-endian number.
abbrev pub OP : ℕ
OP = 79 + 256 * 80

abbrev pub PU : ℕ
PU = 80 + 256 * 85

abbrev pub TA : ℕ
TA = 84 + 256 * 65

abbrev pub TU : ℕ
TU = 84 + 256 * 85

-- How many bytes a record has, with its mark; 0 for an unknown mark.
unfoldable pub size_of : ℕ → ℕ
size_of mark =
    cond (eqb mark OP) 9
    (cond (eqb mark PU) 12
    (cond (eqb mark TA) 3
    (cond (eqb mark TU) 3
    0)))
