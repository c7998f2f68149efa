-- The places of the store: a write changes the place that it names and no other, and the places that the rules write lie in the layout.
--     same, valid                                two places are one; a place that there is
-- Assumes nothing.
use Rattle.std.specs.Prelude.{Bool, true, false, ◌&&◌, eqb, leb, ltb}
use Rattle.calendar.specs.rules.Layout.{Place, word, cell, field}

-- ── places ──
-- one place, by computation
abbrev pub same : Place → Place → Bool
same (word j) (word k) = eqb j k
same (word j) (cell q) = false
same (word j) (field g m) = false
same (cell p) (word k) = false
same (cell p) (cell q) = eqb p q
same (cell p) (field g m) = false
same (field f n) (word k) = false
same (field f n) (cell q) = false
same (field f n) (field g m) = eqb f g && eqb n m

-- a place that there is: words 0 to 2, fields 1 to 7
abbrev pub valid : Place → Bool
valid (word k) = ltb k 3
valid (cell p) = true
valid (field f n) = leb 1 f && leb f 7
