-- What starts and turns leave of a record's ranges and of the three first words, on any store. Of a turn's record only what it has read from elsewhere, `right`
-- and `seen`, can be out of range.
--     links_in_range                        their test is then the test of the whole record
-- Assumes nothing.
use Rattle.std.specs.Prelude.{◌≡◌, Bool, ◌&&◌, leb}
use Rattle.arrival.specs.declared.Shape.{Shape}
use Rattle.arrival.specs.declared.Worker.{Worker}
use Rattle.calendar.specs.rules.Ranges.{link_in_range}

-- ── a turn ──
-- what follows leaves `right` and `seen` as they were set
abbrev pub Same : Worker → Worker → Type 0
Same v u = (u.right ≡ v.right) × (u.seen ≡ v.seen)

-- what a turn may have read from elsewhere
abbrev pub links_in_range : Shape → Worker → Bool
links_in_range sh w = leb w.right sh.nodes && link_in_range sh w.seen
