-- What no operation changes: a refused one changes nothing; words beyond the layout, records beyond the workers and the
-- records of other workers stay; lengths stay.
--     SameSize, SameBeyond                              as long; the same beyond the layout and the workers
-- Assumes nothing.
use Rattle.std.specs.Prelude.{◌≡◌, length, drop}
use Rattle.arrival.specs.declared.Shape.{Shape}
use Rattle.calendar.specs.rules.Layout.{layout}
use Rattle.calendar.specs.rules.Operations.{Memory}

-- ── lengths, and what lies beyond ──
pub record SameSize (m m' : Memory) : Type 0 where
  pub store : length m'.store ≡ length m.store
  pub table : length m'.table ≡ length m.table

pub record SameBeyond (sh : Shape) (m m' : Memory) : Type 0 where
  pub store : drop (layout sh) m'.store ≡ drop (layout sh) m.store
  pub table : drop sh.workers m'.table ≡ drop sh.workers m.table
