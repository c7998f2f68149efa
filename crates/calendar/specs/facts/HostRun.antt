-- A host's requests are their starts and turns one by one, where the memory stays in range whatever is done.
--     StaysInRange                                       in range after every history; so it stays
--     Replied                                            one request
-- Assumes nothing.
use Rattle.std.specs.Prelude.{◌≡◌, List, [], ◌∷◌, ◌++◌, true}
use Rattle.arrival.specs.declared.Shape.{Shape}
use Rattle.arrival.specs.declared.Action.{Action}
use Rattle.arrival.specs.declared.Request.{Request}
use Rattle.arrival.specs.declared.Response.{Response}
use Rattle.calendar.specs.rules.Ranges.{store_in_range, table_in_range}
use Rattle.calendar.specs.rules.Operations.{Memory, run, responses}
use Rattle.calendar.specs.rules.HostHistory.{requested, made_by}

-- ── in range ──
abbrev pub StaysInRange : Shape → Memory → Type 0
StaysInRange sh m = (h : List Action) → let n = run sh m h in (store_in_range sh n.store ≡ true) × (table_in_range sh n.table ≡ true)

-- ── one request ──
pub record Replied (sh : Shape) (m : Memory) (q : Request) : Type 0 where
  pub memory : (requested sh m q).memory ≡ run sh m (made_by sh m q)
  pub before : List Response
  pub responses : responses sh m (made_by sh m q) ≡ before ++ (requested sh m q).response ∷ []
