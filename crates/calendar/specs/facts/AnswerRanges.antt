-- The values that an answer carries are in their ranges: of whole calls on any memory, for what is out of range is refused by 3, of narrow ones where the
-- memory stays in range. So a taken arrival's time has 32 bits, and its energy is at most 2^24.
--     ValuesInRange                          the values of a response
--     AllInRange                             of a history
-- Assumes nothing.
use Rattle.std.specs.Prelude.{List, [], ◌∷◌, ◌≤◌, ◌<◌}
use Rattle.arrival.specs.declared.Response.{Response}
use Rattle.arrival.specs.declared.Response.TheVariants.{Opened, Begun, On, Stored, Took, Empty, Refused}

abbrev pub ValuesInRange : Response → Type 0
ValuesInRange Opened = Unit {0}
ValuesInRange (Begun ticket) = ticket < 4294967296
ValuesInRange On = Unit {0}
ValuesInRange (Stored ticket) = ticket < 4294967296
ValuesInRange (Took time path order distance energy) = (time < 4294967296) × (path ≤ 65535) × (order ≤ 63) × (distance ≤ 1024) × (energy ≤ 16777216)
ValuesInRange Empty = Unit {0}
ValuesInRange (Refused number) = number ≤ 12

-- ── histories ──
abbrev pub AllInRange : List Response → Type 0
AllInRange [] = Unit {0}
AllInRange (r ∷ rs) = ValuesInRange r × AllInRange rs
