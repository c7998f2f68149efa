-- The line that a response prints.
-- Assumes nothing.
use Rattle.std.specs.Prelude.{List, [], ◌∷◌, ◌++◌, ℕ, ◌^◌, ◌<◌}
use Rattle.arrival.specs.declared.Response.{Response}
use Rattle.arrival.specs.declared.Response.TheVariants.{Opened, Begun, On, Stored, Took, Empty, Refused}
use Rattle.turn_file.specs.Decimal.{decimal}

-- The values behind a word, each after a space, and the line's end.
abbrev pub values : List ℕ → List ℕ
values [] = 10 ∷ []
values (x ∷ xs) = 32 ∷ (decimal x ++ values xs)

abbrev pub took_line : ℕ → ℕ → ℕ → ℕ → List ℕ
took_line time path order energy = 116 ∷ 111 ∷ 111 ∷ 107 ∷ values (time ∷ path ∷ order ∷ energy ∷ [])

-- `open`, `begun N`, `on`, `stored N`, `took TIME PATH ORDER ENERGY`, `empty`, `no N`.
unfoldable pub line_of : Response → List ℕ
line_of Opened = 111 ∷ 112 ∷ 101 ∷ 110 ∷ values []
line_of (Begun ticket) = 98 ∷ 101 ∷ 103 ∷ 117 ∷ 110 ∷ values (ticket ∷ [])
line_of On = 111 ∷ 110 ∷ values []
line_of (Stored ticket) = 115 ∷ 116 ∷ 111 ∷ 114 ∷ 101 ∷ 100 ∷ values (ticket ∷ [])
line_of (Took time path order distance energy) = took_line time path order energy
line_of Empty = 101 ∷ 109 ∷ 112 ∷ 116 ∷ 121 ∷ values []
line_of (Refused number) = 110 ∷ 111 ∷ values (number ∷ [])

-- Each value that is printed is a word.
abbrev pub Words : Response → Type 0
Words Opened = Unit {0}
Words (Begun ticket) = ticket < 2 ^ 64
Words On = Unit {0}
Words (Stored ticket) = ticket < 2 ^ 64
Words (Took time path order distance energy) = (time < 2 ^ 64) × (path < 2 ^ 64) × (order < 2 ^ 64) × (energy < 2 ^ 64)
Words Empty = Unit {0}
Words (Refused number) = number < 2 ^ 64
