-- The line that a response prints.
-- Assumes nothing.
use Rattle.std.specs.Prelude.{◌≡◌, List, [], ◌∷◌, ◌++◌, ℕ, ◌+◌, ◌≤◌, length}
use Rattle.std.proofs.Common.{arith, length-append}
use Rattle.arrival.specs.declared.Response.{Response}
use Rattle.arrival.specs.declared.Response.TheVariants.{Opened, Begun, On, Stored, Took, Empty, Refused}
use Rattle.turn_file.specs.Decimal.{decimal}
use Rattle.turn_file.proofs.Decimal.{decimal_word}
use Rattle.turn_file.specs.Lines.{values, took_line, line_of, Words}

-- The sizes of the two lines that have numbers.
pub number_size : (word : List ℕ) (x : ℕ) → length (word ++ (decimal x ++ (10 ∷ []))) ≡ length word + length (decimal x) + 1
number_size word x = omega (arith, length-append word (decimal x ++ (10 ∷ [])), length-append (decimal x) (10 ∷ []))

pub took_size : (time path order energy : ℕ)
    → length (took_line time path order energy)
    ≡ 9 + length (decimal time) + length (decimal path) + length (decimal order) + length (decimal energy)
took_size time path order energy =
    omega (
      arith,
      length-append (decimal time) (values (path ∷ order ∷ energy ∷ [])),
      length-append (decimal path) (values (order ∷ energy ∷ [])),
      length-append (decimal order) (values (energy ∷ [])),
      length-append (decimal energy) (values []),
    )

pub line_least : (response : Response) → 3 ≤ length (line_of response)
unfolding line_of
line_least Opened = omega arith
line_least (Begun ticket) = omega arith
line_least On = omega arith
line_least (Stored ticket) = omega arith
line_least (Took time path order distance energy) = omega arith
line_least Empty = omega arith
line_least (Refused number) = omega arith

pub line_most : (response : Response) → Words response → length (line_of response) ≤ 89
unfolding line_of
line_most Opened h = omega arith
line_most (Begun ticket) h = omega (arith, length-append (decimal ticket) (10 ∷ []), decimal_word ticket h)
line_most On h = omega arith
line_most (Stored ticket) h = omega (arith, length-append (decimal ticket) (10 ∷ []), decimal_word ticket h)
line_most (Took time path order distance energy) h =
    omega (
      arith,
      took_size time path order energy,
      decimal_word time h.0,
      decimal_word path h.1,
      decimal_word order h.2,
      decimal_word energy h.3,
    )
line_most Empty h = omega arith
line_most (Refused number) h = omega (arith, length-append (decimal number) (10 ∷ []), decimal_word number h)
