-- A response by its number and values. Assumes nothing.
use Rattle.std.specs.Prelude.{List, [], ◌∷◌, ℕ}
use Rattle.arrival.specs.declared.Response.{Response}
use Rattle.arrival.specs.declared.Response.TheVariants.{Opened, Begun, On, Stored, Took, Empty, Refused}

-- the number of its refusal, 0 for none, and the values that it carries, in order
pub record Said : Type 0 where
  pub number : ℕ
  pub values : List ℕ

abbrev pub said : Response → Said
said Opened = record { number = 0; values = [] }
said (Begun ticket) = record { number = 0; values = ticket ∷ [] }
said On = record { number = 0; values = [] }
said (Stored ticket) = record { number = 0; values = ticket ∷ [] }
said (Took time path order distance energy) = record { number = 0; values = time ∷ path ∷ order ∷ distance ∷ energy ∷ [] }
said Empty = record { number = 0; values = [] }
said (Refused number) = record { number = number; values = [] }
