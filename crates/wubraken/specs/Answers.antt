-- A response in numbers, and that the numbers tell the response. Assumes nothing.
use Rattle.std.specs.Prelude.{[], ◌∷◌, ℕ, get_or, Result, Ok, Err}
use Rattle.arrival.specs.declared.refusals.Refusal.{Refusal}
use Rattle.arrival.specs.Refusals.{number}
use Rattle.arrival.specs.declared.Response.{Response}
use Rattle.arrival.specs.declared.Response.TheVariants.{Opened, Begun, On, Stored, Took, Empty, Refused}
use Rattle.arrival.specs.Responses.{Said}
use Rattle.wubraken.specs.declared.answers.Answer.{Answer}

-- a response, or what refuses, which is a response too
abbrev pub Outcome : Type 0
Outcome = Result Response Refusal

abbrev pub responded : Outcome → Response
responded (Ok response) = response
responded (Err refusal) = Refused (number refusal)

-- of one value at most
abbrev pub brief : ℕ → ℕ → ℕ → Answer
brief kind number ticket = record { kind = kind; number = number; ticket = ticket; time = 0; path = 0; order = 0; distance = 0; energy = 0 }

abbrev pub answer_of : Response → Answer
answer_of Opened = brief 0 0 0
answer_of (Begun ticket) = brief 1 0 ticket
answer_of On = brief 2 0 0
answer_of (Stored ticket) = brief 3 0 ticket
answer_of (Took time path order distance energy) =
    record { kind = 4; number = 0; ticket = 0; time = time; path = path; order = order; distance = distance; energy = energy }
answer_of Empty = brief 5 0 0
answer_of (Refused number) = brief 6 number 0

-- read back by its kind
abbrev pub response_of : Answer → Response
response_of a =
    get_or (Opened ∷ Begun a.ticket ∷ On ∷ Stored a.ticket ∷ Took a.time a.path a.order a.distance a.energy ∷ Empty ∷ []) a.kind
    (Refused a.number)

-- the number and the values
abbrev pub said_by : Answer → Said
said_by a = record {
  number = a.number;
  values = get_or ([] ∷ (a.ticket ∷ []) ∷ [] ∷ (a.ticket ∷ []) ∷ (a.time ∷ a.path ∷ a.order ∷ a.distance ∷ a.energy ∷ []) ∷ []) a.kind [];
}
