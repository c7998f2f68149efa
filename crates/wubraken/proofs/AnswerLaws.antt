-- A response in numbers, and that the numbers tell the response. Assumes nothing.
use Rattle.std.specs.Prelude.{◌≡◌, refl}
use Rattle.arrival.specs.declared.Response.{Response}
use Rattle.arrival.specs.declared.Response.TheVariants.{Opened, Begun, On, Stored, Took, Empty, Refused}
use Rattle.arrival.specs.Responses.{said}
use Rattle.wubraken.specs.Answers.{answer_of, response_of, said_by}

pub answer_tells : (r : Response) → response_of (answer_of r) ≡ r
answer_tells Opened = refl
answer_tells (Begun ticket) = refl
answer_tells On = refl
answer_tells (Stored ticket) = refl
answer_tells (Took time path order distance energy) = refl
answer_tells Empty = refl
answer_tells (Refused number) = refl

pub answer_said : (r : Response) → said_by (answer_of r) ≡ said r
answer_said Opened = refl
answer_said (Begun ticket) = refl
answer_said On = refl
answer_said (Stored ticket) = refl
answer_said (Took time path order distance energy) = refl
answer_said Empty = refl
answer_said (Refused number) = refl
