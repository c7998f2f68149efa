-- The sequential queue of demand 3: items, calls and replies. It knows keys and energy, and nothing of the pool. Assumes nothing.
use Rattle.std.specs.Prelude.{cond, List, [], ◌∷◌, ℕ, eqb}
use Rattle.std.proofs.Math.Option.{Option, none, some}
use Rattle.arrival.specs.declared.Item.{Item}
use Rattle.arrival.specs.declared.Response.{Response}
use Rattle.arrival.specs.declared.Response.TheVariants.{Stored, Took, Empty}
use Rattle.arrival.specs.Keys.{lower}
use Rattle.arrival.specs.Energy.{energy_of}

-- What the queue is fed: a put with its arrival and ticket, or a take.
pub data Call : Type 0 where
  enqueue : Item → Call
  dequeue : Call

-- What it gives back: the response, and of an item taken its ticket (0 otherwise).
pub record Reply : Type 0 where
  pub response : Response
  pub ticket : ℕ

-- The items held, in any order.
abbrev pub Items : Type 0
Items = List Item

-- the item of lowest key
abbrev pub lower_of : Item → Option Item → Item
lower_of x none = x
lower_of x (some y) = cond (lower y x) y x

abbrev pub lowest : Items → Option Item
lowest [] = none
lowest (x ∷ S) = some (lower_of x (lowest S))

-- the items without the one of this ticket: no two items have one
abbrev pub remove : ℕ → Items → Items
remove c [] = []
remove c (x ∷ S) = cond (eqb x.ticket c) (remove c S) (x ∷ remove c S)

abbrev pub taken : Item → Response
taken x = Took x.time x.path x.order x.distance (energy_of x.distance)

abbrev pub dequeued : Option Item → Reply
dequeued none = record { response = Empty; ticket = 0 }
dequeued (some x) = record { response = taken x; ticket = x.ticket }

abbrev pub left_over : Items → Option Item → Items
left_over S none = S
left_over S (some x) = remove x.ticket S

-- a put adds its item; a take removes the lowest, if there is one
abbrev pub reply : Items → Call → Reply
reply S (enqueue x) = record { response = Stored x.ticket; ticket = 0 }
reply S dequeue = dequeued (lowest S)

abbrev pub after : Items → Call → Items
after S (enqueue x) = x ∷ S
after S dequeue = left_over S (lowest S)

-- the replies to a list of calls, in order
abbrev pub replies : Items → List Call → List Reply
replies S [] = []
replies S (c ∷ cs) = reply S c ∷ replies (after S c) cs
