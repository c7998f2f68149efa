-- A run of the sequential queue: the lowest key first, equal times by order and then by ticket, empty at the end. Assumes nothing.
use Rattle.std.specs.Prelude.{◌≡◌, refl, List, [], ◌∷◌, ℕ}
use Rattle.arrival.specs.declared.Item.{Item}
use Rattle.arrival.specs.declared.Response.TheVariants.{Stored, Took, Empty}
use Rattle.arrival.specs.Keys.{lower}
use Rattle.arrival.specs.Energy.{energy_of}
use Rattle.arrival.specs.Queue.{Call, enqueue, dequeue, Reply, replies}

item : ℕ → ℕ → ℕ → Item
item time order ticket = record { time = time; path = 7; order = order; distance = 3; ticket = ticket }

-- two first reflections and then the direct sound at time 5, and an early second reflection
calls : List Call
calls =
    dequeue ∷ enqueue (item 9 0 2) ∷ enqueue (item 5 1 3) ∷ enqueue (item 5 1 1) ∷ enqueue (item 5 0 4) ∷ enqueue (item 4 2 5)
    ∷ dequeue ∷ dequeue ∷ dequeue ∷ dequeue ∷ dequeue ∷ dequeue ∷ []

given : List Reply
given =
    record { response = Empty; ticket = 0 }
    ∷ record { response = Stored 2; ticket = 0 }
    ∷ record { response = Stored 3; ticket = 0 }
    ∷ record { response = Stored 1; ticket = 0 }
    ∷ record { response = Stored 4; ticket = 0 }
    ∷ record { response = Stored 5; ticket = 0 }
    ∷ record { response = Took 4 7 2 3 1864135; ticket = 5 }
    ∷ record { response = Took 5 7 0 3 1864135; ticket = 4 }
    ∷ record { response = Took 5 7 1 3 1864135; ticket = 1 }
    ∷ record { response = Took 5 7 1 3 1864135; ticket = 3 }
    ∷ record { response = Took 9 7 0 3 1864135; ticket = 2 }
    ∷ record { response = Empty; ticket = 0 }
    ∷ []

queue_run : replies [] calls ≡ given
unfolding item calls given lower energy_of
queue_run = refl
