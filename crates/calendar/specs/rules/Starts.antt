-- The two starts, where they are not refused. Assumes nothing.
use Rattle.std.specs.Prelude.{List, [], ◌∷◌, ℕ, ◌+◌}
use Rattle.arrival.specs.declared.Shape.{Shape}
use Rattle.arrival.specs.declared.Arrival.{Arrival}
use Rattle.arrival.specs.declared.Item.{Item}
use Rattle.arrival.specs.declared.Worker.{Worker}
use Rattle.arrival.specs.declared.Response.TheVariants.{Begun}
use Rattle.arrival.specs.Keys.{bucket_of}
use Rattle.calendar.specs.rules.Layout.{Write, ◌≔◌, word, field, started, in_use}
use Rattle.calendar.specs.rules.Outcome.{Outcome}

-- A start adds 1 to word 1; that number is the call's ticket (stamp).
abbrev pub next_ticket : Shape → List ℕ → ℕ
next_ticket sh s = started sh s + 1

abbrev pub item_of : Arrival → ℕ → Item
item_of a ticket = record { time = a.time; path = a.path; order = a.order; distance = a.distance; ticket = ticket }

-- a start sets stage, kind and ticket, and for a put own node and bucket
abbrev pub begun : Worker → ℕ → ℕ → ℕ → ℕ → ℕ → Worker
begun w stage kind own bucket ticket =
    record { stage = stage; kind = kind; own = own; bucket = bucket; left = w.left; right = w.right; seen = w.seen; current = w.current; ticket = ticket }

-- node n gets the arrival and the ticket, and is in use
abbrev pub fill : ℕ → Item → List Write
fill n x =
    (field 1 n ≔ x.time)
    ∷ (field 2 n ≔ x.ticket)
    ∷ (field 3 n ≔ x.path)
    ∷ (field 4 n ≔ x.order)
    ∷ (field 5 n ≔ x.distance)
    ∷ (field 7 n ≔ in_use)
    ∷ []

-- A put takes node n, the first free one: it is stored in word 2, filled in and in use; stage 1.
unfoldable pub enqueue_start : Shape → List ℕ → ℕ → Arrival → Worker → Outcome
enqueue_start sh s n a w =
    let c = next_ticket sh s in
    record {
      writes = (word 1 ≔ c) ∷ (word 2 ≔ n) ∷ fill n (item_of a c);
      worker = begun w 1 0 n (bucket_of sh a.time) c;
      response = Begun c;
    }

-- A take enters stage 8.
unfoldable pub dequeue_start : Shape → List ℕ → Worker → Outcome
dequeue_start sh s w =
    let c = next_ticket sh s in
    record { writes = (word 1 ≔ c) ∷ []; worker = begun w 8 1 w.own w.bucket c; response = Begun c }
