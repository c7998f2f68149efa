-- The ranges: of the shape, of every layout word of the store, of one worker's record. Assumes nothing.
use Rattle.std.specs.Prelude.{List, Bool, ◌&&◌, ◌||◌, not, ℕ, ◌+◌, ◌-◌, ◌%◌, eqb, leb, ltb, get_or}
use Rattle.arrival.specs.declared.Shape.{Shape}
use Rattle.arrival.specs.declared.Worker.{Worker}
use Rattle.laws.specs.Counting.{every}
use Rattle.calendar.specs.rules.Layout.{current, started, last_node, head, link, time_at, ticket_at, path_at, order_at, distance_at, epoch_at, standing}
use Rattle.calendar.specs.rules.Layout.{successor, bucket_in}

-- workers 1 to 64, nodes 1 to 4,096, buckets 1 to 256, width 1 to 65,535
abbrev pub shape_in_range : Shape → Bool
shape_in_range sh =
    leb 1 sh.workers && leb sh.workers 64 && leb 1 sh.nodes && leb sh.nodes 4096
    && leb 1 sh.buckets && leb sh.buckets 256 && leb 1 sh.width && leb sh.width 65535

-- path 0 to 65,535, order 0 to 63, distance 1 to 1,024
abbrev pub path_in_range : ℕ → Bool
path_in_range path = leb path 65535

abbrev pub order_in_range : ℕ → Bool
order_in_range order = leb order 63

abbrev pub distance_in_range : ℕ → Bool
distance_in_range distance = leb 1 distance && leb distance 1024

-- below 2^32
abbrev pub small : ℕ → Bool
small x = ltb x 4294967296

-- A current word: its bucket below buckets. (Its epoch is a remainder, and small by itself.)
abbrev pub current_in_range : Shape → ℕ → Bool
current_in_range sh x = ltb (bucket_in x) sh.buckets

-- A link word: its successor at most nodes, its mark any.
abbrev pub link_in_range : Shape → ℕ → Bool
link_in_range sh x = leb (successor x) sh.nodes

-- a head is not marked
abbrev pub head_in_range : Shape → List ℕ → ℕ → Bool
head_in_range sh s b = eqb (head sh s b % 2) 0 && link_in_range sh (head sh s b)

-- time, ticket and epoch below 2^32, and s in a standing 2 + s; distance 0 only in a node never used
abbrev pub node_in_range : Shape → List ℕ → ℕ → Bool
node_in_range sh s n =
    link_in_range sh (link sh s n)
    && small (time_at sh s n)
    && small (ticket_at sh s n)
    && path_in_range (path_at sh s n)
    && order_in_range (order_at sh s n)
    && (leb 1 (distance_at sh s n) || eqb (standing sh s n) 0)
    && leb (distance_at sh s n) 1024
    && small (epoch_at sh s n)
    && ltb (standing sh s n) 4294967298

-- the three first words
abbrev pub words_in_range : Shape → List ℕ → Bool
words_in_range sh s = current_in_range sh (current sh s) && small (started sh s) && ltb (last_node sh s) sh.nodes

-- every word of the layout
unfoldable pub store_in_range : Shape → List ℕ → Bool
store_in_range sh s = words_in_range sh s && every sh.buckets (λ b. head_in_range sh s b) && every sh.nodes (λ n. node_in_range sh s n)

abbrev pub implies : Bool → Bool → Bool
implies a b = not a || b

abbrev pub between : ℕ → ℕ → ℕ → Bool
between a b x = leb a x && leb x b

-- A record: which call it is of, where that stands, and the words that it holds.
-- stage 0 to 13; kind 0 at 4 to 7 and 1 at 8 to 13; own a node
abbrev pub call_in_range : Shape → Worker → Bool
call_in_range sh w =
    leb w.stage 13
    && leb w.kind 1
    && implies (between 4 7 w.stage) (eqb w.kind 0)
    && implies (between 8 13 w.stage) (eqb w.kind 1)
    && ltb w.own sh.nodes

-- bucket not the last at 12; right not end at 2, 3, 10 and 11
abbrev pub place_in_range : Shape → Worker → Bool
place_in_range sh w =
    ltb w.bucket sh.buckets
    && implies (eqb w.stage 12) (not (eqb w.bucket (sh.buckets - 1)))
    && ltb w.left (sh.buckets + sh.nodes)
    && leb w.right sh.nodes
    && implies (between 2 3 w.stage || between 10 11 w.stage) (not (eqb w.right sh.nodes))

-- words seen as the words they copy
abbrev pub words_held_in_range : Shape → Worker → Bool
words_held_in_range sh w = link_in_range sh w.seen && current_in_range sh w.current && small w.ticket

abbrev pub record_in_range : Shape → Worker → Bool
record_in_range sh w = call_in_range sh w && place_in_range sh w && words_held_in_range sh w

-- an idle record, all fields 0
unfoldable pub blank : Worker
blank = record { stage = 0; kind = 0; own = 0; bucket = 0; left = 0; right = 0; seen = 0; current = 0; ticket = 0 }

-- the record of worker i
abbrev pub worker : List Worker → ℕ → Worker
worker t i = get_or t i blank

-- the records of the workers
unfoldable pub table_in_range : Shape → List Worker → Bool
table_in_range sh t = every sh.workers (λ i. record_in_range sh (worker t i))
