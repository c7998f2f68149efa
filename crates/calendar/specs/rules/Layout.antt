-- The lent store as a list of words: its places, their addresses, and what the words say.
--     Place, address, layout                        the places, their addresses, and how many words there are
--     read, write, Write, write_all                  reading, writing, and writing several
--     current, started, last_node, head, link ..     the words by name
--     successor, is_marked, unmarked, marked         what a head or link says
--     bucket_in, epoch_in, current_word                what current says
--     in_use, unlinked_at                             what a standing says
-- Assumes nothing.
use Rattle.std.specs.Prelude.{List, [], ◌∷◌, Bool, ℕ, ◌+◌, ◌*◌, ◌-◌, ◌/◌, ◌%◌, eqb, get_or, set}
use Rattle.arrival.specs.declared.Shape.{Shape}
use Rattle.arrival.specs.declared.Item.{Item}

-- A place of the store: one of the first three words; a cell (left word), which a record's `left` names (the heads first, then
-- the nodes' links); a field 1 to 7 of a node: time, ticket, path, order, distance, epoch, standing.
pub data Place : Type 0 where
  word : ℕ → Place
  cell : ℕ → Place
  field : ℕ → ℕ → Place

-- Three words, one head a bucket, eight words a node, the link first. Cell p below `buckets` is at 3 + p, and cell
-- buckets + n at 3 + buckets + 8 n.
unfoldable pub address : Shape → Place → ℕ
address sh (word k) = k
address sh (cell p) = 3 + p + 7 * (p - sh.buckets)
address sh (field f n) = 3 + sh.buckets + 8 * n + f

-- how many words a shape needs
abbrev pub layout : Shape → ℕ
layout sh = 3 + sh.buckets + 8 * sh.nodes

-- ── reading and writing ──
unfoldable pub read : Shape → List ℕ → Place → ℕ
read sh s p = get_or s (address sh p) 0

unfoldable pub write : Shape → List ℕ → Place → ℕ → List ℕ
write sh s p v = set s (address sh p) v

-- What an operation does to the store: values to places, one after the other.
infix 4 ◌≔◌
pub data Write : Type 0 where
  ◌≔◌ : Place → ℕ → Write

abbrev pub write_all : Shape → List ℕ → List Write → List ℕ
write_all sh s [] = s
write_all sh s ((p ≔ v) ∷ ws) = write_all sh (write sh s p v) ws

-- ── the words by name ──
-- word 0: the current bucket and its epoch
abbrev pub current : Shape → List ℕ → ℕ
current sh s = read sh s (word 0)

-- word 1: how many calls have been started
abbrev pub started : Shape → List ℕ → ℕ
started sh s = read sh s (word 1)

-- word 2: the last node handed out
abbrev pub last_node : Shape → List ℕ → ℕ
last_node sh s = read sh s (word 2)

-- the head of bucket b
abbrev pub head : Shape → List ℕ → ℕ → ℕ
head sh s b = read sh s (cell b)

-- the cell of node n's link
abbrev pub link_cell : Shape → ℕ → ℕ
link_cell sh n = sh.buckets + n

-- the eight words of node n, the link first
abbrev pub link : Shape → List ℕ → ℕ → ℕ
link sh s n = read sh s (cell (link_cell sh n))

abbrev pub time_at : Shape → List ℕ → ℕ → ℕ
time_at sh s n = read sh s (field 1 n)

abbrev pub ticket_at : Shape → List ℕ → ℕ → ℕ
ticket_at sh s n = read sh s (field 2 n)

abbrev pub path_at : Shape → List ℕ → ℕ → ℕ
path_at sh s n = read sh s (field 3 n)

abbrev pub order_at : Shape → List ℕ → ℕ → ℕ
order_at sh s n = read sh s (field 4 n)

abbrev pub distance_at : Shape → List ℕ → ℕ → ℕ
distance_at sh s n = read sh s (field 5 n)

abbrev pub epoch_at : Shape → List ℕ → ℕ → ℕ
epoch_at sh s n = read sh s (field 6 n)

abbrev pub standing : Shape → List ℕ → ℕ → ℕ
standing sh s n = read sh s (field 7 n)

-- the arrival in a node, with its ticket
abbrev pub item_at : Shape → List ℕ → ℕ → Item
item_at sh s n = record { time = time_at sh s n; path = path_at sh s n; order = order_at sh s n; distance = distance_at sh s n; ticket = ticket_at sh s n }

-- ── a head or link: 2 × successor + mark ──
abbrev pub successor : ℕ → ℕ
successor x = x / 2

abbrev pub is_marked : ℕ → Bool
is_marked x = eqb (x % 2) 1

abbrev pub unmarked : ℕ → ℕ
unmarked n = 2 * n

-- the marked form of a link
abbrev pub marked : ℕ → ℕ
marked x = 2 * (x / 2) + 1

-- ── current: bucket × 2^32 + epoch ──
abbrev pub bucket_in : ℕ → ℕ
bucket_in x = x / 4294967296

abbrev pub epoch_in : ℕ → ℕ
epoch_in x = x % 4294967296

abbrev pub current_word : ℕ → ℕ → ℕ
current_word b e = b * 4294967296 + e

-- ── standing: 0 never used, 1 in use, 2 + s unlinked when s calls had been started ──
abbrev pub in_use : ℕ
in_use = 1

abbrev pub unlinked_at : ℕ → ℕ
unlinked_at s = 2 + s
