-- The order of keys and the bucket of a time, with their laws: what all proofs use. Outside this file only the functions
-- that compute them and runs that are computed open either.
--     components, lower_key                  the order of keys: by time, then reflection order, then ticket
--     key_of, lower                          the key of an item; items are ordered by their keys; items by hand
--     bucket_of, item_bucket                      the bucket of a time, and of an item
-- Assumes nothing.
use Rattle.std.specs.Prelude.{Bool, List, [], ◌∷◌, ℕ, ◌-◌, ◌/◌, min}
use Rattle.arrival.specs.declared.Shape.{Shape}
use Rattle.arrival.specs.declared.Item.{Item}
use Rattle.arrival.specs.declared.Key.{Key}
use Rattle.laws.specs.Lexicographic.{lower_by}

-- time, then reflection order, then ticket
abbrev pub components : List (Key → ℕ)
components = (λ k. k.time) ∷ (λ k. k.order) ∷ (λ k. k.ticket) ∷ []

abbrev pub lower_key : Key → Key → Bool
lower_key = lower_by components

abbrev pub key_of : Item → Key
key_of x = record { time = x.time; order = x.order; ticket = x.ticket }

unfoldable pub lower : Item → Item → Bool
lower a b = lower_key (key_of a) (key_of b)

-- the smaller of time divided by width, rounded down, and buckets − 1
unfoldable pub bucket_of : Shape → ℕ → ℕ
bucket_of sh time = min (time / sh.width) (sh.buckets - 1)

-- the bucket of an item
unfoldable pub item_bucket : Shape → Item → ℕ
item_bucket sh x = bucket_of sh x.time
