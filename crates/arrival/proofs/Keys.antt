-- The order of keys and the bucket of a time, with their laws: what all proofs use. Outside this file only the functions
-- that compute them and runs that are computed open either.
--     by_hand                                the key of an item; items are ordered by their keys; items by hand
--     time_decides, order_decides           the order in words: the time decides where it differs, at equal times the order
--     ticket_decides                        where it differs, at equal times and orders the ticket
--     lower_keys, lower_by_key              keys that were read; the order of items looks at nothing but their keys
--     item_bucket_lem                             the bucket of a time, and of an item
--     lower_irr, lower_trans                the order is strict
--     lower_weak, lower_total               weak, and total on different tickets
--     bucket_below                          the bucket of a time is one of the buckets
--     lower_time, bucket_mono               a lower key has no higher time, and lies in no higher bucket
-- Assumes nothing.
use Rattle.std.specs.Prelude.{◌≡◌, refl, true, false, ◌≢◌, ◌⊎◌, ℕ, ◌/◌, ◌≤◌, ◌<◌, eqb, ltb}
use Rattle.std.proofs.Math.Bool.{and-false, or-false}
use mathlib.Core.List.Memᴰ.{head as here}
use mathlib.Core.List.Memᴰ.{tail as there}
use Rattle.std.proofs.Common.{le-div_iff_mul-le, div-mul-le_self, arith, le-ltb, eq-eqb, ne_eqb}
use Rattle.arrival.specs.declared.Shape.{Shape}
use Rattle.arrival.specs.declared.Item.{Item}
use Rattle.arrival.specs.declared.Key.{Key}
use Rattle.laws.specs.Tests.{is_true}
use Rattle.laws.proofs.Lexicographic.{lower_by_irr, lower_by_trans, lower_by_weak, lower_by_alike, lower_by_first}
use Rattle.arrival.specs.Keys.{components, lower_key, key_of, lower, bucket_of, item_bucket}

-- By hand: an earlier time, whatever its order and ticket; the direct sound before a first reflection that was put earlier; of
-- one time and order the earlier ticket. Path and distance do not count.
abbrev item : ℕ → ℕ → ℕ → ℕ → Item
item time order ticket other = record { time = time; path = other; order = order; distance = other; ticket = ticket }

by_hand :
    (lower (item 4 2 9 6) (item 5 0 1 6) ≡ true) × (lower (item 5 0 1 6) (item 4 2 9 6) ≡ false)
    × (lower (item 5 0 9 6) (item 5 1 2 6) ≡ true) × (lower (item 5 1 2 6) (item 5 0 9 6) ≡ false)
    × (lower (item 5 1 2 6) (item 5 1 3 6) ≡ true) × (lower (item 5 1 3 6) (item 5 1 2 6) ≡ false)
    × (lower (item 5 1 2 6) (item 5 1 2 7) ≡ false) × (lower (item 5 1 2 7) (item 5 1 2 6) ≡ false)
unfolding lower
by_hand = (refl, refl, refl, refl, refl, refl, refl, refl)

-- In words: the time decides where it differs; at equal times the order does, where it differs; at equal times and orders the ticket.
pub time_decides : (a b : Key) → a.time ≢ b.time → lower_key a b ≡ ltb a.time b.time
time_decides a b n = rw (ne_eqb a.time b.time n) (or-false (ltb a.time b.time))

pub order_decides : (a b : Key) → a.time ≡ b.time → a.order ≢ b.order → lower_key a b ≡ ltb a.order b.order
order_decides a b e n =
    rw (le-ltb a.time b.time (omega arith), eq-eqb a.time b.time e, ne_eqb a.order b.order n) (or-false (ltb a.order b.order))

pub ticket_decides : (a b : Key) → a.time ≡ b.time → a.order ≡ b.order → lower_key a b ≡ ltb a.ticket b.ticket
ticket_decides a b e d =
    rw (
      le-ltb a.time b.time (omega arith),
      eq-eqb a.time b.time e,
      le-ltb a.order b.order (omega arith),
      eq-eqb a.order b.order d,
      and-false (eqb a.ticket b.ticket),
    ) (or-false (ltb a.ticket b.ticket))

pub lower_keys : (x y : Item) (a b : Key) → a ≡ key_of x → b ≡ key_of y → lower_key a b ≡ lower x y
unfolding lower
lower_keys x y a b p q = λ j. lower_key (p j) (q j)

-- The order looks at nothing but the keys.
pub lower_by_key : (a a' b b' : Item) → key_of a ≡ key_of a' → key_of b ≡ key_of b' → lower a b ≡ lower a' b'
unfolding lower
lower_by_key a a' b b' p q = λ j. lower_key (p j) (q j)

pub item_bucket_lem : (sh : Shape) (x : Item) → item_bucket sh x ≡ bucket_of sh x.time
unfolding item_bucket
item_bucket_lem sh x = refl

-- The order is strict,
pub lower_irr : (a : Item) → lower a a ≡ true → ⊥
unfolding lower
lower_irr a = lower_by_irr components (key_of a)

pub lower_trans : (a b c : Item) → lower a b ≡ true → lower b c ≡ true → lower a c ≡ true
unfolding lower
lower_trans a b c = lower_by_trans components (key_of a) (key_of b) (key_of c)

-- weak,
pub lower_weak : (a b c : Item) → lower a c ≡ true → (lower a b ≡ true) ⊎ (lower b c ≡ true)
unfolding lower
lower_weak a b c = lower_by_weak components (key_of a) (key_of b) (key_of c)

-- and total on different tickets.
pub lower_total : (a b : Item) → lower a b ≡ false → a.ticket ≢ b.ticket → lower b a ≡ true
unfolding lower
lower_total a b h n = is_true (lower b a) (λ k. n (lower_by_alike components (key_of a) (key_of b) h k (λ k. k.ticket) (there (there (here refl)))))

-- The bucket of a time is one of the buckets.
pub bucket_below : (sh : Shape) (time : ℕ) → 1 ≤ sh.buckets → bucket_of sh time < sh.buckets
unfolding bucket_of
bucket_below sh time some = omega arith

-- A lower key has no higher time,
pub lower_time : (a b : Item) → lower a b ≡ true → a.time ≤ b.time
unfolding lower
lower_time a b = lower_by_first components refl (key_of a) (key_of b)

-- and lies in no higher bucket.
pub bucket_mono : (sh : Shape) (a b : Item) → 1 ≤ sh.width → lower a b ≡ true → item_bucket sh a ≤ item_bucket sh b
unfolding item_bucket bucket_of
bucket_mono sh a b w h =
    omega (arith, (le-div_iff_mul-le {x = a.time / sh.width} {y = b.time} w).1 (omega (arith, div-mul-le_self a.time sh.width, lower_time a b h)))
