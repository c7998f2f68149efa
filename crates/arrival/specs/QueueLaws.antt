-- The sequential queue by its laws: what is lowest, what is left when it is gone, and what takes alone give.
--     drained                                      what takes give, one after the other:
--     Told                                         it is what was there, where a ticket tells an item from others
-- Assumes nothing.
use Rattle.std.specs.Prelude.{◌≡◌, ℕ, zero, suc}
use Rattle.std.proofs.Math.Option.{Option, none, some}
use mathlib.Core.List.{List, [], ◌∷◌, Memᴰ as Mem}
use Rattle.arrival.specs.declared.Item.{Item}
use Rattle.arrival.specs.Queue.{Items, lowest, remove}

-- ── takes alone ──
-- the first, if there is one, and what comes of the rest
abbrev pub first_and : (Items → List Item) → Items → Option Item → List Item
first_and others S none = []
first_and others S (some x) = x ∷ others (remove x.ticket S)

-- what at most n takes give
unfoldable pub drained : ℕ → Items → List Item
drained zero S = []
drained (suc n) S = first_and (drained n) S (lowest S)

-- items of one ticket are one
abbrev pub Told : Items → Type 0
Told S = (x y : Item) → Mem x S → Mem y S → x.ticket ≡ y.ticket → x ≡ y
