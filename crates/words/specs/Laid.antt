-- A store that a shape is laid out in: what lets a place be read and written. Assumes nothing.
use Rattle.std.specs.Prelude.{List, ℕ, ◌+◌, ◌<◌, ◌≤◌, length}
use Rattle.std.proofs.Common.{arith}
use Rattle.arrival.specs.declared.Shape.{Shape}
use Rattle.calendar.specs.rules.Layout.{Place, cell, field, address, layout, write}
use Rattle.calendar.proofs.facts.Places.{length_write, cell_inside, field_inside}
use Rattle.calendar.specs.facts.RangeFacts.{Limits}

-- the shape's limits that bound addresses, and a store long enough
pub record Laid (sh : Shape) (s : List ℕ) : Type 0 where
  pub some_bucket : 1 ≤ sh.buckets
  pub buckets : sh.buckets ≤ 256
  pub nodes : sh.nodes ≤ 4096
  pub fits : layout sh ≤ length s

pub laid : (sh : Shape) (s : List ℕ) → Limits sh → layout sh ≤ length s → Laid sh s
laid sh s l h = record { some_bucket = l.some_bucket; buckets = l.buckets; nodes = l.nodes; fits = h }

-- a write leaves it laid out
pub laid_write : (sh : Shape) (s : List ℕ) (p : Place) (v : ℕ) → Laid sh s → Laid sh (write sh s p v)
laid_write sh s p v h = record { some_bucket = h.some_bucket; buckets = h.buckets; nodes = h.nodes; fits = rw length_write h.fits }

-- the places of a store that is laid out lie inside
pub cell_in : (sh : Shape) (s : List ℕ) (p : ℕ) → Laid sh s → p < sh.buckets + sh.nodes → address sh (cell p) < length s
cell_in sh s p h l = omega (arith, cell_inside sh p l, h.fits)

pub field_in : (sh : Shape) (s : List ℕ) (f n : ℕ) → Laid sh s → f < 8 → n < sh.nodes → address sh (field f n) < length s
field_in sh s f n h k l = omega (arith, field_inside sh f n k l, h.fits)
