-- The pool's items as the order's: their keys, and what a walk of the pool is to the order. Assumes nothing.
use Rattle.std.specs.Prelude.{◌≡◌, true, ◌⊎◌, ℕ, ◌+◌, ◌%◌, ◌≤◌, ◌<◌}
use Rattle.std.proofs.Common.{ap}
use Rattle.std.proofs.Math.Bool.{Bool-discrete}
use Rattle.std.proofs.Math.Decide.{ℕ_discrete}
use Rattle.arrival.specs.declared.Shape.{Shape}
use Rattle.arrival.specs.declared.Worker.{Worker}
use Rattle.arrival.specs.declared.Item.{Item}
use Rattle.arrival.specs.Keys.{lower, item_bucket}
use Rattle.arrival.proofs.Keys.{lower_trans, lower_irr, lower_weak, bucket_mono}
use Rattle.calendar.specs.facts.Views.{View, item_in}
use Rattle.order.specs.Entries.{Keys, Element}
use Rattle.order.specs.Scans.{Walker as Walk}
use Rattle.lists.specs.Chain.{In}
use Rattle.lists.specs.LinkInvariant.{Chains}
use Rattle.lists.specs.LinkPaths.{Reach}

pub same_item? : (a b : Item) → Dec (a ≡ b)
same_item? a b =
    go (ℕ_discrete a.time b.time) (ℕ_discrete a.path b.path) (ℕ_discrete a.order b.order) (ℕ_discrete a.distance b.distance)
    (ℕ_discrete a.ticket b.ticket)
  where
    go : Dec (a.time ≡ b.time) → Dec (a.path ≡ b.path) → Dec (a.order ≡ b.order) → Dec (a.distance ≡ b.distance) → Dec (a.ticket ≡ b.ticket)
        → Dec (a ≡ b)
    go (yes p) (yes q) (yes r) (yes s) (yes t) = yes (λ i. record { time = p i; path = q i; order = r i; distance = s i; ticket = t i })
    go (no n) q r s t = no (λ e. n (ap (λ (x : Item). x.time) e))
    go (yes p) (no n) r s t = no (λ e. n (ap (λ (x : Item). x.path) e))
    go (yes p) (yes q) (no n) s t = no (λ e. n (ap (λ (x : Item). x.order) e))
    go (yes p) (yes q) (yes r) (no n) t = no (λ e. n (ap (λ (x : Item). x.distance) e))
    go (yes p) (yes q) (yes r) (yes s) (no n) = no (λ e. n (ap (λ (x : Item). x.ticket) e))

abbrev pub keys : (sh : Shape) → 0 < sh.width → Keys
keys sh wd = record {
  X = Item;
  ◌<ₖ◌ = λ a b. lower a b ≡ true;
  irreflₖ = λ {x} h. lower_irr x h;
  transₖ = λ {x} {y} {z} g h. lower_trans x y z g h;
  weakₖ = λ {x} {z} y h. lower_weak x y z h;
  same?ₖ = same_item?;
  below?ₖ = λ a b. Bool-discrete (lower a b) true;
  ticketₖ = λ a. a.ticket;
  bucketₖ = item_bucket sh;
  bucket_upₖ = λ {x} {y} h. bucket_mono sh x y wd h;
}

module _ (sh : Shape) (wd : 0 < sh.width) where
  abbrev pub arr : View → ℕ → Element (keys sh wd)
  arr m n = record { it = item_in m n }

  -- the node n is an unmarked one of bucket b and holds q
  abbrev pub Holds : View → Chains → ℕ → Element (keys sh wd) → ℕ → Type 0
  Holds m ch b q n = record { inside : In n (ch b); clean : m.cells (sh.buckets + n) % 2 ≡ 0; key : item_in m n ≡ q.it }

  -- the walk of w will meet n
  abbrev pub Meets : View → Worker → ℕ → Type 0
  Meets m w n = (w.stage ≡ 9) ⊎ ((10 ≤ w.stage) × (w.stage ≤ 11) × Reach sh m.cells n w.right)

  abbrev pub Ahead : View → Chains → Worker → Element (keys sh wd) → Type 0
  Ahead m ch w q = (n : ℕ) × Holds m ch w.bucket q n × Meets m w n

  abbrev pub walk : View → Chains → Worker → Walk (keys sh wd)
  walk m ch w = record { call = w.ticket; floor = w.bucket; epoch = w.current % 4294967296; Ahead = Ahead m ch w }
