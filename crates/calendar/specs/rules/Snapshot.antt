-- What the store and the table show at a moment: a bucket's list, the nodes that a call holds, calls by stage. Assumes nothing.
use Rattle.std.specs.Prelude.{List, [], ◌∷◌, Bool, cond, not, ◌&&◌, ◌||◌, ℕ, zero, suc, ◌+◌, eqb}
use Rattle.std.proofs.Math.Option.{Option, none, some}
use Rattle.arrival.specs.declared.Shape.{Shape}
use Rattle.arrival.specs.declared.Item.{Item}
use Rattle.arrival.specs.declared.Worker.{Worker}
use Rattle.laws.specs.Counting.{count}
use Rattle.calendar.specs.rules.Layout.{cell, read, link, link_cell, item_at, successor, is_marked}
use Rattle.calendar.specs.rules.Ranges.{worker, between}

-- n in front of a walk that came to the end
abbrev pub onto : ℕ → Option (List ℕ) → Option (List ℕ)
onto n none = none
onto n (some ns) = some (n ∷ ns)

-- the nodes met from a cell to the end; none where the fuel runs out first
unfoldable pub nodes_from : Shape → List ℕ → ℕ → ℕ → Option (List ℕ)
nodes_from sh s zero p = none
nodes_from sh s (suc fuel) p =
    let n = successor (read sh s (cell p)) in
    cond (eqb n sh.nodes) (some []) (onto n (nodes_from sh s fuel (link_cell sh n)))

-- A bucket's list is the nodes met from its head to the end: at most all nodes, and the end.
abbrev pub bucket_list : Shape → List ℕ → ℕ → Option (List ℕ)
bucket_list sh s b = nodes_from sh s (sh.nodes + 1) b

-- how many nodes of a list are unmarked
unfoldable pub unmarked_in : Shape → List ℕ → List ℕ → ℕ
unmarked_in sh s [] = 0
unmarked_in sh s (n ∷ ns) = cond (is_marked (link sh s n)) 0 1 + unmarked_in sh s ns

-- two items with the same fields
abbrev pub same_item : Item → Item → Bool
same_item x y = eqb x.time y.time && eqb x.path y.path && eqb x.order y.order && eqb x.distance y.distance && eqb x.ticket y.ticket

-- how many are unmarked and hold x
unfoldable pub unmarked_of : Shape → List ℕ → Item → List ℕ → ℕ
unmarked_of sh s x [] = 0
unmarked_of sh s x (n ∷ ns) = cond (not (is_marked (link sh s n)) && same_item (item_at sh s n) x) 1 0 + unmarked_of sh s x ns

-- the unmarked nodes of the first b lists
unfoldable pub unmarked_to : Shape → List ℕ → (ℕ → List ℕ) → ℕ → ℕ
unmarked_to sh s lists zero = 0
unmarked_to sh s lists (suc b) = unmarked_in sh s (lists b) + unmarked_to sh s lists b

-- A call stands on node n: as own node at 1 to 7, as left at 2 to 5, as right at 2 to 5, 10 and 11.
abbrev pub holds : Shape → Worker → ℕ → Bool
holds sh w n =
    (between 1 7 w.stage && eqb w.own n)
    || (between 2 5 w.stage && eqb w.left (link_cell sh n))
    || ((between 2 5 w.stage || between 10 11 w.stage) && eqb w.right n)

-- a put at stages 6 and 7, a take at stages 1 to 3
abbrev pub has_linked : Worker → Bool
has_linked w = eqb w.kind 0 && between 6 7 w.stage

abbrev pub has_marked : Worker → Bool
has_marked w = eqb w.kind 1 && between 1 3 w.stage

-- how many workers' records are such
abbrev pub workers_with : Shape → List Worker → (Worker → Bool) → ℕ
workers_with sh t f = count sh.workers (λ i. f (worker t i))
