-- Which nodes may be handed out again: free, retired (resting) and in use; and the first free one. Assumes nothing.
use Rattle.std.specs.Prelude.{List, Bool, cond, not, ◌&&◌, ◌||◌, ℕ, zero, suc, ◌+◌, ◌-◌, eqb, leb, ltb}
use Rattle.arrival.specs.declared.Shape.{Shape}
use Rattle.arrival.specs.declared.Worker.{Worker}
use Rattle.laws.specs.Counting.{every}
use Rattle.calendar.specs.rules.Layout.{last_node, standing}
use Rattle.calendar.specs.rules.Ranges.{worker}

abbrev pub in_progress : Worker → Bool
in_progress w = not (eqb w.stage 0)

-- a call in progress whose ticket is at most s
abbrev pub started_by : ℕ → Worker → Bool
started_by s w = in_progress w && leb w.ticket s

-- A standing x is free if it is 0, or 2 + s with no call in progress whose ticket is at most s;
unfoldable pub is_free : Shape → List Worker → ℕ → Bool
is_free sh t x = eqb x 0 || (leb 2 x && every sh.workers (λ i. not (started_by (x - 2) (worker t i))))

-- retired if it is 2 + s and not free;
abbrev pub is_retired : Shape → List Worker → ℕ → Bool
is_retired sh t x = leb 2 x && not (is_free sh t x)

-- in use at 1.
abbrev pub is_in_use : ℕ → Bool
is_in_use x = eqb x 1

-- the node after n, going round from the last node to node 0
abbrev pub node_after : Shape → ℕ → ℕ
node_after sh n = cond (ltb (n + 1) sh.nodes) (n + 1) 0

-- node n may be handed out
abbrev pub is_free_node : Shape → List ℕ → List Worker → ℕ → Bool
is_free_node sh s t n = is_free sh t (standing sh s n)

-- the first free one of the k nodes that follow n; `nodes` where none is
unfoldable pub first_free_of : Shape → List ℕ → List Worker → ℕ → ℕ → ℕ
first_free_of sh s t zero n = sh.nodes
first_free_of sh s t (suc k) n =
    cond (is_free_node sh s t (node_after sh n)) (node_after sh n) (first_free_of sh s t k (node_after sh n))

-- the first free node after word 2
unfoldable pub first_free : Shape → List ℕ → List Worker → ℕ
first_free sh s t = first_free_of sh s t sh.nodes (last_node sh s)
