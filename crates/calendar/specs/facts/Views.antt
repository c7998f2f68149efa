-- The store as functions: a view. A write to one place updates one function of the view and leaves the others, by
-- computation, the same functions. All invariants are over views. Assumes nothing.
use Rattle.std.specs.Prelude.{◌≡◌, List, [], ◌∷◌, true, cond, ℕ, ◌<◌}
use Rattle.arrival.specs.declared.Shape.{Shape}
use Rattle.arrival.specs.declared.Item.{Item}
use Rattle.arrival.specs.Keys.{lower}
use Rattle.calendar.specs.rules.Layout.{Place, word, cell, field, Write, ◌≔◌, address, layout, read}
use Rattle.calendar.specs.facts.Places.{same, valid}

pub record View : Type 0 where
  pub current : ℕ
  pub started : ℕ
  pub last : ℕ
  pub cells : ℕ → ℕ
  pub time : ℕ → ℕ
  pub ticket : ℕ → ℕ
  pub path : ℕ → ℕ
  pub order : ℕ → ℕ
  pub distance : ℕ → ℕ
  pub epoch : ℕ → ℕ
  pub standing : ℕ → ℕ

abbrev pub view : Shape → List ℕ → View
view sh s = record {
  current = read sh s (word 0);
  started = read sh s (word 1);
  last = read sh s (word 2);
  cells = λ p. read sh s (cell p);
  time = λ n. read sh s (field 1 n);
  ticket = λ n. read sh s (field 2 n);
  path = λ n. read sh s (field 3 n);
  order = λ n. read sh s (field 4 n);
  distance = λ n. read sh s (field 5 n);
  epoch = λ n. read sh s (field 6 n);
  standing = λ n. read sh s (field 7 n);
}

abbrev pub update : Place → ℕ → View → View
update p v m = record {
  current = cond (same p (word 0)) v m.current;
  started = cond (same p (word 1)) v m.started;
  last = cond (same p (word 2)) v m.last;
  cells = λ q. cond (same p (cell q)) v (m.cells q);
  time = λ n. cond (same p (field 1 n)) v (m.time n);
  ticket = λ n. cond (same p (field 2 n)) v (m.ticket n);
  path = λ n. cond (same p (field 3 n)) v (m.path n);
  order = λ n. cond (same p (field 4 n)) v (m.order n);
  distance = λ n. cond (same p (field 5 n)) v (m.distance n);
  epoch = λ n. cond (same p (field 6 n)) v (m.epoch n);
  standing = λ n. cond (same p (field 7 n)) v (m.standing n);
}

abbrev pub updates : List Write → View → View
updates [] m = m
updates ((p ≔ v) ∷ ws) m = updates ws (update p v m)

-- writes to places of the layout
abbrev pub AllInside : Shape → List Write → Type 0
AllInside sh [] = Unit {0}
AllInside sh ((p ≔ v) ∷ ws) = (valid p ≡ true) × (address sh p < layout sh) × AllInside sh ws

-- the item in a node, and the order of keys on nodes
abbrev pub item_in : View → ℕ → Item
item_in m n = record { time = m.time n; path = m.path n; order = m.order n; distance = m.distance n; ticket = m.ticket n }

abbrev pub Lt : View → ℕ → ℕ → Type 0
Lt m a b = lower (item_in m a) (item_in m b) ≡ true
