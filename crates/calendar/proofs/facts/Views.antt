-- The store as functions: a view. A write to one place updates one function of the view and leaves the others, by
-- computation, the same functions. All invariants are over views. Assumes nothing.
use Rattle.std.specs.Prelude.{◌≡◌, refl, List, [], ◌∷◌, true, ℕ, ◌≤◌, ◌<◌, length}
use Rattle.std.proofs.Common.{ap, ◌∙◌, arith}
use Rattle.arrival.specs.declared.Shape.{Shape}
use Rattle.calendar.specs.rules.Layout.{Place, word, cell, field, Write, ◌≔◌, address, layout, write, write_all}
use Rattle.calendar.specs.facts.Places.{valid}
use Rattle.calendar.proofs.facts.Places.{read_write, length_write}
use Rattle.calendar.specs.facts.Views.{view, update, updates, AllInside}

-- THE LAW: the view of what was written is the view updated
pub view_write : (sh : Shape) (s : List ℕ) (p : Place) (v : ℕ) → valid p ≡ true → address sh p < length s
    → view sh (write sh s p v) ≡ update p v (view sh s)
view_write sh s p v ok h = λ i. record {
  current = read_write sh s p (word 0) v ok refl h i;
  started = read_write sh s p (word 1) v ok refl h i;
  last = read_write sh s p (word 2) v ok refl h i;
  cells = λ q. read_write sh s p (cell q) v ok refl h i;
  time = λ n. read_write sh s p (field 1 n) v ok refl h i;
  ticket = λ n. read_write sh s p (field 2 n) v ok refl h i;
  path = λ n. read_write sh s p (field 3 n) v ok refl h i;
  order = λ n. read_write sh s p (field 4 n) v ok refl h i;
  distance = λ n. read_write sh s p (field 5 n) v ok refl h i;
  epoch = λ n. read_write sh s p (field 6 n) v ok refl h i;
  standing = λ n. read_write sh s p (field 7 n) v ok refl h i;
}

pub view_write_all : (sh : Shape) (s : List ℕ) (ws : List Write) → layout sh ≤ length s → AllInside sh ws → view sh (write_all sh s ws) ≡ updates ws (view sh s)
view_write_all sh s [] h a = refl
view_write_all sh s ((p ≔ v) ∷ ws) h a =
    view_write_all sh (write sh s p v) ws (rw length_write h) a.2 ∙ ap (updates ws) (view_write sh s p v a.0 (omega (arith, a.1)))
