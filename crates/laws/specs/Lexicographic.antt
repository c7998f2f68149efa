-- The lexicographic order by a list of components: by the first, where that is equal by the second, and so on.
--     lower_by                             the order
-- Assumes nothing.
use Rattle.std.specs.Prelude.{Bool, false, ◌&&◌, ◌||◌, ℕ, eqb, ltb}
use mathlib.Core.List.{List, [], ◌∷◌}

abbrev pub lower_by : {A : Type 0} → List (A → ℕ) → A → A → Bool
lower_by [] a b = false
lower_by (f ∷ fs) a b = ltb (f a) (f b) || (eqb (f a) (f b) && lower_by fs a b)
