-- The fields at a position are those at the front of what is left from there on.
-- Assumes nothing.
use Rattle.std.specs.Prelude.{◌≡◌, List, ℕ, ◌+◌, ◌*◌, drop}
use Rattle.std.proofs.Common.{sym, ap, ◌∙◌, add_assoc, add-zero, get_or-drop}
use Rattle.turn_file.specs.Fields.{byte_at, two_at, four_at, shape_at, arrival_at}
use Rattle.turn_file.specs.Reading.{fields_at}

module _ (s : List ℕ) (at : ℕ) where
  byte_front : (k : ℕ) → byte_at s (at + k) ≡ byte_at (drop at s) k
  byte_front k = sym (get_or-drop at s k 0)

  two_front : (k : ℕ) → two_at s (at + k) ≡ two_at (drop at s) k
  two_front k = rw (byte_front k, add_assoc at k 1, byte_front (k + 1))

  four_front : (k : ℕ) → four_at s (at + k) ≡ four_at (drop at s) k
  four_front k =
      ap (λ x. x + 65536 * two_at s (at + k + 2)) (two_front k)
      ∙ ap (λ x. two_at (drop at s) k + 65536 * x) (rw (add_assoc at k 2) (two_front (k + 2)))

  pub mark_front : two_at s at ≡ two_at (drop at s) 0
  mark_front = ap (two_at s) (sym (add-zero at)) ∙ two_front 0

  shape_front : shape_at s at ≡ shape_at (drop at s) 0
  unfolding shape_at
  shape_front = cc (byte_front 2, two_front 3, two_front 5, two_front 7)

  arrival_front : arrival_at s at ≡ arrival_at (drop at s) 0
  unfolding arrival_at
  arrival_front = cc (four_front 3, two_front 7, byte_front 9, two_front 10)

  pub fields_front : (mark : ℕ) → fields_at s at mark ≡ fields_at (drop at s) 0 mark
  unfolding fields_at
  fields_front mark = rw (shape_front, arrival_front, byte_front 2)
