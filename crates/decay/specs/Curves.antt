-- The levels of all slots, one after the other from the end: a level stays while the ratio does.
--     flat_at                 the level of a 1,024-fold rest, and the least such rest that has a higher ratio
--     Along                  what the loop has made of the buffer when slots from k on are done
-- Assumes nothing.
use Rattle.std.specs.Prelude.{◌≡◌, List, ◌++◌, ℕ, ◌+◌, ◌-◌, ◌*◌, ◌/◌, ◌≤◌, length, take, drop}
use Rattle.laws.specs.Lists.{words_from}
use Rattle.decay.specs.Decay.{rest, level_of, level}
use Rattle.decay.specs.declared.curve.Flat.{Flat}

abbrev pub flat_at : ℕ → ℕ → Flat
flat_at scaled sum = record { next = (scaled / sum + 1) * sum; level = level_of (scaled / sum) }

-- ── the loop ──
-- what is left from slot k on, 1,024-fold; its flat; and the levels from there on
pub record Along (row levels₀ : List ℕ) (sum k : ℕ) (scaled : ℕ) (flat : Flat) (levels : List ℕ) : Type 0 where
  pub in_row : k ≤ length row
  pub size : length levels ≡ length levels₀
  pub left : scaled ≡ 1024 * rest row k
  pub at : flat ≡ flat_at scaled sum
  pub written : levels ≡ take k levels₀ ++ (words_from (level row) k (length row - k) ++ drop (length row) levels₀)
