-- L(r), the logarithms of the ratios: that they are the largest, and one test for all entries of a table.
--     Largest                    10^L(r) is at most r^100, and that of no greater number is; of every ratio but 0
--     is_log                      the test of one entry: 10^v ≤ r^100 < 10^(v + 1)
--     are_logs                    the test of all entries, which is computed; carried to each of them, the table is the list of the L(r)
-- Assumes nothing.
use Rattle.std.specs.Prelude.{List, [], ◌∷◌, Bool, true, ◌&&◌, ℕ, suc, ◌^◌, ◌≤◌, leb, ltb}

-- v is the largest whole number with 10^v ≤ r^100
abbrev pub Largest : ℕ → ℕ → Type 0
Largest r v = (10 ^ v ≤ r ^ 100) × ((w : ℕ) → 10 ^ w ≤ r ^ 100 → w ≤ v)

-- ── one entry ──
abbrev pub is_log : ℕ → ℕ → Bool
is_log r v = leb (10 ^ v) (r ^ 100) && ltb (r ^ 100) (10 ^ suc v)

-- ── all entries ──
abbrev pub are_logs : ℕ → List ℕ → Bool
are_logs r [] = true
are_logs r (v ∷ vs) = is_log r v && are_logs (suc r) vs
