-- What refuses a dealt turn, and what it keeps, on any memory, with a look at all of it or a narrow one.
--     all_tests                   all that the host can get; of them the lowest is answered
--     KeptBy                     in a refusal the pool keeps its contents; in all but 11 the dealer does too, and at 11 it moves on
-- Assumes nothing.
use Rattle.std.specs.Prelude.{◌≡◌, List, [], ◌∷◌, ◌++◌, Bool, not, ◌&&◌, ◌≢◌, ℕ}
use Rattle.arrival.specs.declared.Shape.{Shape}
use Rattle.calendar.specs.rules.Ranges.{worker}
use Rattle.calendar.specs.rules.Refusals.{too_short, no_epoch, memory_tests}
use Rattle.calendar.specs.rules.Operations.{Memory}
use Rattle.dealer.specs.Dealing.{Deal, next_served, all_idle, deal_out}

-- ── the lowest ──
abbrev pub all_tests : Bool → Shape → Memory → ℕ → List (ℕ × Bool)
all_tests whole sh m last =
    memory_tests sh (too_short sh m.store m.table) (deal_out whole sh m last) last
    ++ (11, not (all_idle sh m.table last) && no_epoch sh m.store (worker m.table (next_served sh m.table last)))
    ∷ (16, all_idle sh m.table last)
    ∷ []

-- refusal k keeps the memory; but for 11 it keeps the dealer, and at 11 the dealer moves on
abbrev pub KeptBy : Shape → Memory → ℕ → ℕ → Deal → Type 0
KeptBy sh m last k r =
    (r.memory ≡ m)
    × (k ≢ 11 → (r.dealer ≡ last) × (r.turns ≡ 0))
    × (k ≡ 11 → (r.dealer ≡ next_served sh m.table last) × (r.turns ≡ 1))
