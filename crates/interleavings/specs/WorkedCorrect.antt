-- The worked histories run through the theorem: the five calls of the first, the nine of the one in the tail and the
-- thirteen of the one of ties stand in the one order that is possible. Assumes nothing.
use Rattle.std.specs.Prelude.{◌≡◌, refl, [], ◌∷◌}
use Rattle.calendar.specs.rules.Refusals.{open_refusal}
use Rattle.calendar.specs.rules.Operations.{open_pool, run}
use Rattle.calendar.specs.rules.Linearizability.{Correct, Demand3}
use Rattle.calendar.proofs.facts.Starred.{lent, two_workers}
use Rattle.calendar.proofs.facts.WorkedHistory.{one_bucket, history, start, seen, order_forced}
use Rattle.calendar.proofs.facts.TailHistory as tail
use Rattle.calendar.proofs.facts.TieHistory as ties
use Rattle.interleavings.specs.Demand3.{demand_3}

pub correct : Correct one_bucket (run one_bucket start history) seen
unfolding one_bucket history start seen lent open_pool open_refusal Demand3
correct = demand_3 one_bucket lent refl history

pub all_placed : correct.linearization.order ≡ 1 ∷ 2 ∷ 3 ∷ 4 ∷ 5 ∷ []
all_placed = order_forced correct.linearization

pub tail_correct : Correct two_workers (run two_workers tail.start tail.history) tail.seen
unfolding two_workers tail.history tail.start tail.seen lent open_pool open_refusal Demand3
tail_correct = demand_3 two_workers lent refl tail.history

pub tail_placed : tail_correct.linearization.order ≡ 1 ∷ 2 ∷ 3 ∷ 4 ∷ 5 ∷ 6 ∷ 7 ∷ 8 ∷ 9 ∷ []
tail_placed = tail.order_forced tail_correct.linearization

pub ties_correct : Correct one_bucket (run one_bucket start ties.history) ties.seen
unfolding one_bucket ties.history start ties.seen lent open_pool open_refusal Demand3
ties_correct = demand_3 one_bucket lent refl ties.history

pub ties_placed : ties_correct.linearization.order ≡ 1 ∷ 2 ∷ 3 ∷ 4 ∷ 5 ∷ 6 ∷ 7 ∷ 8 ∷ 9 ∷ 10 ∷ 11 ∷ 12 ∷ 13 ∷ []
ties_placed = ties.order_forced ties_correct.linearization
