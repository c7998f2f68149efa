-- A test of each of the first records is a test by their numbers.
use Rattle.std.proofs.Common.{rules, ◌≡◌, sym, ◌∙◌, ap, arith, List, Bool, true, false, ℕ, ◌≤◌, ◌<◌, length, take, get_or-take, length-take-le}
use Rattle.std.specs.Bool.{MatchBool}
use Rattle.std.specs.List.{AllWithin, HoldsAt}
use Rattle.std.proofs.lemmas.Iterator.{cases_from_all, YieldsList-from_slice}
use borrow.Author.Tests.{tests}
use Rattle.arrival.specs.declared.Worker.{Worker}
use Rattle.laws.specs.Counting.{every}
use Rattle.laws.proofs.Counting.{every_all, every_fails}
use Rattle.calendar.specs.rules.Ranges.{blank, worker, record_in_range}
use Rattle.wubraken_batch.specs.LentBatch.{held_in_range}
use Rattle.wubraken_batch.proofs.batches.held_in_range.Goals as goal

told_by_number : (p : Worker → Bool) (t : List Worker) (n : ℕ) (b : Bool) → n ≤ length t
    → MatchBool b (AllWithin (λ w. p w ≡ true) (take n t) 0 (length (take n t)))
    ((k : ℕ) × (k < length (take n t)) × HoldsAt (λ w. p w ≡ false) (take n t) k)
    → b ≡ every n (λ i. p (worker t i))
told_by_number p t n true h all =
    let long = length-take-le n t h in
    sym (every_all (λ i. p (worker t i)) n (λ k l. ap p (sym (get_or-take n t k blank l)) ∙ all k blank (omega arith) (omega (arith, long))))
told_by_number p t n false h (k, l, fails) =
    let below : k < n = omega (arith, length-take-le n t h) in
    sym (every_fails (λ i. p (worker t i)) n k below (ap p (sym (get_or-take n t k blank below)) ∙ fails blank))

pub returns : goal.returns
unfolding held_in_range
returns c =
    let a = c.args in
    told_by_number (record_in_range a.shape) a.table.now a.n c.all.result (omega (arith, c.told-table))
    (cases_from_all _ _ _ (λ w. record_in_range a.shape w ≡ true) (λ w. record_in_range a.shape w ≡ false) c.all.ensures.ran
    (YieldsList-from_slice (take a.n a.table.now) cc) (λ x q k. search (rules, tests)) (λ x q k. search (rules, tests)))
