-- A run is dealt turns one by one.
--     no_turn, one_turn                       a run of no turn; of one
--     run_stops, run_on                       of more: it stops with the first, or goes on behind it
--     run_moves_lem                                the turns to be dealt in a run; it leaves what they leave, and all but the last go on
--     narrow_run_same                         where the memory stays in range, a narrow run is as good
--     stays_along, narrow_run_same_opened     so it stays along requests and dealt turns; so at any moment after an opening
-- Assumes nothing.
use Rattle.std.specs.Prelude.{◌≡◌, refl, List, [], ◌∷◌, Bool, true, false, cond, ℕ, zero, suc, ◌+◌, ◌<◌, ◌≤◌, eqb, length}
use Rattle.std.proofs.Common.{sym, ap, ◌∙◌, arith}
use Rattle.arrival.specs.declared.Shape.{Shape}
use Rattle.arrival.specs.declared.Response.TheVariants.{Opened}
use Rattle.laws.specs.Tests.{never, by_test}
use Rattle.calendar.specs.rules.Operations.{Memory, open_pool, run}
use Rattle.calendar.specs.rules.NarrowCalls.{goes_on}
use Rattle.calendar.specs.facts.HostRun.{StaysInRange}
use Rattle.lists.specs.NodeReuse.{always_in_range}
use Rattle.dealer.specs.Dealing.{Deal, dealt, undealt, behind, dealt_on, dealt_run}
use Rattle.dealer.specs.DealtHistory.{Move, deals, moved, memory_after, dealer_after, answers_to, served_in}
use Rattle.dealer.proofs.DealLoop.{over}
use Rattle.dealer.proofs.DealtInRange.{stays_moved}
use Rattle.dealer.proofs.DealtRefusals.{refused_kept, by_deal, narrow_deal_same}
use Rattle.dealer.specs.DealtRuns.{run_moves, RunMoves}

-- ── none, one, and one more ──
pub no_turn : (whole : Bool) (sh : Shape) (m : Memory) (last : ℕ) → dealt_run whole sh 0 m last ≡ undealt m last
unfolding dealt_on
no_turn whole sh m last = refl

behind_none : (r : Deal) → behind 0 r ≡ r
behind_none r =
    let e : 0 + r.turns ≡ r.turns = omega arith in
    ap (λ (t : ℕ). record { memory = r.memory; dealer = r.dealer; turns = t; response = r.response }) e

-- the first, and the rest behind it
run_first : (whole : Bool) (sh : Shape) (n : ℕ) (m : Memory) (last : ℕ) → dealt_run whole sh (suc n) m last ≡ dealt_on whole sh n (dealt whole sh m last)
unfolding dealt_on
run_first whole sh n m last = ap (dealt_on whole sh n) (behind_none (dealt whole sh m last))

pub one_turn : (whole : Bool) (sh : Shape) (m : Memory) (last : ℕ) → dealt_run whole sh 1 m last ≡ dealt whole sh m last
unfolding dealt_on
one_turn whole sh m last = run_first whole sh 0 m last

behind_both : (k j : ℕ) (r : Deal) → behind (k + j) r ≡ behind k (behind j r)
behind_both k j r =
    let e : k + j + r.turns ≡ k + (j + r.turns) = omega arith in
    ap (λ (t : ℕ). record { memory = r.memory; dealer = r.dealer; turns = t; response = r.response }) e

behind_on : (whole : Bool) (sh : Shape) (n k : ℕ) (r : Deal) → dealt_on whole sh n (behind k r) ≡ behind k (dealt_on whole sh n r)
unfolding dealt_on
behind_on whole sh zero k r = refl
behind_on whole sh (suc n) k r =
    let d = dealt whole sh r.memory r.dealer in
    go (goes_on r.response) (behind_on whole sh n (k + r.turns) d) (behind_on whole sh n r.turns d)
  where
    go : (t : Bool)
        → let d = dealt whole sh r.memory r.dealer in
        dealt_on whole sh n (behind (k + r.turns) d) ≡ behind (k + r.turns) (dealt_on whole sh n d)
        → dealt_on whole sh n (behind r.turns d) ≡ behind r.turns (dealt_on whole sh n d)
        → cond t (dealt_on whole sh n (behind (k + r.turns) d)) (behind k r) ≡ behind k (cond t (dealt_on whole sh n (behind r.turns d)) r)
    go true all rest =
        all ∙ behind_both k r.turns (dealt_on whole sh n (dealt whole sh r.memory r.dealer)) ∙ ap (behind k) (sym rest)
    go false all rest = refl

on_goes : (whole : Bool) (sh : Shape) (n : ℕ) (r : Deal) → goes_on r.response ≡ true
    → dealt_on whole sh (suc n) r ≡ dealt_on whole sh n (behind r.turns (dealt whole sh r.memory r.dealer))
unfolding dealt_on
on_goes whole sh n r e = rw e

module _ (whole : Bool) (sh : Shape) (n : ℕ) (m : Memory) (last : ℕ) where
  pub run_stops : goes_on (dealt whole sh m last).response ≡ false → dealt_run whole sh (suc (suc n)) m last ≡ dealt whole sh m last
  run_stops e = run_first whole sh (suc n) m last ∙ over whole sh (suc n) (dealt whole sh m last) e

  pub run_on : goes_on (dealt whole sh m last).response ≡ true
      → let r = dealt whole sh m last in dealt_run whole sh (suc (suc n)) m last ≡ behind r.turns (dealt_run whole sh (suc n) r.memory r.dealer)
  run_on e =
      let r = dealt whole sh m last in
      run_first whole sh (suc n) m last
      ∙ on_goes whole sh n r e
      ∙ behind_on whole sh n r.turns (dealt whole sh r.memory r.dealer)
      ∙ ap (behind r.turns) (sym (run_first whole sh n r.memory r.dealer))

module _ (whole : Bool) (sh : Shape) (n : ℕ) (m : Memory) (last : ℕ) where
  moves_stop : goes_on (dealt whole sh m last).response ≡ false → run_moves whole sh (suc n) m last ≡ deals whole ∷ []
  unfolding run_moves
  moves_stop e = rw e

  moves_on : goes_on (dealt whole sh m last).response ≡ true
      → let r = dealt whole sh m last in run_moves whole sh (suc n) m last ≡ deals whole ∷ run_moves whole sh n r.memory r.dealer
  unfolding run_moves
  moves_on e = rw e

moves_one : (whole : Bool) (sh : Shape) (m : Memory) (last : ℕ) → run_moves whole sh 1 m last ≡ deals whole ∷ []
unfolding run_moves
moves_one whole sh m last = by_test (λ (xs : List Move). deals whole ∷ xs ≡ deals whole ∷ []) (goes_on (dealt whole sh m last).response) (λ e. refl) (λ e. refl)

-- of one turn
at_most_one : (whole : Bool) (sh : Shape) (m : Memory) (last : ℕ) → (dealt whole sh m last).turns ≤ 1
at_most_one whole sh m last = by_deal (λ r. r.turns ≤ 1) whole sh m last (λ e. omega arith) (λ k. omega arith)

goes_served : (whole : Bool) (sh : Shape) (m : Memory) (last : ℕ) → goes_on (dealt whole sh m last).response ≡ true → (dealt whole sh m last).turns ≡ 1
goes_served whole sh m last = by_deal (λ r. goes_on r.response ≡ true → r.turns ≡ 1) whole sh m last (λ e g. refl) (λ k g. never g)

away_stops : (whole : Bool) (sh : Shape) (m : Memory) (last : ℕ) → (dealt whole sh m last).turns < 1 → goes_on (dealt whole sh m last).response ≡ false
away_stops whole sh m last =
    by_deal (λ r. r.turns < 1 → goes_on r.response ≡ false) whole sh m last (λ e l. absurd (omega arith)) (λ k l. refl)

served_length : (t d : ℕ) (js : List ℕ) → t ≤ 1 → length (cond (eqb t 0) js (d ∷ js)) ≡ t + length js
served_length zero d js l = omega arith
served_length (suc zero) d js l = omega arith
served_length (suc (suc t)) d js l = absurd (omega arith)

-- it is one turn
alone : (whole : Bool) (sh : Shape) (n : ℕ) (m : Memory) (last : ℕ) → dealt_run whole sh n m last ≡ dealt whole sh m last
    → run_moves whole sh n m last ≡ deals whole ∷ [] → 1 ≤ n → ((dealt whole sh m last).turns < n → goes_on (dealt whole sh m last).response ≡ false)
    → RunMoves whole sh n m last
unfolding memory_after dealer_after answers_to served_in
alone whole sh n m last is moves some stops =
    let r = dealt whole sh m last in
    let most = at_most_one whole sh m last in
    record {
      memory = rw (is, moves);
      dealer = rw (is, moves);
      turns = rw (is, moves) (served_length r.turns r.dealer [] most ∙ omega arith);
      before = [];
      answers = λ h. rw (is, moves);
      go_on = refl;
      at_most = rw is (omega arith);
      stops = rw is stops;
      refused = rw is (λ k q. (refused_kept whole sh m last k q).0);
    }

-- it goes on
further : (whole : Bool) (sh : Shape) (n : ℕ) (m : Memory) (last : ℕ) → goes_on (dealt whole sh m last).response ≡ true
    → RunMoves whole sh (suc n) (dealt whole sh m last).memory (dealt whole sh m last).dealer → RunMoves whole sh (suc (suc n)) m last
unfolding memory_after dealer_after answers_to served_in
further whole sh n m last e R =
    let r = dealt whole sh m last in
    let is = run_on whole sh n m last e in
    let moves = moves_on whole sh (suc n) m last e in
    let one = goes_served whole sh m last e in
    let js = served_in sh r.memory r.dealer (run_moves whole sh (suc n) r.memory r.dealer) in
    record {
      memory = rw (is, moves) R.memory;
      dealer = rw (is, moves) R.dealer;
      turns = rw (is, moves) (served_length r.turns r.dealer js (at_most_one whole sh m last) ∙ ap (λ t. r.turns + t) R.turns);
      before = r.response ∷ R.before;
      answers = λ h. rw (is, moves) (ap (λ rs. r.response ∷ rs) (R.answers (λ z. omega arith)));
      go_on = rw e R.go_on;
      at_most = rw is (omega (arith, one, R.at_most));
      stops = rw is (λ l. R.stops (omega (arith, one)));
      refused = rw (is, moves) R.refused;
    }

none : (whole : Bool) (sh : Shape) (m : Memory) (last : ℕ) → RunMoves whole sh 0 m last
unfolding memory_after dealer_after served_in run_moves dealt_on
none whole sh m last = record {
  memory = refl;
  dealer = refl;
  turns = refl;
  before = [];
  answers = λ h. absurd (h refl);
  go_on = refl;
  at_most = omega arith;
  stops = λ l. absurd (omega arith);
  refused = λ k q. refl;
}

-- A RUN IS DEALT TURNS ONE BY ONE
pub run_moves_lem : (whole : Bool) (sh : Shape) (n : ℕ) (m : Memory) (last : ℕ) → RunMoves whole sh n m last
run_moves_lem whole sh zero m last = none whole sh m last
run_moves_lem whole sh (suc zero) m last =
    alone whole sh 1 m last (one_turn whole sh m last) (moves_one whole sh m last) (omega arith) (away_stops whole sh m last)
run_moves_lem whole sh (suc (suc n)) m last =
    go (goes_on (dealt whole sh m last).response) refl (run_moves_lem whole sh (suc n) (dealt whole sh m last).memory (dealt whole sh m last).dealer)
  where
    go : (t : Bool) → goes_on (dealt whole sh m last).response ≡ t
        → RunMoves whole sh (suc n) (dealt whole sh m last).memory (dealt whole sh m last).dealer → RunMoves whole sh (suc (suc n)) m last
    go true e R = further whole sh n m last e R
    go false e R = alone whole sh (suc (suc n)) m last (run_stops whole sh n m last e) (moves_stop whole sh (suc n) m last e) (omega arith) (λ l. e)

-- ── narrow or whole ──
narrow_on_same : (sh : Shape) (n : ℕ) (r : Deal) → StaysInRange sh r.memory → dealt_on false sh n r ≡ dealt_on true sh n r
unfolding dealt_on run
narrow_on_same sh zero r S = refl
narrow_on_same sh (suc n) r S =
    let d = dealt true sh r.memory r.dealer in
    let (p, q) = S [] in
    ap (λ (x : Deal). cond (goes_on r.response) x r)
    (ap (λ (x : Deal). dealt_on false sh n (behind r.turns x)) (narrow_deal_same sh r.memory r.dealer p q)
    ∙ narrow_on_same sh n (behind r.turns d) (stays_moved sh r.memory r.dealer (deals true) S))

pub narrow_run_same : (sh : Shape) (n : ℕ) (m : Memory) (last : ℕ) → StaysInRange sh m → dealt_run false sh n m last ≡ dealt_run true sh n m last
narrow_run_same sh n m last S = narrow_on_same sh n (undealt m last) S

pub stays_along : (sh : Shape) (xs : List Move) (m : Memory) (last : ℕ) → StaysInRange sh m → StaysInRange sh (memory_after sh m last xs)
unfolding memory_after
stays_along sh [] m last S = S
stays_along sh (x ∷ xs) m last S = stays_along sh xs (moved sh m last x).memory (moved sh m last x).dealer (stays_moved sh m last x S)

pub narrow_run_same_opened : (sh : Shape) (m : Memory) → (open_pool sh m).response ≡ Opened → (last : ℕ) (xs : List Move) (n : ℕ)
    → let p = (open_pool sh m).memory in let k = memory_after sh p last xs in let d = dealer_after sh p last xs in
    dealt_run false sh n k d ≡ dealt_run true sh n k d
narrow_run_same_opened sh m e last xs n =
    let p = (open_pool sh m).memory in
    narrow_run_same sh n (memory_after sh p last xs) (dealer_after sh p last xs) (stays_along sh xs p last (always_in_range sh m e))
