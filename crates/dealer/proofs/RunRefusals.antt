-- What refuses a run behind its first turn. A turn that goes on leaves its worker's call in progress, so 16 does not follow; nor do 1, 2 and 4.
--     goes_able, goes_busy                                 a dealt turn that goes on: 1, 2 and 4 do not apply then; the call of who was served is in progress
--     run_not_3                                            where the memory stays in range, no run is refused by 3
--     later_refusals                                       a run that dealt a turn is refused by 3 or by 11
--     later_refusals_in_range, later_refusals_opened       by 11 alone, where the memory stays in range; so at any moment after an opening
-- Assumes nothing.
use Rattle.std.specs.Prelude.{◌≡◌, refl, List, [], Bool, true, false, ◌⊎◌, ◌≢◌, ℕ, zero, suc, ◌≤◌, eqb}
use Rattle.std.proofs.Common.{sym, ap, subst, ◌∙◌, inl, inr, arith, eqb-true, leb-false}
use Rattle.std.proofs.Math.Decide.{ℕ_discrete}
use Rattle.std.proofs.lemmas.Bool.{not-false}
use Rattle.arrival.specs.declared.Shape.{Shape}
use Rattle.arrival.specs.declared.Action.{Action}
use Rattle.arrival.specs.declared.Action.TheVariants.{Step}
use Rattle.arrival.specs.declared.Response.{Response}
use Rattle.arrival.specs.declared.Response.TheVariants.{Opened, Refused}
use Rattle.arrival.specs.Responses.{said}
use Rattle.laws.specs.Tests.{never, parts, by_test}
use Rattle.calendar.specs.rules.Ranges.{worker, store_in_range, table_in_range}
use Rattle.calendar.specs.rules.Reclaim.{in_progress}
use Rattle.calendar.specs.rules.Operations.{Memory, Result, open_pool, run}
use Rattle.calendar.specs.rules.NarrowCalls.{narrow_refusal, narrow_act, turns_after, narrow_call, goes_on}
use Rattle.calendar.specs.rules.HostHistory.{requested}
use Rattle.calendar.proofs.facts.GoesOn.{narrow_goes}
use Rattle.calendar.proofs.facts.Narrow.{narrow_same}
use Rattle.calendar.specs.facts.HostRun.{StaysInRange}
use Rattle.lists.specs.NodeReuse.{always_in_range}
use Rattle.dealer.specs.Dealing.{Deal, next_served, all_idle, deal_out, deal_refusal, turn_of, dealt, dealt_on, dealt_run}
use Rattle.dealer.specs.DealtHistory.{Move, deals, memory_after, dealer_after}
use Rattle.dealer.proofs.Served.{somebody}
use Rattle.dealer.specs.DealtTurn.{Able}
use Rattle.dealer.proofs.DealtTurn.{able_moved, dealt_unless_3}
use Rattle.dealer.proofs.DealtInRange.{deal_not_3, stays_moved}
use Rattle.dealer.proofs.DealtRefusals.{passed, only_11, refused_kept, by_deal}
use Rattle.dealer.proofs.DealtRuns.{one_turn, run_stops, run_on, stays_along}

-- ── a turn that goes on ──
narrow_went : (sh : Shape) (m : Memory) (a : Action) → goes_on (narrow_act sh m a).response ≡ true → narrow_refusal sh m a ≡ 0
unfolding narrow_act
narrow_went sh m a =
    by_test (λ (r : Result). goes_on r.response ≡ true → narrow_refusal sh m a ≡ 0) (eqb (narrow_refusal sh m a) 0) (λ e g. eqb-true _ 0 e) (λ e g. never g)

narrow_busy : (sh : Shape) (m : Memory) (i : ℕ) → goes_on (narrow_act sh m (Step i)).response ≡ true
    → in_progress (worker (narrow_act sh m (Step i)).memory.table i) ≡ true
narrow_busy sh m i g = sym (narrow_goes sh m (Step i) (narrow_went sh m (Step i) g)) ∙ g

turn_busy : (whole : Bool) (sh : Shape) (m : Memory) (last i : ℕ) → deal_out whole sh m last ≡ false
    → goes_on (requested sh m (turn_of whole i)).response ≡ true → in_progress (worker (requested sh m (turn_of whole i)).memory.table i) ≡ true
unfolding narrow_call turns_after
turn_busy true sh m last i ranged =
    let (p, q) = parts (store_in_range sh m.store) (table_in_range sh m.table) (not-false _ ranged) in
    subst (λ (r : Result). goes_on r.response ≡ true → in_progress (worker r.memory.table i) ≡ true) (narrow_same sh m (Step i) p q)
    (narrow_busy sh m i)
turn_busy false sh m last i ranged = narrow_busy sh m i

passes : (whole : Bool) (sh : Shape) (m : Memory) (last : ℕ) → deal_refusal whole sh m last ≡ 0 → Able sh m last × (deal_out whole sh m last ≡ false)
passes whole sh m last e =
    let p = passed whole sh m last e in
    (record { shape = p.shape; long = p.long; exists = leb-false sh.workers last p.exists }, p.ranged)

goes_dealt : (whole : Bool) (sh : Shape) (m : Memory) (last : ℕ) → goes_on (dealt whole sh m last).response ≡ true → deal_refusal whole sh m last ≡ 0
goes_dealt whole sh m last =
    by_deal (λ r. goes_on r.response ≡ true → deal_refusal whole sh m last ≡ 0) whole sh m last (λ e g. e) (λ k g. never g)

module _ (whole : Bool) (sh : Shape) (m : Memory) (last : ℕ) where
  pub goes_able : goes_on (dealt whole sh m last).response ≡ true → Able sh (dealt whole sh m last).memory (dealt whole sh m last).dealer
  goes_able g = able_moved sh m last (deals whole) (passes whole sh m last (goes_dealt whole sh m last g)).0

  pub goes_busy : goes_on (dealt whole sh m last).response ≡ true
      → let r = dealt whole sh m last in in_progress (worker r.memory.table r.dealer) ≡ true
  goes_busy =
      by_deal (λ r. goes_on r.response ≡ true → in_progress (worker r.memory.table r.dealer) ≡ true) whole sh m last
      (λ e. turn_busy whole sh m last (next_served sh m.table last) (passes whole sh m last e).1) (λ k g. never g)

-- 1, 2, 4 and 16 do not apply
abbrev Ready : Shape → Memory → ℕ → Type 0
Ready sh m last = Able sh m last × (all_idle sh m.table last ≡ false)

goes_ready : (whole : Bool) (sh : Shape) (m : Memory) (last : ℕ) → goes_on (dealt whole sh m last).response ≡ true
    → Ready sh (dealt whole sh m last).memory (dealt whole sh m last).dealer
goes_ready whole sh m last g =
    let r = dealt whole sh m last in
    let A = goes_able whole sh m last g in
    (A, somebody sh r.memory.table r.dealer A.exists r.dealer A.exists (goes_busy whole sh m last g))

-- ── along a run ──
-- what is kept by a turn that goes on, and gives Q of a turn, gives Q of a run
along : (whole : Bool) (sh : Shape) (P : Memory → ℕ → Type 0) (Q : Response → Type 0)
    → ((m : Memory) (last : ℕ) → P m last → Q (dealt whole sh m last).response)
    → ((m : Memory) (last : ℕ) → P m last → goes_on (dealt whole sh m last).response ≡ true
    → P (dealt whole sh m last).memory (dealt whole sh m last).dealer)
    → (n : ℕ) (m : Memory) (last : ℕ) → P m last → Q (dealt_run whole sh (suc n) m last).response
along whole sh P Q one next zero m last p = subst (λ (r : Deal). Q r.response) (sym (one_turn whole sh m last)) (one m last p)
along whole sh P Q one next (suc n) m last p =
    go (goes_on (dealt whole sh m last).response) refl
    (λ g. along whole sh P Q one next n (dealt whole sh m last).memory (dealt whole sh m last).dealer (next m last p g))
  where
    go : (t : Bool) → goes_on (dealt whole sh m last).response ≡ t
        → (goes_on (dealt whole sh m last).response ≡ true
        → Q (dealt_run whole sh (suc n) (dealt whole sh m last).memory (dealt whole sh m last).dealer).response)
        → Q (dealt_run whole sh (suc (suc n)) m last).response
    go true g rest = subst (λ (r : Deal). Q r.response) (sym (run_on whole sh n m last g)) (rest g)
    go false g rest = subst (λ (r : Deal). Q r.response) (sym (run_stops whole sh n m last g)) (one m last p)

pub run_not_3 : (whole : Bool) (sh : Shape) (n : ℕ) (m : Memory) (last : ℕ) → StaysInRange sh m → (dealt_run whole sh n m last).response ≢ Refused 3
unfolding run dealt_on
run_not_3 whole sh zero m last S = λ e. never (sym (ap goes_on e))
run_not_3 whole sh (suc n) m last S =
    along whole sh (λ k d. StaysInRange sh k) (λ r. r ≢ Refused 3) (λ k d T. deal_not_3 whole sh k d (T [])) (λ k d T g. stays_moved sh k d (deals whole) T)
    n m last S

-- ── 3 or 11 ──
abbrev Later : Response → Type 0
Later r = (k : ℕ) → r ≡ Refused (suc k) → (suc k ≡ 3) ⊎ (suc k ≡ 11)

ready_later : (whole : Bool) (sh : Shape) (m : Memory) (last : ℕ) → Ready sh m last → Later (dealt whole sh m last).response
ready_later whole sh m last (A, some) k q = go (ℕ_discrete (suc k) 3)
  where
    go : Dec (suc k ≡ 3) → (suc k ≡ 3) ⊎ (suc k ≡ 11)
    go (yes e) = inl e
    go (no n) =
        inr (only_11 whole sh m last (dealt_unless_3 whole sh m last A some (λ e. n (ap (λ (x : Response). (said x).number) (sym q ∙ e)))) k q)

-- the first turn was dealt
first_11 : (whole : Bool) (sh : Shape) (m : Memory) (last k : ℕ) → 1 ≤ (dealt whole sh m last).turns → (dealt whole sh m last).response ≡ Refused (suc k)
    → suc k ≡ 11
first_11 whole sh m last k some q = go (ℕ_discrete (suc k) 11)
  where
    go : Dec (suc k ≡ 11) → suc k ≡ 11
    go (yes e) = e
    go (no n) = absurd (omega (arith, ((refused_kept whole sh m last k q).1 n).1))

-- LATER REFUSALS
pub later_refusals : (whole : Bool) (sh : Shape) (n : ℕ) (m : Memory) (last k : ℕ)
    → let r = dealt_run whole sh n m last in 1 ≤ r.turns → r.response ≡ Refused (suc k) → (suc k ≡ 3) ⊎ (suc k ≡ 11)
unfolding dealt_on
later_refusals whole sh zero m last k some q = absurd (omega arith)
later_refusals whole sh (suc zero) m last k some q =
    let is = one_turn whole sh m last in
    inr (first_11 whole sh m last k (subst (λ (r : Deal). 1 ≤ r.turns) is some) (ap (λ (r : Deal). r.response) (sym is) ∙ q))
later_refusals whole sh (suc (suc n)) m last k some q = go (goes_on (dealt whole sh m last).response) refl
  where
    go : (t : Bool) → goes_on (dealt whole sh m last).response ≡ t → (suc k ≡ 3) ⊎ (suc k ≡ 11)
    go true g =
        along whole sh (Ready sh) Later (ready_later whole sh) (λ m' d R h. goes_ready whole sh m' d h) n (dealt whole sh m last).memory
        (dealt whole sh m last).dealer (goes_ready whole sh m last g) k (ap (λ (r : Deal). r.response) (sym (run_on whole sh n m last g)) ∙ q)
    go false g =
        let is = run_stops whole sh n m last g in
        inr (first_11 whole sh m last k (subst (λ (r : Deal). 1 ≤ r.turns) is some) (ap (λ (r : Deal). r.response) (sym is) ∙ q))

pub later_refusals_in_range : (whole : Bool) (sh : Shape) (n : ℕ) (m : Memory) (last k : ℕ) → StaysInRange sh m
    → let r = dealt_run whole sh n m last in 1 ≤ r.turns → r.response ≡ Refused (suc k) → suc k ≡ 11
later_refusals_in_range whole sh n m last k S some q = go (later_refusals whole sh n m last k some q)
  where
    go : (suc k ≡ 3) ⊎ (suc k ≡ 11) → suc k ≡ 11
    go (inl e) = absurd (run_not_3 whole sh n m last S (q ∙ ap Refused e))
    go (inr e) = e

pub later_refusals_opened : (sh : Shape) (m : Memory) → (open_pool sh m).response ≡ Opened → (last : ℕ) (xs : List Move) (whole : Bool) (n k : ℕ)
    → let p = (open_pool sh m).memory in let r = dealt_run whole sh n (memory_after sh p last xs) (dealer_after sh p last xs) in
    1 ≤ r.turns → r.response ≡ Refused (suc k) → suc k ≡ 11
later_refusals_opened sh m e last xs whole n k =
    let p = (open_pool sh m).memory in
    later_refusals_in_range whole sh n (memory_after sh p last xs) (dealer_after sh p last xs) k (stays_along sh xs p last (always_in_range sh m e))
