-- What refuses a dealt turn, and what it keeps, on any memory, with a look at all of it or a narrow one.
--     passed                     no test applies to a turn that was dealt
--     served_exists              who is served is a worker that had a call in progress
--     only_11                    a turn that was dealt is refused by nothing but 11
--     deal_lowest                 all that the host can get; of them the lowest is answered
--     never_10                   nobody idle is served
--     refused_kept               in a refusal the pool keeps its contents; in all but 11 the dealer does too, and at 11 it moves on
--     new_inside                 a new dealer remembers a worker of the shape
--     by_deal, stays_inside      by the two cases of a dealt turn; the dealer stays inside
--     deal_same_size             lengths stay
--     deal_same_beyond           so does what lies beyond the layout and the workers
--     others_kept                so do the records of all but the worker to be served
--     narrow_deal_same           in range, a narrow look is as good
-- Assumes nothing.
use Rattle.std.specs.Prelude.{◌≡◌, refl, [], ◌∷◌, Bool, true, false, cond, not, ◌&&◌, ◌||◌, ◌≢◌, ℕ, suc, ◌<◌, eqb}
use Rattle.std.proofs.Common.{sym, ap, subst, ◌∙◌, arith, eqb-true, leb-false}
use Rattle.std.proofs.Math.Decide.{ℕ_discrete}
use Rattle.std.proofs.lemmas.Bool.{lt-leb, not-false}
use Rattle.std.proofs.lemmas.Bool.Decides.{nat_tests}
use Rattle.arrival.specs.declared.Shape.{Shape}
use Rattle.arrival.specs.declared.Action.{Action}
use Rattle.arrival.specs.declared.Action.TheVariants.{Step}
use Rattle.arrival.specs.declared.Response.{Response}
use Rattle.arrival.specs.declared.Response.TheVariants.{Refused}
use Rattle.arrival.specs.Responses.{said}
use Rattle.laws.specs.Tests.{by_test, parts}
use Rattle.laws.specs.FirstOf.{first_of, Lowest, lowest_of, first_none, first_behind, first_lacks}
use Rattle.calendar.specs.rules.Ranges.{shape_in_range, words_in_range, record_in_range, store_in_range, table_in_range, worker}
use Rattle.calendar.specs.rules.Reclaim.{in_progress}
use Rattle.calendar.specs.rules.Refusals.{bad_shape, too_short, no_worker, no_epoch, memory_tests, step_refusal}
use Rattle.calendar.specs.rules.Operations.{Memory, Result, unless, perform, actor, refusal, outcome, act}
use Rattle.calendar.specs.rules.NarrowCalls.{narrow_refusal, narrow_act, turns_after, narrow_call}
use Rattle.calendar.specs.rules.HostHistory.{requested}
use Rattle.calendar.proofs.facts.RangeFacts.{limits}
use Rattle.calendar.specs.facts.Untouched.{SameSize, SameBeyond}
use Rattle.calendar.proofs.facts.Untouched.{outcome_said, act_refused_untouched, act_same_beyond}
use Rattle.calendar.proofs.facts.Narrow.{narrow_same, narrow_said, narrow_refused_untouched}
use Rattle.calendar.proofs.facts.NarrowTurns.{narrow_call_same_beyond}
use Rattle.dealer.specs.Dealing.{Deal, new_dealer, next_served, all_idle, served_in_range, deal_out, deal_tests, deal_refusal, turn_of, dealt}
use Rattle.dealer.proofs.Served.{served_busy}
use Rattle.dealer.proofs.RequestLaws.{request_same_size, request_others}
use Rattle.dealer.proofs.DealtTurn.{turn_actor, dealt_served}
use Rattle.dealer.proofs.DealtInRange.{deal_in_range}
use Rattle.dealer.proofs.Covered.{dealt_refused}
use Rattle.dealer.specs.DealtRefusals.{all_tests, KeptBy}

-- ── a turn that was dealt ──
-- no test applies
pub record Passed (whole : Bool) (sh : Shape) (m : Memory) (last : ℕ) : Type 0 where
  pub shape : bad_shape sh ≡ false
  pub long : too_short sh m.store m.table ≡ false
  pub ranged : deal_out whole sh m last ≡ false
  pub exists : no_worker sh last ≡ false
  pub some : all_idle sh m.table last ≡ false

pub passed : (whole : Bool) (sh : Shape) (m : Memory) (last : ℕ) → deal_refusal whole sh m last ≡ 0 → Passed whole sh m last
unfolding deal_refusal
passed whole sh m last e =
    let (one, (two, (three, (four, (sixteen, rest))))) = first_none (deal_tests whole sh m last) refl e in
    record { shape = one; long = two; ranged = three; exists = four; some = sixteen }

served_worker : (whole : Bool) (sh : Shape) (m : Memory) (last : ℕ) → Passed whole sh m last
    → let j = next_served sh m.table last in (j < sh.workers) × (in_progress (worker m.table j) ≡ true)
served_worker whole sh m last F = served_busy sh m.table last (omega (arith, leb-false sh.workers last F.exists)) F.some

pub served_exists : (whole : Bool) (sh : Shape) (m : Memory) (last : ℕ) → deal_refusal whole sh m last ≡ 0
    → let r = dealt whole sh m last in
    (r.turns ≡ 1) × (r.dealer ≡ next_served sh m.table last) × (r.dealer < sh.workers) × (in_progress (worker m.table r.dealer) ≡ true)
served_exists whole sh m last e =
    let (below, busy) = served_worker whole sh m last (passed whole sh m last e) in rw (dealt_served whole sh m last e) (refl, refl, below, busy)

-- ── the number that it answers ──
number_of : (k : ℕ) (m : Memory) (r : Result) → (k ≡ 0 → (said r.response).number ≡ 0) → (said (unless k m r).response).number ≡ k
number_of k m r ok = go (eqb k 0) refl
  where
    go : (t : Bool) → eqb k 0 ≡ t → (said (cond t r (record { memory = m; response = Refused k })).response).number ≡ k
    go true e = let z = eqb-true k 0 e in ok z ∙ sym z
    go false e = refl

act_number : (sh : Shape) (m : Memory) (a : Action) → (said (act sh m a).response).number ≡ refusal sh m a
unfolding act
act_number sh m a = number_of (refusal sh m a) m (perform sh m (actor a) (outcome sh m a)) (outcome_said sh m a)

narrow_number : (sh : Shape) (m : Memory) (a : Action) → (said (narrow_call sh m a 0).response).number ≡ narrow_refusal sh m a
unfolding narrow_call turns_after narrow_act
narrow_number sh m a = number_of (narrow_refusal sh m a) m (perform sh m (actor a) (outcome sh m a)) (narrow_said sh m a)

-- the record of who is served is in range, by the narrow look
served_ranged : (sh : Shape) (m : Memory) (last : ℕ) → Passed false sh m last
    → (words_in_range sh m.store ≡ true) × (record_in_range sh (worker m.table (next_served sh m.table last)) ≡ true)
served_ranged sh m last F =
    let (words, served) = parts (words_in_range sh m.store) (served_in_range sh m.table last) (not-false _ F.ranged) in
    let own : (no_worker sh last || all_idle sh m.table last || record_in_range sh (worker m.table (next_served sh m.table last)))
    ≡ record_in_range sh (worker m.table (next_served sh m.table last)) = rw (F.exists, F.some) in
    (words, sym own ∙ served)

-- 11 or none
turn_number : (whole : Bool) (sh : Shape) (m : Memory) (last : ℕ) → Passed whole sh m last
    → let j = next_served sh m.table last in
    (said (requested sh m (turn_of whole j)).response).number ≡ cond (no_epoch sh m.store (worker m.table j)) 11 0
unfolding step_refusal narrow_refusal
turn_number true sh m last F =
    let (below, busy) = served_worker true sh m last F in
    act_number sh m (Step (next_served sh m.table last)) ∙ rw (F.shape, F.long, F.ranged, lt-leb sh.workers _ below, busy)
turn_number false sh m last F =
    let (below, busy) = served_worker false sh m last F in
    let (words, own) = served_ranged sh m last F in
    narrow_number sh m (Step (next_served sh m.table last)) ∙ rw (F.shape, F.long, words, own, lt-leb sh.workers _ below, busy)

dealt_number : (whole : Bool) (sh : Shape) (m : Memory) (last : ℕ) → deal_refusal whole sh m last ≡ 0
    → (said (dealt whole sh m last).response).number ≡ cond (no_epoch sh m.store (worker m.table (next_served sh m.table last))) 11 0
dealt_number whole sh m last e = rw (dealt_served whole sh m last e) (turn_number whole sh m last (passed whole sh m last e))

away_number : (whole : Bool) (sh : Shape) (m : Memory) (last : ℕ) → deal_refusal whole sh m last ≢ 0
    → (said (dealt whole sh m last).response).number ≡ deal_refusal whole sh m last
away_number whole sh m last h = ap (λ (r : Deal). (said r.response).number) (dealt_refused whole sh m last h)

refused_number : (r : Response) (k : ℕ) → r ≡ Refused k → (said r).number ≡ k
refused_number r k e = ap (λ (x : Response). (said x).number) e

pub only_11 : (whole : Bool) (sh : Shape) (m : Memory) (last : ℕ) → deal_refusal whole sh m last ≡ 0
    → (k : ℕ) → (dealt whole sh m last).response ≡ Refused (suc k) → suc k ≡ 11
only_11 whole sh m last e k q =
    let is : suc k ≡ cond (no_epoch sh m.store (worker m.table (next_served sh m.table last))) 11 0 =
    sym (refused_number _ (suc k) q) ∙ dealt_number whole sh m last e in
    grind (arith, nat_tests)

-- behind 1 to 4 only 11 and 16 are left
behind_4 : (idle spent : Bool) → first_of ((16, idle) ∷ []) ≢ 0 → first_of ((11, not idle && spent) ∷ (16, idle) ∷ []) ≡ first_of ((16, idle) ∷ [])
behind_4 true spent h = refl
behind_4 false spent h = absurd (h refl)

deal_number : (whole : Bool) (sh : Shape) (m : Memory) (last : ℕ) → (said (dealt whole sh m last).response).number ≡ first_of (all_tests whole sh m last)
unfolding deal_refusal
deal_number whole sh m last = go (ℕ_discrete (deal_refusal whole sh m last) 0)
  where
    go : Dec (deal_refusal whole sh m last ≡ 0) → (said (dealt whole sh m last).response).number ≡ first_of (all_tests whole sh m last)
    go (yes e) =
        let F = passed whole sh m last e in dealt_number whole sh m last e ∙ rw (F.shape, F.long, F.ranged, F.exists, F.some)
    go (no h) =
        let tests = memory_tests sh (too_short sh m.store m.table) (deal_out whole sh m last) last in
        let idle = all_idle sh m.table last in
        let spent = no_epoch sh m.store (worker m.table (next_served sh m.table last)) in
        away_number whole sh m last h
        ∙ first_behind tests ((16, idle) ∷ []) ((11, not idle && spent) ∷ (16, idle) ∷ [])
        (λ z. sym (behind_4 idle spent (λ y. h (first_behind tests ((16, idle) ∷ []) [] (λ x. y) ∙ z))))

pub deal_lowest : (whole : Bool) (sh : Shape) (m : Memory) (last : ℕ)
    → Lowest (said (dealt whole sh m last).response).number (all_tests whole sh m last)
deal_lowest whole sh m last =
    subst (λ k. Lowest k (all_tests whole sh m last)) (sym (deal_number whole sh m last)) (lowest_of (all_tests whole sh m last) refl)

pub never_10 : (whole : Bool) (sh : Shape) (m : Memory) (last : ℕ) → (dealt whole sh m last).response ≢ Refused 10
never_10 whole sh m last e =
    first_lacks 10 (all_tests whole sh m last) (λ z. omega arith) refl (sym (deal_number whole sh m last) ∙ refused_number _ 10 e)

-- ── a refusal ──
turn_refused : (whole : Bool) (sh : Shape) (m : Memory) (i k : ℕ) → (requested sh m (turn_of whole i)).response ≡ Refused (suc k)
    → (requested sh m (turn_of whole i)).memory ≡ m
unfolding narrow_call turns_after
turn_refused true sh m i k e = act_refused_untouched sh m (Step i) k e
turn_refused false sh m i k e = narrow_refused_untouched sh m (Step i) k e

pub refused_kept : (whole : Bool) (sh : Shape) (m : Memory) (last k : ℕ) → (dealt whole sh m last).response ≡ Refused (suc k)
    → KeptBy sh m last (suc k) (dealt whole sh m last)
unfolding deal_refusal
refused_kept whole sh m last k q = go (ℕ_discrete (deal_refusal whole sh m last) 0)
  where
    go : Dec (deal_refusal whole sh m last ≡ 0) → KeptBy sh m last (suc k) (dealt whole sh m last)
    go (yes e) =
        let j = next_served sh m.table last in
        let is = dealt_served whole sh m last e in
        subst (KeptBy sh m last (suc k)) (sym is)
        (turn_refused whole sh m j k (ap (λ (r : Deal). r.response) (sym is) ∙ q), (λ n. absurd (n (only_11 whole sh m last e k q))), (λ z. (refl, refl)))
    go (no h) =
        subst (KeptBy sh m last (suc k)) (sym (dealt_refused whole sh m last h)) (
          refl,
          (λ n. (refl, refl)),
          (λ z. absurd (first_lacks 11 (deal_tests whole sh m last) (λ y. omega arith) refl
              (sym (away_number whole sh m last h) ∙ refused_number _ (suc k) q ∙ z))),
        )

-- ── what the dealer remembers ──
pub new_inside : (sh : Shape) → shape_in_range sh ≡ true → new_dealer sh < sh.workers
new_inside sh e = omega (arith, limits sh e)

-- what holds of a turn of the next and where nothing is done holds of a dealt turn
pub by_deal : (P : Deal → Type 0) (whole : Bool) (sh : Shape) (m : Memory) (last : ℕ)
    → (deal_refusal whole sh m last ≡ 0
    → let j = next_served sh m.table last in let r = requested sh m (turn_of whole j) in
    P (record { memory = r.memory; dealer = j; turns = 1; response = r.response }))
    → ((k : ℕ) → P (record { memory = m; dealer = last; turns = 0; response = Refused k }))
    → P (dealt whole sh m last)
unfolding dealt
by_deal P whole sh m last served away =
    by_test P (eqb (deal_refusal whole sh m last) 0) (λ e. served (eqb-true _ 0 e)) (λ e. away (deal_refusal whole sh m last))

pub stays_inside : (whole : Bool) (sh : Shape) (m : Memory) (last : ℕ) → last < sh.workers → (dealt whole sh m last).dealer < sh.workers
stays_inside whole sh m last l =
    by_deal (λ r. r.dealer < sh.workers) whole sh m last (λ e. (served_worker whole sh m last (passed whole sh m last e)).0) (λ k. l)

-- ── what it keeps ──
pub deal_same_size : (whole : Bool) (sh : Shape) (m : Memory) (last : ℕ) → SameSize m (dealt whole sh m last).memory
deal_same_size whole sh m last =
    by_deal (λ r. SameSize m r.memory) whole sh m last (λ e. request_same_size sh m (turn_of whole (next_served sh m.table last)))
    (λ k. record { store = refl; table = refl })

turn_same_beyond : (whole : Bool) (sh : Shape) (m : Memory) (i : ℕ) → SameBeyond sh m (requested sh m (turn_of whole i)).memory
turn_same_beyond true sh m i = act_same_beyond sh m (Step i)
turn_same_beyond false sh m i = narrow_call_same_beyond sh m (Step i) 0

pub deal_same_beyond : (whole : Bool) (sh : Shape) (m : Memory) (last : ℕ) → SameBeyond sh m (dealt whole sh m last).memory
deal_same_beyond whole sh m last =
    by_deal (λ r. SameBeyond sh m r.memory) whole sh m last (λ e. turn_same_beyond whole sh m (next_served sh m.table last))
    (λ k. record { store = refl; table = refl })

pub others_kept : (whole : Bool) (sh : Shape) (m : Memory) (last j : ℕ) → j ≢ next_served sh m.table last
    → worker (dealt whole sh m last).memory.table j ≡ worker m.table j
others_kept whole sh m last j other =
    let i = next_served sh m.table last in
    by_deal (λ r. worker r.memory.table j ≡ worker m.table j) whole sh m last
    (λ e. request_others sh m (turn_of whole i) j (λ q. other (q ∙ turn_actor whole i))) (λ k. refl)

-- ── narrow or whole ──
narrow_refusal_same : (sh : Shape) (m : Memory) (last : ℕ) → store_in_range sh m.store ≡ true → table_in_range sh m.table ≡ true
    → deal_refusal false sh m last ≡ deal_refusal true sh m last
unfolding deal_refusal
narrow_refusal_same sh m last p q = rw (deal_in_range false sh m last (p, q), deal_in_range true sh m last (p, q))

pub narrow_deal_same : (sh : Shape) (m : Memory) (last : ℕ) → store_in_range sh m.store ≡ true → table_in_range sh m.table ≡ true
    → dealt false sh m last ≡ dealt true sh m last
unfolding dealt narrow_call turns_after
narrow_deal_same sh m last p q = rw (narrow_refusal_same sh m last p q, narrow_same sh m (Step (next_served sh m.table last)) p q)
