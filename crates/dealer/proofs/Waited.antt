-- The bound on waiting for a turn.
--     waiting            on any memory: a worker whose call stays in progress is served by the time that as many turns are dealt as the shape has workers
--     begun_stays        it stays in progress where it is at the beginning and the host makes no turn of that worker
--     waiting_begun      and so it is served
--     open_able          after an opening 1 and 2 do not apply, nor does 4 to a worker of the shape
--     waiting_opened     and so it is served at any moment after an opening
-- Assumes nothing.
use Rattle.std.specs.Prelude.{◌≡◌, refl, List, [], ◌∷◌, Bool, true, false, cond, not, ◌||◌, ◌≢◌, ◌⊎◌, ℕ, zero, suc, ◌<◌, ◌≤◌, eqb}
use Rattle.std.proofs.Common.{sym, subst, ◌∙◌, inl, inr, arith, eq-eqb}
use Rattle.std.proofs.Math.Decide.{ℕ_discrete}
use Rattle.arrival.specs.declared.Shape.{Shape}
use Rattle.arrival.specs.declared.Response.TheVariants.{Opened}
use Rattle.laws.specs.Tests.{parts, or_left, or_right}
use Rattle.laws.specs.FirstOf.{first_none}
use Rattle.calendar.specs.rules.Ranges.{worker}
use Rattle.calendar.specs.rules.Reclaim.{in_progress}
use Rattle.calendar.specs.rules.Refusals.{open_tests, open_refusal}
use Rattle.calendar.specs.rules.Operations.{Memory, open_pool}
use Rattle.calendar.proofs.facts.Untouched.{open_same_size}
use Rattle.lists.specs.NodeReuse.{opened, always_in_range}
use Rattle.calendar.specs.rules.HostHistory.{requested, action_of}
use Rattle.dealer.specs.Dealing.{Deal, next_served, turn_of, dealt}
use Rattle.dealer.specs.DealtHistory.{Move, asks, deals, memory_after, dealer_after, served_in, among, deals_in, is_turn_of, no_turn_of}
use Rattle.dealer.specs.DealtHistory.{Unrefused3, StaysInProgress, Waiting, WaitingBegun, WaitingOpened}
use Rattle.dealer.specs.Served.{Ahead}
use Rattle.dealer.proofs.Served.{all_ahead, none_ahead, served_first, somebody}
use Rattle.dealer.proofs.RequestLaws.{request_same_size, request_others, busy_kept}
use Rattle.dealer.specs.DealtTurn.{Able}
use Rattle.dealer.proofs.DealtTurn.{able_size, able_tests, turn_actor, dealt_served, dealt_unless_3}
use Rattle.dealer.proofs.DealtInRange.{never_3, kept_after}
use Rattle.dealer.proofs.DealtRefusals.{by_deal}

-- worker i is served now, or among those served later
now_or_later : (i j : ℕ) (js : List ℕ) (nearer : Type 0) → (j ≡ i) ⊎ nearer → (j ≢ i → nearer → among i js ≡ true) → (eqb j i || among i js) ≡ true
now_or_later i j js nearer way later = go (ℕ_discrete j i) way
  where
    go : Dec (j ≡ i) → (j ≡ i) ⊎ nearer → (eqb j i || among i js) ≡ true
    go (yes e) w = or_left (eqb j i) (among i js) (eq-eqb j i e)
    go (no d) (inl e) = absurd (d e)
    go (no d) (inr a) = or_right (eqb j i) (among i js) (later d a)

-- worker i is among the k workers that follow the one served last
waits : (sh : Shape) (i : ℕ) → i < sh.workers → (xs : List Move) (m : Memory) (last k : ℕ) → Able sh m last → StaysInProgress sh m last i xs
    → Unrefused3 sh m last xs → k ≤ sh.workers → Ahead sh k last i → k ≤ deals_in xs → among i (served_in sh m last xs) ≡ true
unfolding served_in Unrefused3 StaysInProgress
waits sh i l [] m last k A W U most a all =
    absurd (none_ahead sh last i A.exists (subst (λ n. Ahead sh n last i) (let z : k ≡ 0 = omega arith in z) a))
waits sh i l (asks q ∷ xs) m last k A W U most a all =
    waits sh i l xs (requested sh m q).memory last k (able_size sh m (requested sh m q).memory last last A (request_same_size sh m q) A.exists)
    W U most a all
waits sh i l (deals whole ∷ xs) m last zero A W U most a all = absurd (none_ahead sh last i A.exists a)
waits sh i l (deals whole ∷ xs) m last (suc k) A W U most a all =
    let j = next_served sh m.table last in
    let n = (requested sh m (turn_of whole j)).memory in
    let e = dealt_served whole sh m last (dealt_unless_3 whole sh m last A (somebody sh m.table i l last A.exists W.0) U.0) in
    let (below, way) = served_first sh m.table i l k last (omega arith) A.exists W.0 a in
    subst (λ (r : Deal). among i (cond (eqb r.turns 0) (served_in sh r.memory r.dealer xs) (r.dealer ∷ served_in sh r.memory
    r.dealer xs)) ≡ true)
    (sym e)
    (now_or_later i j (served_in sh n j xs) (Ahead sh k j i) way
    (λ d b. waits sh i l xs n j k (able_size sh m n last j A (request_same_size sh m (turn_of whole j)) below)
    (subst (λ (r : Deal). r.dealer ≢ i → StaysInProgress sh r.memory r.dealer i xs) e W.1 d)
    (subst (λ (r : Deal). Unrefused3 sh r.memory r.dealer xs) e U.1) (omega arith) b (omega arith)))

-- WAITING
pub waiting : Waiting
unfolding Waiting
waiting sh m last i xs e l W U all = waits sh i l xs m last sh.workers (able_tests sh m last false e) W U (omega arith) (all_ahead sh last i l) all

-- ── in progress at the beginning ──
-- a dealt turn of another worker leaves the call in progress
other_dealt : (whole : Bool) (sh : Shape) (m : Memory) (last i : ℕ) → in_progress (worker m.table i) ≡ true
    → let r = dealt whole sh m last in r.dealer ≢ i → in_progress (worker r.memory.table i) ≡ true
other_dealt whole sh m last i busy =
    let j = next_served sh m.table last in
    by_deal (λ r. r.dealer ≢ i → in_progress (worker r.memory.table i) ≡ true) whole sh m last
    (λ e d. rw (request_others sh m (turn_of whole j) i (λ q. d (sym (q ∙ turn_actor whole j)))) busy) (λ k d. busy)

pub begun_stays : (sh : Shape) (i : ℕ) (xs : List Move) (m : Memory) (last : ℕ) → in_progress (worker m.table i) ≡ true → no_turn_of i xs ≡ true
    → StaysInProgress sh m last i xs
unfolding StaysInProgress
begun_stays sh i [] m last busy own = tt
begun_stays sh i (asks q ∷ xs) m last busy own =
    let (start, rest) = parts (not (is_turn_of i (action_of q))) (no_turn_of i xs) own in
    begun_stays sh i xs (requested sh m q).memory last (busy_kept sh m q i start busy) rest
begun_stays sh i (deals whole ∷ xs) m last busy own =
    let r = dealt whole sh m last in (busy, λ d. begun_stays sh i xs r.memory r.dealer (other_dealt whole sh m last i busy d) own)

-- WAITING OF A CALL THAT HAS BEGUN
pub waiting_begun : WaitingBegun
unfolding Waiting WaitingBegun
waiting_begun sh m last i xs e l busy own U all = waiting sh m last i xs e l (begun_stays sh i xs m last busy own) U all

-- ── after an opening ──
pub open_able : (sh : Shape) (m : Memory) → (open_pool sh m).response ≡ Opened → (last : ℕ) → last < sh.workers → Able sh (open_pool sh m).memory last
unfolding open_refusal
open_able sh m e last l =
    let S = open_same_size sh m in
    let (one, (two, rest)) = first_none (open_tests sh m.store m.table) refl (opened sh m e).0 in
    record { shape = one; long = rw (S.store, S.table) two; exists = l }

-- WAITING AFTER AN OPENING
pub waiting_opened : WaitingOpened
unfolding WaitingOpened
waiting_opened sh m e last i xs ys l b busy own all =
    let p = (open_pool sh m).memory in
    let n = memory_after sh p last xs in
    let d = dealer_after sh p last xs in
    let (S, A) = kept_after sh xs p last (always_in_range sh m e, open_able sh m e last l) in
    waits sh i b ys n d sh.workers A (begun_stays sh i ys n d busy own) (never_3 sh ys n d S) (omega arith) (all_ahead sh d i b) all
