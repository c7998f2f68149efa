-- Where the memory stays in range whatever is done, it does so under dealt turns, and no dealt turn is refused by 3.
--     act_not_3                      a memory in range; on it no start or turn is refused by 3
--     deal_in_range, deal_not_3      nor is a turn to be dealt, by the dealer; nor is its answer 3
--     stays_moved                    the memory stays in range
--     never_3                        so no turn is refused by 3 in any list of requests and dealt turns
--     kept_after                     what such a list keeps: in range, and 1, 2 and 4 do not apply
-- Assumes nothing.
use Rattle.std.specs.Prelude.{◌≡◌, refl, List, [], ◌∷◌, Bool, true, false, ◌||◌, ◌≢◌, ℕ, eqb}
use Rattle.std.proofs.Common.{ap, arith, leb-false}
use Rattle.arrival.specs.declared.Shape.{Shape}
use Rattle.arrival.specs.declared.Worker.{Worker}
use Rattle.arrival.specs.declared.Action.{Action}
use Rattle.arrival.specs.declared.Action.TheVariants.{Enqueue, Dequeue, Step}
use Rattle.arrival.specs.declared.Response.{Response}
use Rattle.arrival.specs.declared.Response.TheVariants.{Refused}
use Rattle.arrival.specs.Responses.{said}
use Rattle.laws.specs.Tests.{by_test}
use Rattle.laws.proofs.Counting.{every_at}
use Rattle.laws.specs.FirstOf.{lacks, first_lacks}
use Rattle.calendar.specs.rules.Ranges.{worker, record_in_range, table_in_range}
use Rattle.calendar.specs.rules.Refusals.{bad_shape, too_short, out_of_range, no_worker}
use Rattle.calendar.specs.rules.Operations.{Memory, actor, refusal, act, run}
use Rattle.calendar.specs.rules.NarrowCalls.{turns_after, narrow_call}
use Rattle.calendar.specs.rules.HostHistory.{requested}
use Rattle.calendar.specs.facts.RefusalParts.{own_of}
use Rattle.calendar.proofs.facts.RefusalParts.{refusal_first}
use Rattle.calendar.proofs.facts.Narrow.{words_of_store, narrow_same}
use Rattle.calendar.specs.facts.HostRun.{StaysInRange}
use Rattle.lists.specs.NodeReuse.{refused_by}
use Rattle.dealer.specs.Dealing.{Deal, next_served, all_idle, served_in_range, deal_out, deal_refusal, turn_of, dealt}
use Rattle.dealer.specs.DealtHistory.{Move, asks, deals, moved, memory_after, dealer_after, Unrefused3}
use Rattle.dealer.proofs.Served.{served_busy}
use Rattle.dealer.proofs.RequestLaws.{stays_requested}
use Rattle.dealer.proofs.DealtTurn.{able_moved}
use Rattle.dealer.specs.DealtInRange.{InRange, KeptAfter}

in_range_now : (sh : Shape) (m : Memory) → StaysInRange sh m → InRange sh m
unfolding run
in_range_now sh m S = S []

-- ── the turn itself ──
-- all tests but 3
abbrev others : Shape → Memory → Action → List (ℕ × Bool)
others sh m a = (1, bad_shape sh) ∷ (2, too_short sh m.store m.table) ∷ (4, no_worker sh (actor a)) ∷ own_of sh m a

others_lack : (sh : Shape) (m : Memory) (a : Action) → lacks 3 (others sh m a) ≡ true
others_lack sh m (Enqueue i x) = refl
others_lack sh m (Dequeue i) = refl
others_lack sh m (Step i) = refl

refusal_not_3 : (sh : Shape) (m : Memory) (a : Action) → InRange sh m → refusal sh m a ≢ 3
refusal_not_3 sh m a (p, q) =
    let ranged : out_of_range sh m.store m.table ≡ false = rw (p, q) in
    rw (refusal_first sh m a, ranged) (first_lacks 3 (others sh m a) (λ e. omega arith) (others_lack sh m a))

pub act_not_3 : (sh : Shape) (m : Memory) (a : Action) → InRange sh m → (act sh m a).response ≢ Refused 3
act_not_3 sh m a R e = refusal_not_3 sh m a R (refused_by sh m a 3 (omega arith) e)

turn_not_3 : (whole : Bool) (sh : Shape) (m : Memory) (i : ℕ) → InRange sh m → (requested sh m (turn_of whole i)).response ≢ Refused 3
unfolding narrow_call turns_after
turn_not_3 true sh m i R = act_not_3 sh m (Step i) R
turn_not_3 false sh m i R = rw (narrow_same sh m (Step i) R.0 R.1) (act_not_3 sh m (Step i) R)

-- ── the dealer's own look ──
served_in_range_lem : (sh : Shape) (t : List Worker) (last : ℕ) → table_in_range sh t ≡ true → served_in_range sh t last ≡ true
unfolding table_in_range
served_in_range_lem sh t last q = go (no_worker sh last) (all_idle sh t last) refl refl
  where
    go : (u v : Bool) → no_worker sh last ≡ u → all_idle sh t last ≡ v → (u || v || record_in_range sh (worker t (next_served sh t last))) ≡ true
    go true v e f = refl
    go false true e f = refl
    go false false e f =
        every_at (λ i. record_in_range sh (worker t i)) sh.workers q (next_served sh t last)
        (served_busy sh t last (omega (arith, leb-false sh.workers last e)) f).0

pub deal_in_range : (whole : Bool) (sh : Shape) (m : Memory) (last : ℕ) → InRange sh m → deal_out whole sh m last ≡ false
deal_in_range true sh m last (p, q) = rw (p, q)
deal_in_range false sh m last (p, q) = rw (words_of_store sh m.store p, served_in_range_lem sh m.table last q)

deal_refusal_not_3 : (whole : Bool) (sh : Shape) (m : Memory) (last : ℕ) → InRange sh m → deal_refusal whole sh m last ≢ 3
unfolding deal_refusal
deal_refusal_not_3 whole sh m last R =
    rw (deal_in_range whole sh m last R) (first_lacks 3
    ((1, bad_shape sh) ∷ (2, too_short sh m.store m.table) ∷ (4, no_worker sh last) ∷ (16, all_idle sh m.table last) ∷ []) (λ e. omega arith) refl)

pub deal_not_3 : (whole : Bool) (sh : Shape) (m : Memory) (last : ℕ) → InRange sh m → (dealt whole sh m last).response ≢ Refused 3
unfolding dealt
deal_not_3 whole sh m last R =
    by_test (λ (r : Deal). r.response ≢ Refused 3) (eqb (deal_refusal whole sh m last) 0) (λ e. turn_not_3 whole sh m (next_served sh m.table last) R)
    (λ e q. deal_refusal_not_3 whole sh m last R (ap (λ (x : Response). (said x).number) q))

-- ── along a list ──
stays_dealt : (whole : Bool) (sh : Shape) (m : Memory) (last : ℕ) → StaysInRange sh m → StaysInRange sh (dealt whole sh m last).memory
unfolding dealt
stays_dealt whole sh m last S =
    by_test (λ (r : Deal). StaysInRange sh r.memory) (eqb (deal_refusal whole sh m last) 0)
    (λ e. stays_requested sh m (turn_of whole (next_served sh m.table last)) S) (λ e. S)

pub stays_moved : (sh : Shape) (m : Memory) (last : ℕ) (x : Move) → StaysInRange sh m → StaysInRange sh (moved sh m last x).memory
stays_moved sh m last (asks q) S = stays_requested sh m q S
stays_moved sh m last (deals whole) S = stays_dealt whole sh m last S

pub never_3 : (sh : Shape) (xs : List Move) (m : Memory) (last : ℕ) → StaysInRange sh m → Unrefused3 sh m last xs
unfolding Unrefused3
never_3 sh [] m last S = tt
never_3 sh (asks q ∷ xs) m last S = never_3 sh xs (requested sh m q).memory last (stays_requested sh m q S)
never_3 sh (deals whole ∷ xs) m last S = (
  deal_not_3 whole sh m last (in_range_now sh m S),
  never_3 sh xs (dealt whole sh m last).memory (dealt whole sh m last).dealer (stays_dealt whole sh m last S),
)

pub kept_after : (sh : Shape) (xs : List Move) (m : Memory) (last : ℕ) → KeptAfter sh m last
    → KeptAfter sh (memory_after sh m last xs) (dealer_after sh m last xs)
unfolding memory_after dealer_after
kept_after sh [] m last K = K
kept_after sh (x ∷ xs) m last (S, A) =
    kept_after sh xs (moved sh m last x).memory (moved sh m last x).dealer (stays_moved sh m last x S, able_moved sh m last x A)
