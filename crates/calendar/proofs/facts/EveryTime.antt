-- Since Q-1 no operation answers 6, and every time of 32 bits is accepted.
--     open_never_6              no opening answers 6,
--     never_6                   and no start or turn does, whole or narrow or with turns behind it, on any memory
--     put_tests                 at a time of 32 bits a put is refused by path, order and distance, and by what does not look at the arrival
--     time_refuses_none         so puts that differ in nothing but such times are refused alike, narrow ones too
-- Assumes nothing.
use Rattle.std.specs.Prelude.{◌≡◌, refl, [], ◌∷◌, Bool, true, false, cond, not, ◌&&◌, ◌≢◌, ℕ, zero, suc, ◌<◌, eqb}
use Rattle.std.proofs.Common.{ap, arith, eqb-true, lt-ltb}
use Rattle.arrival.specs.declared.Shape.{Shape}
use Rattle.arrival.specs.declared.Arrival.{Arrival}
use Rattle.arrival.specs.declared.Worker.{Worker}
use Rattle.arrival.specs.declared.Action.{Action}
use Rattle.arrival.specs.declared.Action.TheVariants.{Enqueue, Dequeue, Step}
use Rattle.arrival.specs.declared.Request.{Request}
use Rattle.arrival.specs.declared.Request.TheVariants.{Whole, Narrow}
use Rattle.arrival.specs.declared.Response.{Response}
use Rattle.arrival.specs.declared.Response.TheVariants.{Opened, Refused}
use Rattle.arrival.specs.Responses.{said}
use Rattle.calendar.specs.rules.Ranges.{path_in_range, order_in_range, distance_in_range}
use Rattle.calendar.specs.rules.Opening.{open_store, open_table}
use Rattle.calendar.specs.rules.Refusals.{busy, enqueue_own, open_tests, open_refusal, enqueue_refusal}
use Rattle.calendar.specs.rules.Operations.{Memory, Result, unless, perform, open_pool, actor, refusal, outcome, act}
use Rattle.calendar.specs.rules.NarrowCalls.{narrow_tests, narrow_refusal, narrow_act, goes_on, turns_after, narrow_call}
use Rattle.calendar.specs.rules.HostHistory.{requested}
use Rattle.laws.specs.FirstOf.{lacks, first_lacks}
use Rattle.calendar.specs.facts.RefusalParts.{tests_of}
use Rattle.calendar.proofs.facts.RefusalParts.{refusal_first}
use Rattle.calendar.proofs.facts.Untouched.{outcome_said}
use Rattle.calendar.proofs.facts.Narrow.{narrow_said}
use Rattle.calendar.specs.facts.EveryTime.{at}

-- ── no operation answers 6 ──
-- what is not refused by n, and is no refusal where it is not refused, does not answer n
answers_other : (n k : ℕ) (m : Memory) (r : Result) → n ≢ 0 → k ≢ n → (k ≡ 0 → (said r.response).number ≡ 0) → (unless k m r).response ≢ Refused n
answers_other n k m r some other ok e = go (eqb k 0) refl e
  where
    go : (b : Bool) → eqb k 0 ≡ b → (cond b r (record { memory = m; response = Refused k })).response ≢ Refused n
    go true q e = let z = ap (λ (x : Response). (said x).number) e in some (omega (arith, ok (eqb-true k 0 q)))
    go false q e = other (ap (λ (x : Response). (said x).number) e)

pub open_never_6 : (sh : Shape) (m : Memory) → (open_pool sh m).response ≢ Refused 6
unfolding open_pool open_refusal
open_never_6 sh m =
    answers_other 6 _ m (record { memory = record { store = open_store sh m.store; table = open_table sh m.table }; response = Opened })
    (omega arith) (first_lacks 6 (open_tests sh m.store m.table) (omega arith) refl) (λ e. refl)

whole_lacks_6 : (sh : Shape) (m : Memory) (a : Action) → lacks 6 (tests_of sh m a) ≡ true
whole_lacks_6 sh m (Enqueue i x) = refl
whole_lacks_6 sh m (Dequeue i) = refl
whole_lacks_6 sh m (Step i) = refl

act_never_6 : (sh : Shape) (m : Memory) (a : Action) → (act sh m a).response ≢ Refused 6
unfolding act
act_never_6 sh m a =
    answers_other 6 (refusal sh m a) m (perform sh m (actor a) (outcome sh m a)) (omega arith)
    (rw (refusal_first sh m a) (first_lacks 6 (tests_of sh m a) (omega arith) (whole_lacks_6 sh m a))) (outcome_said sh m a)

narrow_lacks_6 : (sh : Shape) (m : Memory) (a : Action) → lacks 6 (narrow_tests sh m a) ≡ true
narrow_lacks_6 sh m (Enqueue i x) = refl
narrow_lacks_6 sh m (Dequeue i) = refl
narrow_lacks_6 sh m (Step i) = refl

narrow_never_6 : (sh : Shape) (m : Memory) (a : Action) → (narrow_act sh m a).response ≢ Refused 6
unfolding narrow_act narrow_refusal
narrow_never_6 sh m a =
    answers_other 6 (narrow_refusal sh m a) m (perform sh m (actor a) (outcome sh m a)) (omega arith)
    (first_lacks 6 (narrow_tests sh m a) (omega arith) (narrow_lacks_6 sh m a)) (narrow_said sh m a)

turns_never_6 : (sh : Shape) (i n : ℕ) (r : Result) → r.response ≢ Refused 6 → (turns_after sh i n r).response ≢ Refused 6
unfolding turns_after
turns_never_6 sh i zero r h = h
turns_never_6 sh i (suc n) r h = go (goes_on r.response) (turns_never_6 sh i n (narrow_act sh r.memory (Step i)) (narrow_never_6 sh r.memory (Step i)))
  where
    go : (b : Bool) → (turns_after sh i n (narrow_act sh r.memory (Step i))).response ≢ Refused 6
        → (cond b (turns_after sh i n (narrow_act sh r.memory (Step i))) r).response ≢ Refused 6
    go true rest = rest
    go false rest = h

pub never_6 : (sh : Shape) (m : Memory) (q : Request) → (requested sh m q).response ≢ Refused 6
unfolding narrow_call
never_6 sh m (Whole a) = act_never_6 sh m a
never_6 sh m (Narrow a n) = turns_never_6 sh (actor a) n (narrow_act sh m a) (narrow_never_6 sh m a)

-- ── no time is a reason ──
-- What refuses a put of its own, at a time of 32 bits: 5 looks at path, order and distance.
pub put_tests : (a : Arrival) (w : Worker) (spent none : Bool) → a.time < 4294967296
    → enqueue_own a w spent none
    ≡ (5, not (path_in_range a.path && order_in_range a.order && distance_in_range a.distance)) ∷ (9, busy w) ∷ (11, spent) ∷ (12, none) ∷ []
put_tests a w spent none h = rw (lt-ltb a.time 4294967296 h)

pub time_refuses_none : (sh : Shape) (m : Memory) (i t u : ℕ) (a : Arrival) → t < 4294967296 → u < 4294967296
    → (refusal sh m (Enqueue i (at t a)) ≡ refusal sh m (Enqueue i (at u a)))
    × (narrow_refusal sh m (Enqueue i (at t a)) ≡ narrow_refusal sh m (Enqueue i (at u a)))
unfolding enqueue_refusal narrow_refusal
time_refuses_none sh m i t u a h k = (
  rw (lt-ltb t 4294967296 h, lt-ltb u 4294967296 k),
  rw (lt-ltb t 4294967296 h, lt-ltb u 4294967296 k),
)
