-- A narrow call of several turns is its starts and turns one by one, and keeps what each of them keeps.
--     one_by_one_lem                                           it is a start or turn and some turns of its worker, all but the last going on
--     narrow_call_same_size, narrow_call_same_beyond     lengths stay, and what lies beyond
--     narrow_call_others_untouched                       other workers' records stay
--     narrow_call_refused                                what is refused at once changes nothing
--     narrow_call_goes                                   one that ends without a refusal goes on where the call is in progress
--     narrow_call_spent                                  and goes on only where all its turns are made
-- Assumes nothing.
use Rattle.std.specs.Prelude.{◌≡◌, refl, [], ◌∷◌, Bool, true, false, cond, ◌≢◌, ℕ, zero, suc, ◌<◌, replicate, eqb}
use Rattle.std.proofs.Common.{sym, ap, ◌∙◌, arith, eqb-true, ne_eqb}
use Rattle.std.proofs.lemmas.Bool.{eqb-false}
use Rattle.arrival.specs.declared.Shape.{Shape}
use Rattle.arrival.specs.declared.Action.{Action}
use Rattle.arrival.specs.declared.Action.TheVariants.{Step}
use Rattle.arrival.specs.declared.Response.TheVariants.{Refused}
use Rattle.arrival.specs.Responses.{said}
use Rattle.laws.specs.Tests.{never, by_test, by_size}
use Rattle.calendar.specs.rules.Ranges.{worker}
use Rattle.calendar.specs.rules.Reclaim.{in_progress}
use Rattle.calendar.specs.rules.Operations.{Memory, Result, perform, actor, outcome}
use Rattle.calendar.specs.rules.NarrowCalls.{turns_after, narrow_refusal, narrow_act, goes_on, narrow_call, narrow_made, narrow_run, narrow_responses}
use Rattle.calendar.specs.facts.Untouched.{SameSize, SameBeyond}
use Rattle.calendar.proofs.facts.Narrow.{narrow_refused_untouched, narrow_same_size, narrow_same_beyond, narrow_others_untouched}
use Rattle.calendar.proofs.facts.GoesOn.{narrow_goes}
use Rattle.calendar.specs.facts.NarrowTurns.{OneByOne}

module _ (sh : Shape) (m : Memory) (a : Action) (n : ℕ) where
  call_on : goes_on (narrow_act sh m a).response ≡ true → narrow_call sh m a (suc n) ≡ narrow_call sh (narrow_act sh m a).memory (Step (actor a)) n
  unfolding narrow_call turns_after
  call_on e = rw e

  call_stops : goes_on (narrow_act sh m a).response ≡ false → narrow_call sh m a (suc n) ≡ narrow_act sh m a
  unfolding narrow_call turns_after
  call_stops e = rw e

  made_on : goes_on (narrow_act sh m a).response ≡ true → narrow_made sh m a (suc n) ≡ a ∷ narrow_made sh (narrow_act sh m a).memory (Step (actor a)) n
  unfolding narrow_made
  made_on e = rw e

  made_stops : goes_on (narrow_act sh m a).response ≡ false → narrow_made sh m a (suc n) ≡ a ∷ []
  unfolding narrow_made
  made_stops e = rw e

-- it is a alone
alone : (sh : Shape) (m : Memory) (a : Action) (n : ℕ) → narrow_call sh m a n ≡ narrow_act sh m a → narrow_made sh m a n ≡ a ∷ []
    → (0 < n → goes_on (narrow_act sh m a).response ≡ false) → OneByOne sh m a n
unfolding narrow_run narrow_responses
alone sh m a n call made stops = record {
  turns = 0;
  before = [];
  at_most = omega arith;
  made = made;
  memory = rw (call, made);
  responses = rw (call, made);
  go_on = refl;
  stops = λ l. rw call (stops l);
  refused = λ k e. ap (λ (r : Result). r.memory) call ∙ narrow_refused_untouched sh m a k (ap (λ (r : Result). r.response) (sym call) ∙ e);
}

-- it goes on
further : (sh : Shape) (m : Memory) (a : Action) (n : ℕ) → goes_on (narrow_act sh m a).response ≡ true
    → OneByOne sh (narrow_act sh m a).memory (Step (actor a)) n → OneByOne sh m a (suc n)
unfolding narrow_run narrow_responses
further sh m a n e R =
    let call = call_on sh m a n e in
    let made = made_on sh m a n e in
    record {
      turns = suc R.turns;
      before = (narrow_act sh m a).response ∷ R.before;
      at_most = omega (arith, R.at_most);
      made = made ∙ ap (λ h. a ∷ h) R.made;
      memory = rw (call, made) R.memory;
      responses = rw (call, made) (ap (λ rs. (narrow_act sh m a).response ∷ rs) R.responses);
      go_on = rw e R.go_on;
      stops = λ l. rw call (R.stops (omega arith));
      refused = λ k q. rw (call, made) (R.refused k (ap (λ (r : Result). r.response) (sym call) ∙ q));
    }

at_once : (sh : Shape) (m : Memory) (a : Action) → OneByOne sh m a zero
unfolding narrow_call turns_after narrow_made
at_once sh m a = alone sh m a zero refl refl (λ l. absurd (omega arith))

-- A NARROW CALL IS ITS STARTS AND TURNS ONE BY ONE
pub one_by_one_lem : (sh : Shape) (m : Memory) (a : Action) (n : ℕ) → OneByOne sh m a n
one_by_one_lem sh m a zero = at_once sh m a
one_by_one_lem sh m a (suc n) = go (goes_on (narrow_act sh m a).response) refl (one_by_one_lem sh (narrow_act sh m a).memory (Step (actor a)) n)
  where
    go : (b : Bool) → goes_on (narrow_act sh m a).response ≡ b → OneByOne sh (narrow_act sh m a).memory (Step (actor a)) n → OneByOne sh m a (suc n)
    go true e R = further sh m a n e R
    go false e R = alone sh m a (suc n) (call_stops sh m a n e) (made_stops sh m a n e) (λ l. e)

-- ── what it keeps ──
-- what every start and turn of worker i keeps
call_keeps : (sh : Shape) (P : Memory → Type 0) (i : ℕ) → ((m : Memory) (a : Action) → actor a ≡ i → P m → P (narrow_act sh m a).memory)
    → (m : Memory) (a : Action) → actor a ≡ i → (n : ℕ) → P m → P (narrow_call sh m a n).memory
unfolding narrow_call turns_after
call_keeps sh P i keep m a own zero h = keep m a own h
call_keeps sh P i keep m a own (suc n) h =
    by_test (λ (r : Result). P r.memory) (goes_on (narrow_act sh m a).response)
    (λ e. call_keeps sh P i keep (narrow_act sh m a).memory (Step (actor a)) own n (keep m a own h)) (λ e. keep m a own h)

pub narrow_call_same_size : (sh : Shape) (m : Memory) (a : Action) (n : ℕ) → SameSize m (narrow_call sh m a n).memory
narrow_call_same_size sh m a n = call_keeps sh (SameSize m) (actor a) keep m a refl n (record { store = refl; table = refl })
  where
    keep : (k : Memory) (b : Action) → actor b ≡ actor a → SameSize m k → SameSize m (narrow_act sh k b).memory
    keep k b own h = let x = narrow_same_size sh k b in record { store = x.store ∙ h.store; table = x.table ∙ h.table }

pub narrow_call_same_beyond : (sh : Shape) (m : Memory) (a : Action) (n : ℕ) → SameBeyond sh m (narrow_call sh m a n).memory
narrow_call_same_beyond sh m a n = call_keeps sh (SameBeyond sh m) (actor a) keep m a refl n (record { store = refl; table = refl })
  where
    keep : (k : Memory) (b : Action) → actor b ≡ actor a → SameBeyond sh m k → SameBeyond sh m (narrow_act sh k b).memory
    keep k b own h = let x = narrow_same_beyond sh k b in record { store = x.store ∙ h.store; table = x.table ∙ h.table }

pub narrow_call_others_untouched : (sh : Shape) (m : Memory) (a : Action) (n j : ℕ) → j ≢ actor a
    → worker (narrow_call sh m a n).memory.table j ≡ worker m.table j
narrow_call_others_untouched sh m a n j other = call_keeps sh (λ k. worker k.table j ≡ worker m.table j) (actor a) keep m a refl n refl
  where
    keep : (k : Memory) (b : Action) → actor b ≡ actor a → worker k.table j ≡ worker m.table j
        → worker (narrow_act sh k b).memory.table j ≡ worker m.table j
    keep k b own h = narrow_others_untouched sh k b j (λ e. other (e ∙ own)) ∙ h

-- whatever the limit
pub narrow_call_refused : (sh : Shape) (m : Memory) (a : Action) (n : ℕ) → narrow_refusal sh m a ≢ 0
    → narrow_call sh m a n ≡ record { memory = m; response = Refused (narrow_refusal sh m a) }
unfolding narrow_call turns_after narrow_act
narrow_call_refused sh m a zero h = rw (ne_eqb (narrow_refusal sh m a) 0 h)
narrow_call_refused sh m a (suc n) h = rw (ne_eqb (narrow_refusal sh m a) 0 h)

-- ── whether it goes on ──
abbrev Goes : ℕ → Result → Type 0
Goes i r = (said r.response).number ≡ 0 → goes_on r.response ≡ in_progress (worker r.memory.table i)

act_goes : (sh : Shape) (m : Memory) (a : Action) → Goes (actor a) (narrow_act sh m a)
unfolding narrow_act
act_goes sh m a s = go (eqb (narrow_refusal sh m a) 0) refl s
  where
    go : (b : Bool) → eqb (narrow_refusal sh m a) 0 ≡ b
        → (said (cond b (perform sh m (actor a) (outcome sh m a)) (record { memory = m; response = Refused (narrow_refusal sh m a) })).response).number ≡ 0
        → goes_on (narrow_act sh m a).response ≡ in_progress (worker (narrow_act sh m a).memory.table (actor a))
    go true e s = narrow_goes sh m a (eqb-true (narrow_refusal sh m a) 0 e)
    go false e s = absurd (eqb-false (narrow_refusal sh m a) 0 e s)

pub narrow_call_goes : (sh : Shape) (m : Memory) (a : Action) (n : ℕ) → (said (narrow_call sh m a n).response).number ≡ 0
    → goes_on (narrow_call sh m a n).response ≡ in_progress (worker (narrow_call sh m a n).memory.table (actor a))
unfolding narrow_call turns_after
narrow_call_goes sh m a zero = act_goes sh m a
narrow_call_goes sh m a (suc n) =
    by_test (Goes (actor a)) (goes_on (narrow_act sh m a).response) (λ e. narrow_call_goes sh (narrow_act sh m a).memory (Step (actor a)) n)
    (λ e. act_goes sh m a)

pub narrow_call_spent : (sh : Shape) (m : Memory) (a : Action) (n : ℕ) → goes_on (narrow_call sh m a n).response ≡ true
    → narrow_made sh m a n ≡ a ∷ replicate n (Step (actor a))
narrow_call_spent sh m a n e =
    let R = one_by_one_lem sh m a n in
    let all : R.turns ≡ n = by_size R.turns n (λ l. never (sym (R.stops l) ∙ e)) (λ l. omega (arith, R.at_most)) in
    R.made ∙ ap (λ k. a ∷ replicate k (Step (actor a))) all
