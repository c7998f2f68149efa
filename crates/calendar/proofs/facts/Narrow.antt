-- Narrow starts and turns: where store and table are in range they are those of Operations; on any memory they keep what those keep.
--     words_of_store                           a store in range has its three first words in range
--     narrow_same                              in range: the same memory and response
--     narrow_same_unless_3, narrow_3_is_3      on any memory, unless the operation is refused by 3; what is refused by 3 here is so there
--     narrow_said                              what is accepted answers no refusal
--     narrow_refused_untouched                 what is refused changes nothing
--     narrow_same_size, narrow_same_beyond     lengths stay, and what lies beyond
--     narrow_others_untouched                  other workers' records stay
-- Assumes nothing.
use Rattle.std.specs.Prelude.{◌≡◌, refl, List, ◌∷◌, ◌++◌, Bool, true, false, ◌||◌, ◌≢◌, ℕ, suc}
use Rattle.std.proofs.Common.{sym, ap, ◌∙◌, get_or-set_other, leb-false}
use Rattle.std.proofs.Math.Decide.{ℕ_discrete}
use Rattle.std.proofs.lemmas.Bool.{not-false}
use Rattle.arrival.specs.declared.Shape.{Shape}
use Rattle.arrival.specs.declared.Worker.{Worker}
use Rattle.arrival.specs.declared.Action.{Action}
use Rattle.arrival.specs.declared.Action.TheVariants.{Enqueue, Dequeue, Step}
use Rattle.arrival.specs.declared.Response.TheVariants.{Refused}
use Rattle.arrival.specs.Responses.{said}
use Rattle.laws.proofs.Counting.{every_at}
use Rattle.laws.specs.Tests.{parts, left_true}
use Rattle.calendar.specs.rules.Ranges.{blank, words_in_range, record_in_range, store_in_range, table_in_range, worker}
use Rattle.calendar.specs.rules.Refusals.{bad_shape, too_short, out_of_range, no_worker, memory_tests}
use Rattle.laws.specs.FirstOf.{first_of}
use Rattle.calendar.specs.rules.Operations.{Memory, unless, perform, actor, refusal, outcome, act}
use Rattle.calendar.specs.rules.NarrowCalls.{own_in_range, records_in_range, narrow_out, narrow_refusal, narrow_act}
use Rattle.calendar.specs.facts.RefusalParts.{own_of}
use Rattle.calendar.proofs.facts.RefusalParts.{refusal_first}
use Rattle.calendar.specs.facts.Untouched.{SameSize, SameBeyond}
use Rattle.calendar.proofs.facts.Untouched.{refused, rule_said, by_refusal, perform_size, perform_beyond, rule_inside}
use Rattle.calendar.proofs.facts.NarrowAccepted.{narrow_parts, narrow_accepted, narrow_passes}

-- ── in range ──
-- of what the operation looks at, this is a part
pub words_of_store : (sh : Shape) (s : List ℕ) → store_in_range sh s ≡ true → words_in_range sh s ≡ true
unfolding store_in_range
words_of_store sh s e = left_true (words_in_range sh s) _ (left_true _ _ e)

own_of_table : (sh : Shape) (t : List Worker) (i : ℕ) → table_in_range sh t ≡ true → own_in_range sh t i ≡ true
unfolding table_in_range
own_of_table sh t i e = go (no_worker sh i) refl
  where
    go : (b : Bool) → no_worker sh i ≡ b → (b || record_in_range sh (worker t i)) ≡ true
    go true q = refl
    go false q = every_at _ _ e i (leb-false _ _ q)

records_of_table : (sh : Shape) (t : List Worker) (a : Action) → table_in_range sh t ≡ true → records_in_range sh t a ≡ true
records_of_table sh t (Enqueue i x) e = e
records_of_table sh t (Dequeue i) e = own_of_table sh t i e
records_of_table sh t (Step i) e = own_of_table sh t i e

in_range_lem : (sh : Shape) (s : List ℕ) (t : List Worker) (a : Action) → out_of_range sh s t ≡ false → narrow_out sh s t a ≡ false
in_range_lem sh s t a e =
    let (p, q) = parts (store_in_range sh s) (table_in_range sh t) (not-false _ e) in
    rw (words_of_store sh s p, records_of_table sh t a q)

-- one refusal for another, one result for another
by_number : (sh : Shape) (m : Memory) (a : Action) → narrow_refusal sh m a ≡ refusal sh m a → narrow_act sh m a ≡ act sh m a
unfolding act narrow_act
by_number sh m a e = ap (λ k. unless k m (perform sh m (actor a) (outcome sh m a))) e

-- WHERE STORE AND TABLE ARE IN RANGE A NARROW START OR TURN IS THE START OR TURN
pub narrow_same : (sh : Shape) (m : Memory) (a : Action) → store_in_range sh m.store ≡ true → table_in_range sh m.table ≡ true
    → narrow_act sh m a ≡ act sh m a
narrow_same sh m a p q =
    let ranged : out_of_range sh m.store m.table ≡ false = rw (p, q) in
    let tests : Bool → ℕ = λ out. first_of (memory_tests sh (too_short sh m.store m.table) out (actor a) ++ own_of sh m a) in
    by_number sh m a (narrow_parts sh m a ∙ ap tests (in_range_lem sh m.store m.table a ranged ∙ sym ranged) ∙ sym (refusal_first sh m a))

-- ── where it is not ──
-- two lists that differ in 3 only, whose first does not have it where the second does not
but_for_3 : (one two narrow wide : Bool) (behind : List (ℕ × Bool)) → (wide ≡ false → narrow ≡ false)
    → first_of ((1, one) ∷ (2, two) ∷ (3, wide) ∷ behind) ≢ 3
    → first_of ((1, one) ∷ (2, two) ∷ (3, narrow) ∷ behind) ≡ first_of ((1, one) ∷ (2, two) ∷ (3, wide) ∷ behind)
but_for_3 true two narrow wide behind less n = refl
but_for_3 false true narrow wide behind less n = refl
but_for_3 false false narrow true behind less n = absurd (n refl)
but_for_3 false false narrow false behind less n = rw (less refl)

refusal_same : (sh : Shape) (m : Memory) (a : Action) → refusal sh m a ≢ 3 → narrow_refusal sh m a ≡ refusal sh m a
refusal_same sh m a n =
    narrow_parts sh m a
    ∙ but_for_3 (bad_shape sh) (too_short sh m.store m.table) (narrow_out sh m.store m.table a) (out_of_range sh m.store m.table)
    ((4, no_worker sh (actor a)) ∷ own_of sh m a) (in_range_lem sh m.store m.table a) (λ e. n (refusal_first sh m a ∙ e))
    ∙ sym (refusal_first sh m a)

pub narrow_same_unless_3 : (sh : Shape) (m : Memory) (a : Action) → refusal sh m a ≢ 3 → narrow_act sh m a ≡ act sh m a
narrow_same_unless_3 sh m a n = by_number sh m a (refusal_same sh m a n)

pub narrow_3_is_3 : (sh : Shape) (m : Memory) (a : Action) → narrow_refusal sh m a ≡ 3 → refusal sh m a ≡ 3
narrow_3_is_3 sh m a e = go (ℕ_discrete (refusal sh m a) 3)
  where
    go : Dec (refusal sh m a ≡ 3) → refusal sh m a ≡ 3
    go (yes q) = q
    go (no n) = sym (refusal_same sh m a n) ∙ e

-- ── on any memory ──
pub narrow_said : (sh : Shape) (m : Memory) (a : Action) → narrow_refusal sh m a ≡ 0 → (said (outcome sh m a).response).number ≡ 0
narrow_said sh m a e = rule_said sh m a (narrow_accepted sh m a e).own (narrow_passes sh m a e)

pub narrow_refused_untouched : (sh : Shape) (m : Memory) (a : Action) (n : ℕ) → (narrow_act sh m a).response ≡ Refused (suc n) → (narrow_act sh m a).memory ≡ m
unfolding narrow_act
narrow_refused_untouched sh m a n e = refused (narrow_refusal sh m a) n m (perform sh m (actor a) (outcome sh m a)) (narrow_said sh m a) e

pub narrow_same_size : (sh : Shape) (m : Memory) (a : Action) → SameSize m (narrow_act sh m a).memory
unfolding narrow_act
narrow_same_size sh m a =
    by_refusal (SameSize m) (narrow_refusal sh m a) m (perform sh m (actor a) (outcome sh m a)) (record { store = refl; table = refl })
    (λ e. perform_size sh m (actor a) (outcome sh m a))

pub narrow_same_beyond : (sh : Shape) (m : Memory) (a : Action) → SameBeyond sh m (narrow_act sh m a).memory
unfolding narrow_act
narrow_same_beyond sh m a =
    by_refusal (SameBeyond sh m) (narrow_refusal sh m a) m (perform sh m (actor a) (outcome sh m a)) (record { store = refl; table = refl })
    (λ e. let A = narrow_accepted sh m a e in
    perform_beyond sh m (actor a) (outcome sh m a) A.exists (rule_inside sh m a A.words.last A.own (narrow_passes sh m a e)))

pub narrow_others_untouched : (sh : Shape) (m : Memory) (a : Action) (j : ℕ) → j ≢ actor a
    → worker (narrow_act sh m a).memory.table j ≡ worker m.table j
unfolding narrow_act
narrow_others_untouched sh m a j h =
    by_refusal (λ n. worker n.table j ≡ worker m.table j) (narrow_refusal sh m a) m (perform sh m (actor a) (outcome sh m a)) refl
    (λ e. get_or-set_other m.table (actor a) j (outcome sh m a).worker blank h)
