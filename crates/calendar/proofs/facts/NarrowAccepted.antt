-- What a narrow start or turn looks at, what refuses it by 3, and what one that is not refused may count on.
--     narrow_parts                 its refusal is the first of 1 to 4, and behind them of its own
--     narrow_3_words               one of the three first words out of range: refused by 3, where 1 and 2 do not apply;
--     narrow_3_any                 so is a put by the record of any worker,
--     narrow_3_own                 and any start or turn by that of its own
--     narrow_looks                 where what it looks at is the same, so is the refusal
--     narrow_accepted              one that is not refused has them;
--     narrow_records               a put has all records;
--     narrow_passes                and none of its own refusals applies
-- Assumes nothing.
use Rattle.std.specs.Prelude.{◌≡◌, refl, List, ◌++◌, Bool, true, false, ◌||◌, ℕ, ◌<◌}
use Rattle.std.proofs.Common.{sym, ap, ◌∙◌, leb-false}
use Rattle.std.proofs.Math.Bool.{and-false}
use Rattle.std.proofs.lemmas.Bool.{not-false, lt-leb}
use Rattle.arrival.specs.declared.Shape.{Shape}
use Rattle.arrival.specs.declared.Arrival.{Arrival}
use Rattle.arrival.specs.declared.Worker.{Worker}
use Rattle.arrival.specs.declared.Action.{Action}
use Rattle.arrival.specs.declared.Action.TheVariants.{Enqueue, Dequeue, Step}
use Rattle.laws.proofs.Counting.{every_at, every_fails, every_same}
use Rattle.laws.specs.Tests.{parts}
use Rattle.calendar.specs.rules.Ranges.{words_in_range, record_in_range, table_in_range, worker}
use Rattle.calendar.specs.rules.Refusals.{bad_shape, too_short, no_worker}
use Rattle.calendar.specs.rules.Operations.{Memory, actor}
use Rattle.calendar.specs.rules.NarrowCalls.{own_in_range, records_in_range, narrow_out, narrow_refusal}
use Rattle.calendar.specs.facts.RangeFacts.{RecordRanges}
use Rattle.calendar.proofs.facts.RangeFacts.{word_ranges, record_ranges, table_ranges}
use Rattle.calendar.proofs.facts.Accepted.{lent}
use Rattle.laws.specs.FirstOf.{first_of, first_parts, first_behind, first_none}
use Rattle.calendar.specs.facts.RefusalParts.{own_of}
use Rattle.calendar.specs.facts.NarrowAccepted.{narrow_memory, SameLooked, NarrowAccepted}

pub narrow_parts : (sh : Shape) (m : Memory) (a : Action) → narrow_refusal sh m a ≡ first_of (narrow_memory sh m a ++ own_of sh m a)
unfolding narrow_refusal
narrow_parts sh m a = refl

take_looks : (sh : Shape) (m m' : Memory) (i : ℕ) → SameLooked sh m m' (Dequeue i) → narrow_refusal sh m (Dequeue i) ≡ narrow_refusal sh m' (Dequeue i)
unfolding narrow_refusal
take_looks sh m m' i S = rw (S.records, S.size.store, S.size.table, S.current, S.started, S.last)

turn_looks : (sh : Shape) (m m' : Memory) (i : ℕ) → SameLooked sh m m' (Step i) → narrow_refusal sh m (Step i) ≡ narrow_refusal sh m' (Step i)
unfolding narrow_refusal
turn_looks sh m m' i S = rw (S.records, S.size.store, S.size.table, S.current, S.started, S.last)

-- ── refused by 3 ──
module _ (sh : Shape) (m : Memory) (one : bad_shape sh ≡ false) (two : too_short sh m.store m.table ≡ false) where
  by_3 : (a : Action) → narrow_out sh m.store m.table a ≡ true → narrow_refusal sh m a ≡ 3
  unfolding narrow_refusal
  by_3 a out = rw (one, two, out)

  pub narrow_3_words : (a : Action) → words_in_range sh m.store ≡ false → narrow_refusal sh m a ≡ 3
  narrow_3_words a out = by_3 a (rw out)

  records_out : (a : Action) → records_in_range sh m.table a ≡ false → narrow_refusal sh m a ≡ 3
  records_out a out = by_3 a (rw (out, and-false (words_in_range sh m.store)))

  table_out : (j : ℕ) → j < sh.workers → record_in_range sh (worker m.table j) ≡ false → table_in_range sh m.table ≡ false
  unfolding table_in_range
  table_out j l out = every_fails (λ i. record_in_range sh (worker m.table i)) sh.workers j l out

  pub narrow_3_any : (i : ℕ) (x : Arrival) (j : ℕ) → j < sh.workers → record_in_range sh (worker m.table j) ≡ false → narrow_refusal sh m (Enqueue i x) ≡ 3
  narrow_3_any i x j l out = records_out (Enqueue i x) (table_out j l out)

  own_out : (i : ℕ) → i < sh.workers → record_in_range sh (worker m.table i) ≡ false → own_in_range sh m.table i ≡ false
  own_out i l out = rw (lt-leb sh.workers i l, out)

  pub narrow_3_own : (a : Action) → actor a < sh.workers → record_in_range sh (worker m.table (actor a)) ≡ false → narrow_refusal sh m a ≡ 3
  narrow_3_own (Enqueue i x) l out = records_out (Enqueue i x) (table_out i l out)
  narrow_3_own (Dequeue i) l out = records_out (Dequeue i) (own_out i l out)
  narrow_3_own (Step i) l out = records_out (Step i) (own_out i l out)

-- ── nothing else is looked at ──
put_looks : (sh : Shape) (m m' : Memory) (i : ℕ) (x : Arrival) → SameLooked sh m m' (Enqueue i x)
    → narrow_refusal sh m (Enqueue i x) ≡ narrow_refusal sh m' (Enqueue i x)
unfolding table_in_range
put_looks sh m m' i x S =
    let a = Enqueue i x in
    let tables : table_in_range sh m.table ≡ table_in_range sh m'.table =
    every_same (λ j. record_in_range sh (worker m.table j)) (λ j. record_in_range sh (worker m'.table j)) sh.workers
    (λ j l. ap (record_in_range sh) (S.records.0 j l)) in
    let memory : narrow_memory sh m a ≡ narrow_memory sh m' a = rw (S.size.store, S.size.table, S.current, S.started, S.last, tables) in
    narrow_parts sh m a
    ∙ ap (λ (xs : List (ℕ × Bool)). first_of (xs ++ own_of sh m a)) memory
    ∙ first_behind (narrow_memory sh m' a) (own_of sh m a) (own_of sh m' a)
    (λ e. let (one, (two, (three, (four, last)))) = first_none (narrow_memory sh m' a) refl e in
    rw (S.records.0 i (leb-false _ _ four), S.records.1, S.started))
    ∙ sym (narrow_parts sh m' a)

pub narrow_looks : (sh : Shape) (m m' : Memory) (a : Action) → SameLooked sh m m' a → narrow_refusal sh m a ≡ narrow_refusal sh m' a
narrow_looks sh m m' (Enqueue i x) S = put_looks sh m m' i x S
narrow_looks sh m m' (Dequeue i) S = take_looks sh m m' i S
narrow_looks sh m m' (Step i) S = turn_looks sh m m' i S

-- the table's test is its worker's too
own_of_table : (sh : Shape) (t : List Worker) (i : ℕ) → table_in_range sh t ≡ true → no_worker sh i ≡ false → record_in_range sh (worker t i) ≡ true
unfolding table_in_range
own_of_table sh t i e four = every_at _ _ e i (leb-false _ _ four)

own_of_own : (sh : Shape) (t : List Worker) (i : ℕ) → own_in_range sh t i ≡ true → no_worker sh i ≡ false → record_in_range sh (worker t i) ≡ true
own_of_own sh t i e four = sym (ap (λ b. b || record_in_range sh (worker t i)) four) ∙ e

own_of_lem : (sh : Shape) (t : List Worker) (a : Action) → records_in_range sh t a ≡ true → no_worker sh (actor a) ≡ false
    → record_in_range sh (worker t (actor a)) ≡ true
own_of_lem sh t (Enqueue i x) e four = own_of_table sh t i e four
own_of_lem sh t (Dequeue i) e four = own_of_own sh t i e four
own_of_lem sh t (Step i) e four = own_of_own sh t i e four

pub narrow_accepted : (sh : Shape) (m : Memory) (a : Action) → narrow_refusal sh m a ≡ 0 → NarrowAccepted sh m a
narrow_accepted sh m a e =
    let (z, own) = first_parts (narrow_memory sh m a) (own_of sh m a) refl (sym (narrow_parts sh m a) ∙ e) in
    let (one, (two, (three, (four, last)))) = first_none (narrow_memory sh m a) refl z in
    let (words, records) = parts (words_in_range sh m.store) (records_in_range sh m.table a) (not-false _ three) in
    record {
      lent = lent sh m.store m.table one two;
      words = word_ranges sh m.store words;
      exists = leb-false _ _ four;
      own = record_ranges sh (worker m.table (actor a)) (own_of_lem sh m.table a records four);
    }

pub narrow_records : (sh : Shape) (m : Memory) (i : ℕ) (x : Arrival) → narrow_refusal sh m (Enqueue i x) ≡ 0
    → (j : ℕ) → j < sh.workers → RecordRanges sh (worker m.table j)
narrow_records sh m i x e =
    let a = Enqueue i x in
    let (z, own) = first_parts (narrow_memory sh m a) (own_of sh m a) refl (sym (narrow_parts sh m a) ∙ e) in
    let (one, (two, (three, (four, last)))) = first_none (narrow_memory sh m a) refl z in
    table_ranges sh m.table (parts (words_in_range sh m.store) (table_in_range sh m.table) (not-false _ three)).1

pub narrow_passes : (sh : Shape) (m : Memory) (a : Action) → narrow_refusal sh m a ≡ 0 → first_of (own_of sh m a) ≡ 0
narrow_passes sh m a e = (first_parts (narrow_memory sh m a) (own_of sh m a) refl (sym (narrow_parts sh m a) ∙ e)).1
