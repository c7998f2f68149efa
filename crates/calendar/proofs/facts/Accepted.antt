-- What an operation that is not refused may count on.
--     lent, open_accepted                                   an opening that is not refused has the first
--     memory_accepted                                       an action that the memory's tests let pass has the second
--     enqueue_passed, dequeue_passed, step_passed           an action that its own tests let pass may count on what they look at
--     enqueue_accepted, dequeue_accepted, step_accepted     an action that is not refused has its own
-- Assumes nothing.
use Rattle.std.specs.Prelude.{◌≡◌, refl, List, false, ◌≢◌, ℕ}
use Rattle.std.proofs.lemmas.Bool.{not-false, eqb-false, not-true}
use Rattle.std.proofs.Common.{ltb-true, ltb-false, leb-false, leb-true, eqb-true}
use Rattle.arrival.specs.declared.Shape.{Shape}
use Rattle.arrival.specs.declared.Arrival.{Arrival}
use Rattle.arrival.specs.declared.Worker.{Worker}
use Rattle.laws.specs.Tests.{parts, neither}
use Rattle.calendar.specs.rules.Layout.{started}
use Rattle.calendar.specs.rules.Ranges.{worker, store_in_range, table_in_range}
use Rattle.calendar.proofs.facts.RangeFacts.{limits, store_ranges, table_ranges}
use Rattle.calendar.specs.rules.Refusals.{bad_shape, too_short, no_ticket, no_epoch, no_node, open_tests, memory_of, enqueue_own, dequeue_own, step_own}
use Rattle.calendar.specs.rules.Refusals.{open_refusal, enqueue_refusal, dequeue_refusal, step_refusal}
use Rattle.laws.specs.FirstOf.{first_of, first_parts, first_none}
use Rattle.calendar.specs.facts.Accepted.{Lent, Usable, EnqueueAccepted, DequeueAccepted, StepAccepted, EnqueuePassed}

pub lent : (sh : Shape) (s : List ℕ) (t : List Worker) → bad_shape sh ≡ false → too_short sh s t ≡ false → Lent sh s t
lent sh s t one two =
    let (p, q) = neither _ _ two in
    record { limits = limits sh (not-false _ one); store = ltb-false _ _ p; table = ltb-false _ _ q }

pub open_accepted : (sh : Shape) (s : List ℕ) (t : List Worker) → open_refusal sh s t ≡ 0 → Lent sh s t
unfolding open_refusal
open_accepted sh s t e =
    let (one, (two, last)) = first_none (open_tests sh s t) refl e in
    lent sh s t one two

pub memory_accepted : (sh : Shape) (s : List ℕ) (t : List Worker) (i : ℕ) → first_of (memory_of sh s t i) ≡ 0 → Usable sh s t i
memory_accepted sh s t i e =
    let (one, (two, (three, (four, last)))) = first_none (memory_of sh s t i) refl e in
    let (p, q) = parts (store_in_range sh s) (table_in_range sh t) (not-false _ three) in
    record { lent = lent sh s t one two; store = store_ranges sh s p; table = table_ranges sh t q; exists = leb-false _ _ four }

pub enqueue_passed : (sh : Shape) (s : List ℕ) (t : List Worker) (i : ℕ) (a : Arrival)
    → first_of (enqueue_own a (worker t i) (no_ticket sh s) (no_node sh s t)) ≡ 0 → EnqueuePassed sh s t i a
enqueue_passed sh s t i a e =
    let (five, (nine, (eleven, (twelve, last)))) = first_none (enqueue_own a (worker t i) (no_ticket sh s) (no_node sh s t)) refl e in
    let (p, far) = parts _ _ (not-false _ five) in
    let (p, order) = parts _ _ p in
    let (time, path) = parts _ _ p in
    let (some_distance, distance) = parts _ _ far in
    record {
      path = leb-true _ _ path;
      order = leb-true _ _ order;
      some_distance = leb-true _ _ some_distance;
      distance = leb-true _ _ distance;
      time = ltb-true _ _ time;
      idle = eqb-true _ _ (not-false _ nine);
      ticket = eqb-false _ _ eleven;
      node = eqb-false _ _ twelve;
    }

pub dequeue_passed : (sh : Shape) (s : List ℕ) (w : Worker) → first_of (dequeue_own w (no_ticket sh s)) ≡ 0 → (w.stage ≡ 0) × (started sh s ≢ 4294967295)
dequeue_passed sh s w e =
    let (nine, (eleven, last)) = first_none (dequeue_own w (no_ticket sh s)) refl e in
    (eqb-true _ _ (not-false _ nine), eqb-false _ _ eleven)

pub step_passed : (sh : Shape) (s : List ℕ) (w : Worker) → first_of (step_own sh s w) ≡ 0 → (w.stage ≢ 0) × (no_epoch sh s w ≡ false)
step_passed sh s w e =
    let (ten, (eleven, last)) = first_none (step_own sh s w) refl e in
    (eqb-false _ _ (not-true _ (not-false _ ten)), eleven)

-- ── an action that is not refused ──
pub enqueue_accepted : (sh : Shape) (s : List ℕ) (t : List Worker) (i : ℕ) (a : Arrival) → enqueue_refusal sh s t i a ≡ 0 → EnqueueAccepted sh s t i a
unfolding enqueue_refusal
enqueue_accepted sh s t i a e =
    let (z, own) = first_parts (memory_of sh s t i) (enqueue_own a (worker t i) (no_ticket sh s) (no_node sh s t)) refl e in
    let P = enqueue_passed sh s t i a own in
    record {
      usable = memory_accepted sh s t i z;
      path = P.path;
      order = P.order;
      some_distance = P.some_distance;
      distance = P.distance;
      time = P.time;
      idle = P.idle;
      ticket = P.ticket;
      node = P.node;
    }

pub dequeue_accepted : (sh : Shape) (s : List ℕ) (t : List Worker) (i : ℕ) → dequeue_refusal sh s t i ≡ 0 → DequeueAccepted sh s t i
unfolding dequeue_refusal
dequeue_accepted sh s t i e =
    let (z, own) = first_parts (memory_of sh s t i) (dequeue_own (worker t i) (no_ticket sh s)) refl e in
    let (idle, ticket) = dequeue_passed sh s (worker t i) own in
    record { usable = memory_accepted sh s t i z; idle = idle; ticket = ticket }

pub step_accepted : (sh : Shape) (s : List ℕ) (t : List Worker) (i : ℕ) → step_refusal sh s t i ≡ 0 → StepAccepted sh s t i
unfolding step_refusal
step_accepted sh s t i e =
    let (z, own) = first_parts (memory_of sh s t i) (step_own sh s (worker t i)) refl e in
    let (busy, epoch) = step_passed sh s (worker t i) own in
    record { usable = memory_accepted sh s t i z; busy = busy; epoch = epoch }
