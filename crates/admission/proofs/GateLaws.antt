-- Refusals 1 to 4 by the flag, before the worker's record is looked at: an action is refused by one of them, or by the first of its own.
--     gate_passed                     the first of 1 to 4; where there is none the flag is up and the worker exists
--     gate_with                      with a flag that says what the test for 3 says, it is the first of the memory's tests
--     usable                         what an action that the gate lets pass may count on
--     refusal_is, refused_is         the gate's refusal, or the first of its own, is the action's; what the gate refuses does nothing
--     turn_at_3                      nothing else refuses a turn at stage 3
--     open_gate_is                    the first of 1 and 2: an opening's refusal
--     open_passed                    where there is none: the limits of the shape, and enough words and records
--     gate_parts                     the gate's refusal is an opening's, or goes by the flag and the worker
--     gate_opens                     a flag down where 1 or 2 applies; an opening's refusals among the gate's
--     passes, flag_down              who passes; where only the flag is down the refusal is 3
--     shape_tests                     the flag by a look at every field; a shape within its limits passes its test
--     sound_opens, lent_passes       where that flag is up 1 and 2 do not apply; they do not where shape and lengths suffice
--     sound_watched                  it is a flag as `Watched` wants it
-- Assumes nothing.
use Rattle.std.specs.Prelude.{◌≡◌, refl, List, ◌++◌, Bool, true, false, cond, not, ◌&&◌, ◌≢◌, ℕ, ◌≤◌, ◌<◌, eqb, length}
use Rattle.std.proofs.Common.{sym, ap, ◌∙◌, arith}
use borrow.Author.Tests.{not-false, eqb-true, ltb-false, leb-false, le-leb, lt-leb, le-ltb, eq-eqb, ne_eqb}
use Rattle.arrival.specs.declared.Shape.{Shape}
use Rattle.arrival.specs.declared.Response.TheVariants.{Refused}
use Rattle.arrival.specs.declared.Action.{Action}
use Rattle.arrival.specs.declared.Action.TheVariants.{Step}
use Rattle.laws.specs.Tests.{neither}
use Rattle.calendar.specs.rules.Layout.{layout}
use Rattle.calendar.specs.rules.Ranges.{worker, shape_in_range, store_in_range, table_in_range}
use Rattle.calendar.specs.facts.RangeFacts.{Limits}
use Rattle.calendar.proofs.facts.RangeFacts.{limits}
use Rattle.calendar.specs.rules.Refusals.{bad_shape, short, too_short, out_of_range, length_tests, field_tests, memory_tests, memory_of, open_refusal}
use Rattle.laws.specs.FirstOf.{first_of, None, first_append, first_parts, first_none}
use Rattle.calendar.specs.facts.Accepted.{Lent, Usable}
use Rattle.calendar.proofs.facts.Accepted.{lent, memory_accepted}
use Rattle.calendar.proofs.facts.RefusalParts.{refusal_first}
use Rattle.calendar.specs.facts.RefusalParts.{own_of}
use Rattle.calendar.specs.rules.Operations.{Memory, actor, refusal, act}
use Rattle.admission.specs.Watched.{Watched}
use Rattle.admission.specs.Gate.{gate_of, open_gate, sound_of}

-- what no refusal of the gate's, or of an opening, tells
gate_none : (sh : Shape) (words records i : ℕ) (sound : Bool) → gate_of sh words records i sound ≡ 0
    → None (memory_tests sh (short sh words records) (not sound) i)
unfolding gate_of
gate_none sh words records i sound e = first_none (memory_tests sh (short sh words records) (not sound) i) refl e

pub gate_passed : (sh : Shape) (words records i : ℕ) (sound : Bool) → gate_of sh words records i sound ≡ 0 → (sound ≡ true) × (i < sh.workers)
gate_passed sh words records i sound e =
    let (one, (two, (three, (last, tt)))) = gate_none sh words records i sound e in
    (not-false sound three, leb-false sh.workers i last)

-- with a flag in the place of a test for 3, which says the same where 1 and 2 do not apply, the memory's tests give the same
pub gate_with : (sh : Shape) (m : Memory) (i : ℕ) (out sound : Bool) → (Lent sh m.store m.table → out ≡ not sound)
    → first_of (memory_tests sh (too_short sh m.store m.table) out i) ≡ gate_of sh (length m.store) (length m.table) i sound
unfolding gate_of
gate_with sh m i out sound h = go (bad_shape sh) (too_short sh m.store m.table) refl (λ one two. h (lent sh m.store m.table one two))
  where
    go : (a b : Bool) → bad_shape sh ≡ a → (bad_shape sh ≡ false → b ≡ false → out ≡ not sound)
        → first_of (memory_tests sh b out i) ≡ first_of (memory_tests sh b (not sound) i)
    go true b e h = rw e
    go false true e h = refl
    go false false e h = rw (h e refl)

module _ (sh : Shape) (m : Memory) (sound : Bool) (watched : Watched sh m sound) where
  abbrev gate : ℕ → ℕ
  gate i = gate_of sh (length m.store) (length m.table) i sound

  gate_is : (i : ℕ) → first_of (memory_of sh m.store m.table i) ≡ gate_of sh (length m.store) (length m.table) i sound
  gate_is i = gate_with sh m i (out_of_range sh m.store m.table) sound (λ l. ap not (sym (watched l)))

  -- what no refusal tells
  pub usable : (i : ℕ) → gate_of sh (length m.store) (length m.table) i sound ≡ 0 → Usable sh m.store m.table i
  usable i e = memory_accepted sh m.store m.table i (gate_is i ∙ e)

  gate_first : (i : ℕ) (own : List (ℕ × Bool)) → first_of (memory_of sh m.store m.table i ++ own) ≡ cond (eqb (gate i) 0) (first_of own) (gate i)
  gate_first i own =
      first_append (memory_of sh m.store m.table i) own refl
      ∙ ap (λ (k : ℕ). cond (eqb k 0) (first_of own) k) (gate_is i)

  pub refusal_is : (a : Action) → refusal sh m a ≡ cond (eqb (gate (actor a)) 0) (first_of (own_of sh m a)) (gate (actor a))
  refusal_is a = refusal_first sh m a ∙ gate_first (actor a) (own_of sh m a)

  pub refused_is : (a : Action) → gate_of sh (length m.store) (length m.table) (actor a) sound ≢ 0
      → record { memory = m; response = Refused (gate_of sh (length m.store) (length m.table) (actor a) sound) } ≡ act sh m a
  unfolding act
  refused_is a n = rw (refusal_is a, ne_eqb (gate (actor a)) 0 n, ne_eqb (gate (actor a)) 0 n)

  -- nothing refuses a turn at stage 3
  pub turn_at_3 : (i : ℕ) → gate_of sh (length m.store) (length m.table) i sound ≡ 0 → (worker m.table i).stage ≡ 3 → refusal sh m (Step i) ≡ 0
  turn_at_3 i z q =
      refusal_is (Step i) ∙ rw (
        eq-eqb (gate i) 0 z,
        ne_eqb (worker m.table i).stage 0 (λ e. omega arith),
        ne_eqb (worker m.table i).stage 7 (λ e. omega arith),
      ) refl

pub open_gate_is : (sh : Shape) (m : Memory) → open_gate sh (length m.store) (length m.table) ≡ open_refusal sh m.store m.table
unfolding open_gate open_refusal
open_gate_is sh m = refl

open_none : (sh : Shape) (words records : ℕ) → open_gate sh words records ≡ 0 → None (length_tests sh (short sh words records))
unfolding open_gate
open_none sh words records e = first_none (length_tests sh (short sh words records)) refl e

-- what no refusal of an opening tells
pub open_passed : (sh : Shape) (words records : ℕ) → open_gate sh words records ≡ 0 → Limits sh × (layout sh ≤ words) × (sh.workers ≤ records)
open_passed sh words records e =
    let (one, (few, tt)) = open_none sh words records e in
    let (store, table) = neither _ _ few in
    (limits sh (not-false _ one), ltb-false _ _ store, ltb-false _ _ table)

-- the gate's refusal is an opening's, or goes by the flag and the worker
pub gate_parts : (sh : Shape) (words records i : ℕ) (sound : Bool) → gate_of sh words records i sound
    ≡ cond (eqb (open_gate sh words records) 0) (first_of (field_tests sh (not sound) i)) (open_gate sh words records)
unfolding gate_of open_gate
gate_parts sh words records i sound = first_append (length_tests sh (short sh words records)) (field_tests sh (not sound) i) refl

-- an opening's refusals are among the gate's
pub gate_opens : (sh : Shape) (words records i : ℕ) (sound : Bool) → gate_of sh words records i sound ≡ 0 → open_gate sh words records ≡ 0
unfolding gate_of open_gate
gate_opens sh words records i sound e = (first_parts (length_tests sh (short sh words records)) (field_tests sh (not sound) i) refl e).0

-- a worker that exists passes where the flag is up and 1 and 2 do not apply
pub passes : (sh : Shape) (words records i : ℕ) (sound : Bool) → open_gate sh words records ≡ 0 → sound ≡ true → i < sh.workers
    → gate_of sh words records i sound ≡ 0
unfolding gate_of open_gate
passes sh words records i sound e up h =
    let (one, (short-of, tt)) = open_none sh words records e in
    rw (one, short-of, up, lt-leb sh.workers i h)

-- and where the flag is down it is refused by 3
pub flag_down : (sh : Shape) (words records i : ℕ) (sound : Bool) → open_gate sh words records ≡ 0 → sound ≡ false → gate_of sh words records i sound ≡ 3
unfolding gate_of open_gate
flag_down sh words records i sound e down =
    let (one, (short-of, tt)) = open_none sh words records e in
    rw (one, short-of, down)

pub shape_tests : (sh : Shape) → Limits sh → shape_in_range sh ≡ true
shape_tests sh l =
    rw (
      le-leb 1 sh.workers l.some_worker,
      le-leb sh.workers 64 l.workers,
      le-leb 1 sh.nodes l.some_node,
      le-leb sh.nodes 4096 l.nodes,
      le-leb 1 sh.buckets l.some_bucket,
      le-leb sh.buckets 256 l.buckets,
      le-leb 1 sh.width l.some_width,
      le-leb sh.width 65535 l.width,
    )

pub sound_opens : (sh : Shape) (s : List ℕ) (records : ℕ) (ok : Bool) → sound_of sh s records ok ≡ true → open_gate sh (length s) records ≡ 0
unfolding sound_of
sound_opens sh s records ok = go (eqb (open_gate sh (length s) records) 0) refl
  where
    go : (b : Bool) → eqb (open_gate sh (length s) records) 0 ≡ b → cond b (store_in_range sh s && ok) false ≡ true → open_gate sh (length s) records ≡ 0
    go true e up = eqb-true (open_gate sh (length s) records) 0 e
    go false e up = absurd (let z : ◌≡◌ {A = ℕ} 0 1 = cc in omega arith)

pub lent_passes : (sh : Shape) (m : Memory) → Lent sh m.store m.table → open_gate sh (length m.store) (length m.table) ≡ 0
unfolding open_gate
lent_passes sh m l =
    rw (shape_tests sh l.limits, le-ltb (length m.store) (layout sh) l.store, le-ltb (length m.table) sh.workers l.table)

pub sound_watched : (sh : Shape) (m : Memory) (ok : Bool) → (Lent sh m.store m.table → ok ≡ table_in_range sh m.table)
    → Watched sh m (sound_of sh m.store (length m.table) ok)
unfolding sound_of
sound_watched sh m ok h l = rw (eq-eqb _ 0 (lent_passes sh m l), h l)
