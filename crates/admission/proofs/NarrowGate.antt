-- Refusals 1 to 4 of a narrow start or turn, by a flag: the three first words are in range, and `ok`, the records that it looks at.
--     near_opens                      the flag; where it is up 1 and 2 do not apply
--     near_bad .. near_long          the flag by shape and lengths
--     laid_long                      and a store that is long enough is laid out
--     near_passed                    what a narrow action that the gate lets pass may count on
--     narrow_first, narrow_away      the gate's refusal, or the first of its own, is the narrow action's; what the gate refuses does nothing
-- Assumes nothing.
use Rattle.std.specs.Prelude.{◌≡◌, List, Bool, true, false, ◌&&◌, ◌≢◌, ℕ, eqb, length}
use Rattle.std.proofs.Math.Path.{refl, ap}
use Rattle.std.proofs.Common.{sym, ◌∙◌, arith}
use Rattle.std.proofs.Math.Bool.{cond, not}
use borrow.Author.Tests.{eqb-true, eq-eqb, ne_eqb, ltb-false}
use Rattle.arrival.specs.declared.Shape.{Shape}
use Rattle.arrival.specs.declared.Action.{Action}
use Rattle.arrival.specs.declared.Response.TheVariants.{Refused}
use Rattle.laws.specs.Tests.{parts, neither}
use Rattle.calendar.specs.rules.Ranges.{shape_in_range, words_in_range}
use Rattle.calendar.specs.rules.Refusals.{short, too_short, memory_tests}
use Rattle.calendar.specs.rules.Operations.{Memory, actor}
use Rattle.calendar.specs.rules.NarrowCalls.{records_in_range, narrow_out, narrow_refusal, narrow_act}
use Rattle.laws.specs.FirstOf.{first_of, first_append}
use Rattle.calendar.specs.facts.Accepted.{Lent}
use Rattle.calendar.proofs.facts.RangeFacts.{limits, word_ranges}
use Rattle.words.specs.Laid.{Laid, laid}
use Rattle.admission.specs.Gate.{gate_of, open_gate}
use Rattle.admission.specs.Gate.{own_of}
use Rattle.admission.proofs.GateLaws.{gate_with, gate_passed, gate_opens, open_passed, lent_passes}
use Rattle.admission.specs.NarrowGate.{near_of, RecordsSeen, Near}

pub near_opens : (sh : Shape) (s : List ℕ) (records : ℕ) (ok : Bool) → near_of sh s records ok ≡ true → open_gate sh (length s) records ≡ 0
unfolding near_of
near_opens sh s records ok = go (eqb (open_gate sh (length s) records) 0) refl
  where
    go : (b : Bool) → eqb (open_gate sh (length s) records) 0 ≡ b → cond b (words_in_range sh s && ok) false ≡ true → open_gate sh (length s) records ≡ 0
    go true e up = eqb-true (open_gate sh (length s) records) 0 e
    go false e up = absurd (let z : ◌≡◌ {A = ℕ} 0 1 = cc in omega arith)

-- by shape and lengths, one after the other
module _ (sh : Shape) (s : List ℕ) (records : ℕ) (ok : Bool) where
  pub near_bad : shape_in_range sh ≡ false → near_of sh s records ok ≡ false
  unfolding near_of open_gate
  near_bad e = rw e

  pub near_short : shape_in_range sh ≡ true → short sh (length s) records ≡ true → near_of sh s records ok ≡ false
  unfolding near_of open_gate
  near_short e f = rw (e, f)

  pub near_long : shape_in_range sh ≡ true → short sh (length s) records ≡ false → near_of sh s records ok ≡ (words_in_range sh s && ok)
  unfolding near_of open_gate
  near_long e f = rw (e, f)

pub laid_long : (sh : Shape) (s : List ℕ) (records : ℕ) → shape_in_range sh ≡ true → short sh (length s) records ≡ false → Laid sh s
laid_long sh s records e f = laid sh s (limits sh e) (ltb-false _ _ (neither _ _ f).0)

module _ (sh : Shape) (m : Memory) (a : Action) (ok : Bool) (seen : RecordsSeen sh m a ok) where
  abbrev near : ℕ
  near = gate_of sh (length m.store) (length m.table) (actor a) (near_of sh m.store (length m.table) ok)

  in_lent : Lent sh m.store m.table → near_of sh m.store (length m.table) ok ≡ (words_in_range sh m.store && records_in_range sh m.table a)
  unfolding near_of
  in_lent l = rw (eq-eqb _ 0 (lent_passes sh m l), seen l)

  pub near_passed : gate_of sh (length m.store) (length m.table) (actor a) (near_of sh m.store (length m.table) ok) ≡ 0 → Near sh m a
  near_passed e =
      let (up, exists) = gate_passed sh (length m.store) (length m.table) (actor a) _ e in
      let p = open_passed sh (length m.store) (length m.table) (gate_opens sh (length m.store) (length m.table) (actor a) _ e) in
      let l : Lent sh m.store m.table = record { limits = p.0; store = p.1; table = p.2 } in
      let (words, records) = parts (words_in_range sh m.store) (records_in_range sh m.table a) (sym (in_lent l) ∙ up) in
      record { lent = l; words = word_ranges sh m.store words; records = records; exists = exists }

  pub narrow_first : narrow_refusal sh m a ≡ cond (eqb near 0) (first_of (own_of sh m a)) near
  unfolding narrow_refusal
  narrow_first =
      first_append (memory_tests sh (too_short sh m.store m.table) (narrow_out sh m.store m.table a) (actor a)) (own_of sh m a) refl
      ∙ ap (λ (k : ℕ). cond (eqb k 0) (first_of (own_of sh m a)) k)
      (gate_with sh m (actor a) (narrow_out sh m.store m.table a) (near_of sh m.store (length m.table) ok) (λ l. ap not (sym (in_lent l))))

  pub narrow_away : gate_of sh (length m.store) (length m.table) (actor a) (near_of sh m.store (length m.table) ok) ≢ 0
      → record {
        memory = m;
        response = Refused (gate_of sh (length m.store) (length m.table) (actor a) (near_of sh m.store (length m.table) ok));
      } ≡ narrow_act sh m a
  unfolding narrow_act
  narrow_away n = rw (narrow_first, ne_eqb near 0 n, ne_eqb near 0 n)
