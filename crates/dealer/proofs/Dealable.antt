-- A dealt turn on memory that 1, 2 and 4 do not refuse and that is in range as far as it was looked at.
--     refusal_is                 only 3 and 16 are left
--     none_served                16
--     record_out                 3, by the record of the worker to be served
--     admits                     the turn may be worked on
--     served_is                  the dealt turn is the turn of its record, put back
--     keeps_on, leaked           past a turn that goes on: as before; or, where it leaks, 3
-- Assumes nothing.
use Rattle.std.specs.Prelude.{◌≡◌, refl, Bool, true, false, cond, not, ◌||◌, ◌≢◌, ℕ, ◌<◌, length, set}
use Rattle.std.proofs.Common.{sym, ap, subst, ◌∙◌, arith, length-set}
use Rattle.std.proofs.Math.Bool.{or-false}
use Rattle.std.proofs.lemmas.Bool.Decides.{nat_tests}
use Rattle.laws.specs.Tests.{never}
use borrow.Author.Tests.{eq-eqb, ne_eqb, lt-leb, le-ltb}
use Rattle.arrival.specs.declared.Shape.{Shape}
use Rattle.arrival.specs.declared.Worker.{Worker}
use Rattle.arrival.specs.declared.Action.TheVariants.{Step}
use Rattle.calendar.specs.rules.Layout.{layout}
use Rattle.calendar.specs.rules.Ranges.{worker, record_in_range}
use Rattle.calendar.specs.rules.Operations.{Memory, Result, act}
use Rattle.calendar.specs.rules.NarrowCalls.{goes_on, turns_after, narrow_call}
use Rattle.calendar.specs.rules.HostHistory.{requested}
use Rattle.calendar.specs.facts.RangeFacts.{WordRanges}
use Rattle.calendar.proofs.facts.RangeFacts.{word_tests, record_ranges}
use Rattle.calendar.specs.facts.RangesKept.{leaks}
use Rattle.calendar.specs.facts.Accepted.{Lent}
use Rattle.words.specs.Done.{Done}
use Rattle.words.specs.Laid.{laid}
use Rattle.admission.specs.Watched.{in_range, Watched}
use Rattle.admission.specs.Gate.{gate_of, open_gate}
use Rattle.admission.proofs.GateLaws.{shape_tests, lent_passes, passes, usable}
use Rattle.admission.specs.NarrowGate.{near_of}
use Rattle.operation.specs.LocalAct.{local_act, Admitted, back}
use Rattle.operation.proofs.LocalAct.{admitted, act_is, narrow_is}
use Rattle.operation.proofs.LocalTurns.{act_length, going}
use Rattle.operation.proofs.LeakLaws.{act_watched}
use Rattle.dealer.specs.Dealing.{next_served, all_idle, deal_out, deal_refusal, turn_of, serving, turned_away, dealt}
use Rattle.dealer.specs.Dealable.{Kept, Dealable, MayTurn, leaks_of}

module _ (whole : Bool) (sh : Shape) (m : Memory) (last : ℕ) (D : Dealable whole sh m last) where
  abbrev next : ℕ
  next = next_served sh m.table last

  abbrev own : Worker
  own = worker m.table (next_served sh m.table last)

  refusal_is : deal_refusal whole sh m last ≡ cond (deal_out whole sh m last) 3 (cond (all_idle sh m.table last) 16 0)
  unfolding deal_refusal
  refusal_is =
      rw (
        shape_tests sh D.lent.limits,
        le-ltb (length m.store) (layout sh) D.lent.store,
        le-ltb (length m.table) sh.workers D.lent.table,
        lt-leb sh.workers last D.inside,
      )

  away_by : (k : ℕ) → k ≢ 0 → deal_refusal whole sh m last ≡ k → dealt whole sh m last ≡ turned_away k m last
  unfolding dealt
  away_by k n e = rw (e, ne_eqb k 0 n)

-- by the look that was taken
out_by : (whole : Bool) (sh : Shape) (m : Memory) (last : ℕ) → Dealable whole sh m last
    → deal_out whole sh m last ≡ not (whole || all_idle sh m.table last || record_in_range sh (worker m.table (next_served sh m.table last)))
out_by true sh m last D = ap not D.kept
out_by false sh m last D = rw (word_tests sh m.store D.kept, lt-leb sh.workers last D.inside)

module _ (whole : Bool) (sh : Shape) (m : Memory) (last : ℕ) (D : Dealable whole sh m last) where
  idle_out : (w i r : Bool) → i ≡ true → not (w || i || r) ≡ false
  idle_out w i r e = grind (arith, nat_tests)

  pub none_served : next_served sh m.table last ≡ sh.workers → dealt whole sh m last ≡ turned_away 16 m last
  none_served e =
      let idle : all_idle sh m.table last ≡ true = eq-eqb (next_served sh m.table last) sh.workers e in
      let out = out_by whole sh m last D ∙ idle_out whole (all_idle sh m.table last) (record_in_range sh (own whole sh m last D)) idle in
      away_by whole sh m last D 16 (λ z. omega (arith, z)) (refusal_is whole sh m last D ∙ rw (out, idle))

  module _ (some : next_served sh m.table last ≢ sh.workers) where
    busy : all_idle sh m.table last ≡ false
    busy = ne_eqb (next_served sh m.table last) sh.workers some

    out_is : deal_out whole sh m last ≡ not (whole || record_in_range sh (worker m.table (next_served sh m.table last)))
    out_is = out_by whole sh m last D ∙ simp (busy, or-false)

    pub record_out : (whole || record_in_range sh (worker m.table (next_served sh m.table last))) ≡ false → dealt whole sh m last ≡ turned_away 3 m last
    record_out e = away_by whole sh m last D 3 (λ z. omega (arith, z)) (refusal_is whole sh m last D ∙ rw (out_is, e))

    no_refusal : MayTurn whole sh (worker m.table (next_served sh m.table last)) → deal_refusal whole sh m last ≡ 0
    no_refusal e = refusal_is whole sh m last D ∙ rw (out_is, e, busy)

-- the turn of the worker to be served, by its record
module _ (sh : Shape) (m : Memory) (i : ℕ) (L : Lent sh m.store m.table) (exists : i < sh.workers) where
  abbrev gives_back : Result
  gives_back = back m.table i (local_act sh 0 m.store (Step i) (worker m.table i))

  module _ (sound : in_range sh m ≡ true) where
    watched : Watched sh m true
    watched l = sym sound

    gate_0 : gate_of sh (length m.store) (length m.table) i true ≡ 0
    gate_0 = passes sh (length m.store) (length m.table) i true (lent_passes sh m L) refl exists

    whole_admits : Admitted sh m.store (worker m.table i)
    whole_admits = admitted sh m.store m.table i (usable sh m true watched i gate_0)

    whole_is : back m.table i (local_act sh 0 m.store (Step i) (worker m.table i)) ≡ act sh m (Step i)
    whole_is = act_is sh m true watched (Step i) 0 tt gate_0

    whole_on : Watched sh (act sh m (Step i)).memory (not (leaks sh m.store (worker m.table i)))
    whole_on = act_watched sh m true watched (Step i) gate_0

  module _ (words : WordRanges sh m.store) (ok : record_in_range sh (worker m.table i) ≡ true) where
    near_admits : Admitted sh m.store (worker m.table i)
    near_admits = record { limits = L.limits; laid = laid sh m.store L.limits L.store; words = words; worker = record_ranges sh _ ok }

    flag : near_of sh m.store (length m.table) (record_in_range sh (worker m.table i)) ≡ true
    unfolding near_of
    flag = rw (eq-eqb (open_gate sh (length m.store) (length m.table)) 0 (lent_passes sh m L), word_tests sh m.store words, ok)

    near_is : back m.table i (local_act sh 0 m.store (Step i) (worker m.table i)) ≡ narrow_call sh m (Step i) 0
    unfolding narrow_call turns_after
    near_is =
        narrow_is sh m (Step i) (record_in_range sh (worker m.table i)) (λ l. rw (lt-leb sh.workers i exists)) 0 tt
        (passes sh (length m.store) (length m.table) i _ (lent_passes sh m L) flag exists)

admits_at : (whole : Bool) (sh : Shape) (m : Memory) (i : ℕ) → Lent sh m.store m.table → i < sh.workers → Kept whole sh m
    → MayTurn whole sh (worker m.table i) → Admitted sh m.store (worker m.table i)
admits_at true sh m i L l kept may = whole_admits sh m i L l kept
admits_at false sh m i L l kept may = near_admits sh m i L l kept may

turn_is : (whole : Bool) (sh : Shape) (m : Memory) (i : ℕ) → Lent sh m.store m.table → i < sh.workers → Kept whole sh m
    → MayTurn whole sh (worker m.table i)
    → back m.table i (local_act sh 0 m.store (Step i) (worker m.table i)) ≡ requested sh m (turn_of whole i)
turn_is true sh m i L l kept may = whole_is sh m i L l kept
turn_is false sh m i L l kept may = near_is sh m i L l kept may

module _ (whole : Bool) (sh : Shape) (m : Memory) (last : ℕ) (D : Dealable whole sh m last)
    (exists : next_served sh m.table last < sh.workers) (may : MayTurn whole sh (worker m.table (next_served sh m.table last))) where
  abbrev i : ℕ
  i = next_served sh m.table last

  abbrev done : Done
  done = local_act sh 0 m.store (Step i) (worker m.table i)

  pub admits : Admitted sh m.store (worker m.table (next_served sh m.table last))
  admits = admits_at whole sh m i D.lent exists D.kept may

  pub served_is : dealt whole sh m last
      ≡ serving (next_served sh m.table last) (back m.table (next_served sh m.table last)
      (local_act sh 0 m.store (Step (next_served sh m.table last)) (worker m.table (next_served sh m.table last))))
  unfolding dealt
  served_is =
      rw (eq-eqb (deal_refusal whole sh m last) 0 (no_refusal whole sh m last D (λ e. omega (arith, exists)) may))
      (ap (serving i) (sym (turn_is whole sh m i D.lent exists D.kept may)))

  lent_after : Lent sh done.store (set m.table i done.worker)
  lent_after = record {
    limits = D.lent.limits;
    store = omega (arith, D.lent.store, act_length sh 0 m.store (Step i) (worker m.table i));
    table = omega (arith, D.lent.table, length-set m.table i done.worker);
  }

-- ── past the turn ──
-- the whole memory is in range again, unless the turn leaks
whole_after : (sh : Shape) (m : Memory) (i : ℕ) (L : Lent sh m.store m.table) (l : i < sh.workers) (sound : in_range sh m ≡ true)
    → Lent sh (local_act sh 0 m.store (Step i) (worker m.table i)).store
    (set m.table i (local_act sh 0 m.store (Step i) (worker m.table i)).worker)
    → not (leaks sh m.store (worker m.table i)) ≡ in_range sh (back m.table i (local_act sh 0 m.store (Step i) (worker m.table i))).memory
whole_after sh m i L l sound after =
    subst (λ (r : Result). Watched sh r.memory (not (leaks sh m.store (worker m.table i)))) (sym (whole_is sh m i L l sound))
    (whole_on sh m i L l sound) after

kept_after : (whole : Bool) (sh : Shape) (m : Memory) (i : ℕ) (L : Lent sh m.store m.table) (l : i < sh.workers) (kept : Kept whole sh m)
    → MayTurn whole sh (worker m.table i)
    → Lent sh (local_act sh 0 m.store (Step i) (worker m.table i)).store
    (set m.table i (local_act sh 0 m.store (Step i) (worker m.table i)).worker)
    → goes_on (local_act sh 0 m.store (Step i) (worker m.table i)).response ≡ true
    → leaks_of whole sh m.store (worker m.table i) ≡ false
    → Kept whole sh (back m.table i (local_act sh 0 m.store (Step i) (worker m.table i))).memory
kept_after true sh m i L l kept may after on tight = sym (whole_after sh m i L l kept after) ∙ ap not tight
kept_after false sh m i L l kept may after on tight =
    (going sh 0 m.store (worker m.table i) (near_admits sh m i L l kept may) (Step i) (local_act sh 0 m.store (Step i) (worker m.table i)) refl on
    ).words

module _ (whole : Bool) (sh : Shape) (m : Memory) (last : ℕ) (D : Dealable whole sh m last)
    (exists : next_served sh m.table last < sh.workers) (may : MayTurn whole sh (worker m.table (next_served sh m.table last))) where
  abbrev left_by : Memory
  left_by =
      (back m.table (next_served sh m.table last)
      (local_act sh 0 m.store (Step (next_served sh m.table last)) (worker m.table (next_served sh m.table last)))).memory

  pub keeps_on : goes_on (local_act sh 0 m.store (Step (next_served sh m.table last)) (worker m.table (next_served sh m.table last))).response ≡ true
      → leaks_of whole sh m.store (worker m.table (next_served sh m.table last)) ≡ false
      → Dealable whole sh (back m.table (next_served sh m.table last)
      (local_act sh 0 m.store (Step (next_served sh m.table last)) (worker m.table (next_served sh m.table last)))).memory
      (next_served sh m.table last)
  keeps_on on tight = record {
    lent = lent_after whole sh m last D exists may;
    inside = exists;
    kept =
        kept_after whole sh m (next_served sh m.table last) D.lent exists D.kept may (lent_after whole sh m last D exists may) on tight;
  }

-- past a leak no turn is dealt, by 3
out_of_all : (sh : Shape) (m : Memory) (last : ℕ) → Lent sh m.store m.table → in_range sh m ≡ false → dealt true sh m last ≡ turned_away 3 m last
unfolding dealt deal_refusal
out_of_all sh m last L e =
    rw (
      shape_tests sh L.limits,
      le-ltb (length m.store) (layout sh) L.store,
      le-ltb (length m.table) sh.workers L.table,
      e,
    )

leaked_by : (whole : Bool) (sh : Shape) (m : Memory) (i : ℕ) (L : Lent sh m.store m.table) (l : i < sh.workers) (kept : Kept whole sh m)
    → Lent sh (local_act sh 0 m.store (Step i) (worker m.table i)).store
    (set m.table i (local_act sh 0 m.store (Step i) (worker m.table i)).worker)
    → leaks_of whole sh m.store (worker m.table i) ≡ true
    → let n = (back m.table i (local_act sh 0 m.store (Step i) (worker m.table i))).memory in dealt whole sh n i ≡ turned_away 3 n i
leaked_by true sh m i L l kept after leak =
    out_of_all sh (back m.table i (local_act sh 0 m.store (Step i) (worker m.table i))).memory i after
    (sym (whole_after sh m i L l kept after) ∙ ap not leak)
leaked_by false sh m i L l kept after leak = never leak

module _ (whole : Bool) (sh : Shape) (m : Memory) (last : ℕ) (D : Dealable whole sh m last)
    (exists : next_served sh m.table last < sh.workers) (may : MayTurn whole sh (worker m.table (next_served sh m.table last))) where
  pub leaked : leaks_of whole sh m.store (worker m.table (next_served sh m.table last)) ≡ true
      → let n = (back m.table (next_served sh m.table last)
      (local_act sh 0 m.store (Step (next_served sh m.table last)) (worker m.table (next_served sh m.table last)))).memory in
      dealt whole sh n (next_served sh m.table last) ≡ turned_away 3 n (next_served sh m.table last)
  leaked leak =
      leaked_by whole sh m (next_served sh m.table last) D.lent exists D.kept (lent_after whole sh m last D exists may) leak
