-- Several turns of one record: narrow turns behind a start or turn, while the call goes on.
--     act_length                      an action leaves the store as long as it was
--     turns_back                      put back into the table, they are the turns behind it in lent memory
--     turns_over, turns_none          what has ended, or may have no turn more, stays
--     ended, not_ended                by the test of the loop
--     going                           what is known where a call goes on: only `right` and `seen` can be out of range
--     turns_out, turns_on, stays_admitted, goes_back  one of them is, and the next turn is refused by 3; or they are not, and it is made
-- Assumes nothing.
use Rattle.std.specs.Prelude.{◌≡◌, not, ◌&&◌, ◌||◌, ◌≢◌, eqb, length, set}
use Rattle.std.proofs.Math.Path.{refl, sym, ap}
use Rattle.std.proofs.Common.{◌∙◌, arith, length-set, set-set, get_or-set_same, eqb-true, le-leb, eq-eqb}
use mathlib.Core.List.{List}
use Rattle.std.proofs.Math.Bool.{Bool, true, false, cond}
use Prim.Native.Nat.{ℕ, zero, suc, ◌-◌, ◌/◌, ◌<◌, ◌≤◌}
use Rattle.std.proofs.lemmas.Bool.{not-false, not-true, eqb-false, lt-leb}
use Rattle.arrival.specs.declared.Shape.{Shape}
use Rattle.arrival.specs.declared.Worker.{Worker}
use Rattle.arrival.specs.declared.Action.{Action}
use Rattle.arrival.specs.declared.Action.TheVariants.{Enqueue, Dequeue, Step}
use Rattle.arrival.specs.declared.Response.{Response}
use Rattle.arrival.specs.declared.Response.TheVariants.{Refused}
use Rattle.laws.specs.Tests.{never}
use Rattle.calendar.specs.rules.Layout.{layout, write_all, started}
use Rattle.calendar.specs.rules.Ranges.{blank, worker, words_in_range, record_in_range}
use Rattle.calendar.specs.rules.Refusals.{own_tests, enqueue_own, dequeue_own, step_own, no_ticket}
use Rattle.calendar.specs.rules.Operations.{Memory, outcome_of}
use Rattle.calendar.specs.rules.NarrowCalls.{records_in_range, narrow_act, goes_on, turns_after}
use Rattle.laws.specs.FirstOf.{first_of, first_none}
use Rattle.calendar.specs.facts.RangeFacts.{Limits, RecordRanges}
use Rattle.calendar.proofs.facts.RangeFacts.{word_tests, record_ranges, record_tests_lem}
use Rattle.calendar.specs.facts.Accepted.{Lent}
use Rattle.calendar.proofs.facts.Inside.{length_write_all}
use Rattle.calendar.proofs.facts.Changes.{step_is}
use Rattle.calendar.specs.facts.RecordsKept.{links_in_range}
use Rattle.calendar.proofs.facts.RecordsKept.{enqueue_record, dequeue_record, turn_tests, enqueue_words, dequeue_words, turn_words}
use Rattle.words.specs.Laid.{Laid}
use Rattle.words.specs.Done.{Done, done, refused}
use Rattle.starts.specs.FreeSearch.{first_free_below, first_below_node}
use Rattle.starts.specs.LocalStart.{none_below}
use Rattle.admission.specs.Gate.{gate_of, open_gate}
use Rattle.admission.proofs.GateLaws.{passes, flag_down, lent_passes}
use Rattle.admission.specs.NarrowGate.{near_of}
use Rattle.admission.proofs.NarrowGate.{narrow_away}
use Rattle.operation.specs.LocalAct.{local_act, Admitted, back}
use Rattle.operation.proofs.LocalAct.{narrow_is}
use Rattle.operation.specs.LocalTurns.{local_turn, local_turns, Going}

-- ── in the table ──
-- no action changes how long the store is
pub act_length : (sh : Shape) (low : ℕ) (s : List ℕ) (a : Action) (w : Worker) → length (local_act sh low s a w).store ≡ length s
unfolding local_act
act_length sh low s a w = go (eqb (first_of (own_tests sh s (none_below sh low s) a w)) 0)
  where
    go : (b : Bool) → length (cond b (done sh s (outcome_of sh s (first_free_below sh s low) a w))
        (refused s w (first_of (own_tests sh s (none_below sh low s) a w)))).store ≡ length s
    go true = length_write_all sh s (outcome_of sh s (first_free_below sh s low) a w).writes
    go false = refl

turn_length : (sh : Shape) (s : List ℕ) (w : Worker) → length (local_turn sh s w).store ≡ length s
unfolding local_turn
turn_length sh s w = go (words_in_range sh s && record_in_range sh w)
  where
    go : (b : Bool) → length (cond b (local_act sh 0 s (Step 0) w) (refused s w 3)).store ≡ length s
    go true = act_length sh 0 s (Step 0) w
    go false = refl

-- a turn asks neither for `low` nor for the worker's number
any_turn : (sh : Shape) (low i : ℕ) (s : List ℕ) (w : Worker) → local_act sh 0 s (Step 0) w ≡ local_act sh low s (Step i) w
unfolding local_act
any_turn sh low i s w = refl

module _ (sh : Shape) (t : List Worker) (i : ℕ) (limits : Limits sh) (exists : i < sh.workers) (long : sh.workers ≤ length t) where
  module _ (s : List ℕ) (w : Worker) (fits : layout sh ≤ length s) where
    abbrev m : Memory
    m = record { store = s; table = set t i w }

    abbrev near : Bool
    near = words_in_range sh s && record_in_range sh w

    L : Lent sh s (set t i w)
    L = record { limits = limits; store = fits; table = omega (arith, length-set t i w, long) }

    here : worker (set t i w) i ≡ w
    here = get_or-set_same t i w blank (omega (arith, exists, long))

    seen : record_in_range sh w ≡ records_in_range sh (set t i w) (Step i)
    seen = rw (lt-leb sh.workers i exists, here)

    flag : near_of sh s (length (set t i w)) (record_in_range sh w) ≡ near
    unfolding near_of
    flag = rw (eq-eqb (open_gate sh (length s) (length (set t i w))) 0 (lent_passes sh m L))

    turn_back : back t i (local_turn sh s w) ≡ narrow_act sh m (Step i)
    unfolding local_turn
    turn_back = go near refl
      where
        go : (b : Bool) → near ≡ b → back t i (cond b (local_act sh 0 s (Step 0) w) (refused s w 3)) ≡ narrow_act sh m (Step i)
        go true e =
            ap (λ (d : Done). back t i d) (any_turn sh 0 i s w)
            ∙ ap (λ (u : List Worker). record {
              memory = record { store = (local_act sh 0 s (Step i) w).store; table = u };
              response = (local_act sh 0 s (Step i) w).response;
            }) (sym (set-set t i w (local_act sh 0 s (Step i) w).worker))
            ∙ ap (λ (v : Worker). back (set t i w) i (local_act sh 0 s (Step i) v)) (sym here)
            ∙ narrow_is sh m (Step i) (record_in_range sh w) (λ l. seen) 0 tt (passes sh (length s) (length (set t i w)) i _ (lent_passes sh m L) (flag ∙ e)
            exists)
        go false e =
            let three : gate_of sh (length s) (length (set t i w)) i (near_of sh s (length (set t i w)) (record_in_range sh w)) ≡ 3 = third e in
            ap (λ (k : ℕ). record { memory = m; response = Refused k }) (sym three)
            ∙ narrow_away sh m (Step i) (record_in_range sh w) (λ l. seen) (λ z. omega (arith, three))
          where
            third : near ≡ false → gate_of sh (length s) (length (set t i w)) i (near_of sh s (length (set t i w)) (record_in_range sh w)) ≡ 3
            third e = flag_down sh (length s) (length (set t i w)) i _ (lent_passes sh m L) (flag ∙ e)

  pub turns_back : (n : ℕ) (d : Done) → layout sh ≤ length d.store → back t i (local_turns sh n d) ≡ turns_after sh i n (back t i d)
  unfolding local_turns turns_after
  turns_back zero d fits = refl
  turns_back (suc n) d fits =
      go (goes_on d.response) (turns_back n (local_turn sh d.store d.worker) (omega (arith, turn_length sh d.store d.worker)))
    where
      go : (b : Bool) → back t i (local_turns sh n (local_turn sh d.store d.worker)) ≡ turns_after sh i n (back t i (local_turn sh d.store d.worker))
          → back t i (cond b (local_turns sh n (local_turn sh d.store d.worker)) d)
          ≡ cond b (turns_after sh i n (narrow_act sh (back t i d).memory (Step i))) (back t i d)
      go true rest = rest ∙ ap (turns_after sh i n) (turn_back d.store d.worker fits)
      go false rest = refl

-- ── for the loop ──
pub turns_over : (sh : Shape) (n : ℕ) (d : Done) → goes_on d.response ≡ false → local_turns sh n d ≡ d
unfolding local_turns
turns_over sh zero d e = refl
turns_over sh (suc n) d e = rw e

pub turns_none : (sh : Shape) (n : ℕ) (d : Done) → n ≡ 0 → local_turns sh n d ≡ d
unfolding local_turns
turns_none sh n d e = rw e

-- by the test of the loop, where g says whether the call goes on
pub ended : (sh : Shape) (n : ℕ) (d : Done) (g : Bool) → g ≡ goes_on d.response → (eqb n 0 || not g) ≡ true → local_turns sh n d ≡ d
ended sh n d g is e = go (eqb n 0) refl g is e
  where
    go : (b : Bool) → eqb n 0 ≡ b → (g : Bool) → g ≡ goes_on d.response → (b || not g) ≡ true → local_turns sh n d ≡ d
    go true z g is e = turns_none sh n d (eqb-true n 0 z)
    go false z true is e = never e
    go false z false is e = turns_over sh n d (sym is)

pub not_ended : (n : ℕ) (r : Response) (g : Bool) → g ≡ goes_on r → (eqb n 0 || not g) ≡ false → (n ≢ 0) × (goes_on r ≡ true)
not_ended n r g is e = go (eqb n 0) refl g is e
  where
    go : (b : Bool) → eqb n 0 ≡ b → (g : Bool) → g ≡ goes_on r → (b || not g) ≡ false → (n ≢ 0) × (goes_on r ≡ true)
    go true z g is e = never (sym e)
    go false z true is e = (eqb-false n 0 z, sym is)
    go false z false is e = never (sym e)

-- one turn more
one_more : (sh : Shape) (n : ℕ) (d : Done) → n ≢ 0 → goes_on d.response ≡ true → local_turns sh n d ≡ local_turns sh (n - 1)
    (local_turn sh d.store d.worker)
unfolding local_turns
one_more sh zero d some e = absurd (some refl)
one_more sh (suc n) d some e = let k : suc n - 1 ≡ n = omega arith in rw (e, k)

-- a record in range has its links in range
whole : (sh : Shape) (w : Worker) → RecordRanges sh w → record_in_range sh w ≡ links_in_range sh w
whole sh w r = record_tests_lem sh w r ∙ sym (rw (le-leb w.right sh.nodes r.right, le-leb (w.seen / 2) sh.nodes r.seen))

module _ (sh : Shape) (low : ℕ) (s : List ℕ) (w : Worker) (A : Admitted sh s w) where
  -- nothing refuses it, and it does its rule
  by_rule : (a : Action) → first_of (own_tests sh s (none_below sh low s) a w) ≡ 0
      → Going sh (write_all sh s (outcome_of sh s (first_free_below sh s low) a w).writes) (outcome_of sh s (first_free_below sh s low) a w).worker
  by_rule (Enqueue i x) e =
      let (five, (nine, (eleven, (twelve, last)))) = first_none (enqueue_own x w (no_ticket sh s) (none_below sh low s)) refl e in
      let few : started sh s < 4294967295 = omega (arith, A.words.started, eqb-false (started sh s) 4294967295 eleven) in
      let node = first_below_node sh s low A.limits.some_node (eqb-false _ _ twelve) in
      record {
        words = enqueue_words sh s (first_free_below sh s low) x w A.laid.fits A.words node few;
        tests = whole sh _ (enqueue_record sh s (first_free_below sh s low) x w A.worker node A.limits.some_bucket few);
      }
  by_rule (Dequeue i) e =
      let (nine, (eleven, last)) = first_none (dequeue_own w (no_ticket sh s)) refl e in
      let few : started sh s < 4294967295 = omega (arith, A.words.started, eqb-false (started sh s) 4294967295 eleven) in
      record { words = dequeue_words sh s w A.laid.fits A.words few; tests = whole sh _ (dequeue_record sh s w A.worker few) }
  by_rule (Step i) e =
      let (ten, (eleven, last)) = first_none (step_own sh s w) refl e in
      let c = step_is sh s w (eqb-false _ _ (not-true _ (not-false _ ten))) A.worker.stage in
      record { words = turn_words sh s w A.words A.worker eleven A.laid.fits c; tests = turn_tests sh s w A.words A.worker c }

  pub going : (a : Action) (d : Done) → d ≡ local_act sh low s a w → goes_on d.response ≡ true → Going sh d.store d.worker
  unfolding local_act
  going a d is e = rw is (go (eqb (first_of (own_tests sh s (none_below sh low s) a w)) 0) refl (rw is at e))
    where
      does : Bool → Done
      does b = cond b (done sh s (outcome_of sh s (first_free_below sh s low) a w)) (refused s w (first_of (own_tests sh s (none_below sh low s) a w)))

      go : (b : Bool) → eqb (first_of (own_tests sh s (none_below sh low s) a w)) 0 ≡ b → goes_on (does b).response ≡ true → Going sh (does b).store
          (does b).worker
      go true z g = by_rule a (eqb-true _ 0 z)
      go false z g = never g

module _ (sh : Shape) (n : ℕ) (d : Done) (G : Going sh d.store d.worker) (some : n ≢ 0) (on : goes_on d.response ≡ true) where
  pub turns_out : links_in_range sh d.worker ≡ false → refused d.store d.worker 3 ≡ local_turns sh n d
  unfolding local_turn
  turns_out e =
      sym (one_more sh n d some on ∙ ap (local_turns sh (n - 1)) (out (record_in_range sh d.worker) (G.tests ∙ e))
      ∙ turns_over sh (n - 1) (refused d.store d.worker 3) refl)
    where
      out : (b : Bool) → b ≡ false
          → cond (words_in_range sh d.store && b) (local_act sh 0 d.store (Step 0) d.worker) (refused d.store d.worker 3)
          ≡ refused d.store d.worker 3
      out b f = rw (f, word_tests sh d.store G.words)

  pub turns_on : (low i : ℕ) → links_in_range sh d.worker ≡ true → local_turns sh (n - 1) (local_act sh low d.store (Step i) d.worker) ≡ local_turns sh n d
  unfolding local_turn
  turns_on low i e =
      sym (one_more sh n d some on
      ∙ ap (local_turns sh (n - 1)) (inside (record_in_range sh d.worker) (G.tests ∙ e))
      ∙ ap (local_turns sh (n - 1)) (any_turn sh low i d.store d.worker))
    where
      inside : (b : Bool) → b ≡ true
          → cond (words_in_range sh d.store && b) (local_act sh 0 d.store (Step 0) d.worker) (refused d.store d.worker 3)
          ≡ local_act sh 0 d.store (Step 0) d.worker
      inside b f = rw (f, word_tests sh d.store G.words)

-- where the links are in range a turn may be made
pub stays_admitted : (sh : Shape) (s : List ℕ) (w : Worker) → Limits sh → Laid sh s → Going sh s w → links_in_range sh w ≡ true → Admitted sh s w
stays_admitted sh s w limits laid G e = record { limits = limits; laid = laid; words = G.words; worker = record_ranges sh w (G.tests ∙ e) }

pub goes_back : (sh : Shape) (low : ℕ) (s : List ℕ) (w : Worker) (a : Action) (d : Done) → Admitted sh s w → d ≡ local_act sh low s a w
    → Going sh d.store d.worker → links_in_range sh d.worker ≡ true → Admitted sh d.store d.worker
goes_back sh low s w a d A is G e =
    let laid : Laid sh d.store = record {
      some_bucket = A.laid.some_bucket;
      buckets = A.laid.buckets;
      nodes = A.laid.nodes;
      fits = omega (arith, A.laid.fits, ap (λ (x : Done). length x.store) is ∙ act_length sh low s a w);
    } in
    stays_admitted sh d.store d.worker A.limits laid G e
