-- A run of dealt turns over lent memory, candidate by candidate: each look at one leaves the outcome of the run as it was, and brings its end nearer.
--     wanted_ended                    the outcome of a run, from where it stands; where it has ended
--     visitable, moves                the look at the candidate may be made; it leaves that
--     sound_start, wanted_start       the run that has just begun
-- Assumes nothing.
use Rattle.std.specs.Prelude.{◌≡◌, List, Bool, true, false, cond, not, ◌||◌, ◌≢◌, eqb, length, set}
use Rattle.std.specs.declared.ops.ControlFlow.TheVariants.{Continue, Break}
use Rattle.std.proofs.Math.Path.{refl, ap}
use Rattle.std.proofs.Common.{sym, subst, ◌∙◌}
use Prim.Native.Nat.{ℕ, zero, suc, ◌+◌, ◌-◌, ◌<◌}
use Rattle.std.proofs.Math.Nat.{suc-mul}
use native.Mathlib.Omega.{arith}
use Rattle.std.proofs.lemmas.List.{set-get_or}
use borrow.Author.Tests.{eqb-true, eqb-false}
use Rattle.arrival.specs.declared.Shape.{Shape}
use Rattle.arrival.specs.declared.Worker.{Worker}
use Rattle.arrival.specs.declared.Response.TheVariants.{On, Refused}
use Rattle.laws.specs.Tests.{by_test}
use Rattle.calendar.specs.rules.Ranges.{blank, worker, record_in_range}
use Rattle.calendar.specs.rules.Reclaim.{in_progress}
use Rattle.calendar.specs.rules.NarrowCalls.{goes_on}
use Rattle.words.specs.Done.{Done, gives}
use Rattle.words.specs.declared.replies.Reply.{Reply}
use Rattle.stages.specs.Ready.{Ready}
use Rattle.stages.specs.LocalStep.{local_step}
use Rattle.admission.specs.Gate.{gate_of}
use Rattle.admission.proofs.GateLaws.{shape_tests}
use Rattle.wubraken.specs.Results.{lent}
use Rattle.dealer.specs.declared.asks.Ask.{Ask}
use Rattle.dealer.specs.declared.runs.Going.{Going}
use Rattle.dealer.specs.declared.runs.Ended.{Ended}
use Rattle.dealer.specs.Dealing.{worker_after, first_busy_of, next_served, Deal, dealt_on, dealt_run}
use Rattle.dealer.proofs.Served.{after_below}
use Rattle.dealer.specs.Answered.{leaves_deal}
use Rattle.dealer.specs.Dealable.{Dealable, leaks_of}
use Rattle.dealer.specs.Looks.{is_whole, flag_of}
use Rattle.dealer.specs.Runs.{Run, stopped_by, started_at, unbegun, begun, passed_by, moved_on, served, visited, Visitable}
use Rattle.dealer.specs.DealLoop.{ok_of, running}
use Rattle.dealer.proofs.DealLoop.{passed_by_lem, away_at_first, away, none_dealt}
use Rattle.dealer.specs.DealRound.{Round}
use Rattle.dealer.proofs.DealRound.{none_in_progress, refused_record, is_ready, as_long, last_turn, past_leak, next_round_lem}
use Rattle.dealer.specs.Tour.{Touring, Sound, wanted, todo, Moved}

pub wanted_ended : (e : Ended) (s : List ℕ) (t : List Worker) → wanted (Break e) s t ≡ leaves_deal s t e
unfolding wanted
wanted_ended e s t = refl

next_of : (sh : Shape) (t : List Worker) (at n : ℕ) → 0 < n
    → first_busy_of sh t n at ≡ cond (in_progress (worker t (worker_after sh at))) (worker_after sh at) (first_busy_of sh t (n - 1) (worker_after sh at))
unfolding first_busy_of
next_of sh t at zero h = absurd (omega arith)
next_of sh t at (suc n) h = let e : suc n - 1 ≡ n = omega arith in rw e

none_of : (sh : Shape) (t : List Worker) (at n : ℕ) → n ≡ 0 → first_busy_of sh t n at ≡ sh.workers
unfolding first_busy_of
none_of sh t at n z = rw z

-- behind the worker `last`, with all workers as candidates
fresh : (a : Ask) (s : List ℕ) (t : List Worker) (last made : ℕ) → Dealable (is_whole a.look) a.shape (lent s t) last → made < a.turns
    → Touring (started_at a last made) s t
fresh a s t last made D more = record {
  able = D;
  more = more;
  inside = after_below a.shape last D.lent.limits.some_worker;
  some = D.lent.limits.some_worker;
  few = omega arith;
  next = sym (next_of a.shape t last a.shape.workers D.lent.limits.some_worker);
}

module _ (r : Going) (s : List ℕ) (t : List Worker) (T : Touring r s t) where
  abbrev whole : Bool
  whole = is_whole r.ask.look

  abbrev sh : Shape
  sh = r.ask.shape

  abbrev turns : ℕ
  turns = r.ask.turns

  abbrev w : Worker
  w = worker t r.at

  abbrev goal : Deal
  goal = wanted (Continue r) s t

  round : Round whole sh turns goal s t r.last r.made
  unfolding wanted
  round = record { able = T.able; more = T.more; same = refl }

  ends_less : (e : Ended) → todo (Break e) < todo (Continue r)
  unfolding todo
  ends_less e = omega arith

  -- where the run ends with what it wants
  ends : (e : Ended) (s' : List ℕ) (u : Worker) → leaves_deal s' (set t r.at u) e ≡ goal → length s' ≡ length s
      → Moved r s t (record { run = Break e; worker = u; store = s' })
  ends e s' u is long = record {
    sound = tt;
    same = wanted_ended e s' (set t r.at u) ∙ is;
    less = ends_less e;
    long = long;
  }

  as_it_was : set t r.at w ≡ t
  as_it_was = set-get_or t r.at blank

  -- the candidate has no call in progress
  module _ (idle : in_progress w ≡ false) where
    onward : first_busy_of sh t (r.rest - 1) r.at ≡ next_served sh t r.last
    onward = sym (ap (λ (b : Bool). cond b r.at (first_busy_of sh t (r.rest - 1) r.at)) idle) ∙ T.next

    over : eqb r.rest 1 ≡ true → Moved r s t (record { run = Break (stopped_by (Refused 16) r); worker = w; store = s })
    over e =
        let z : r.rest - 1 ≡ 0 = omega (arith, eqb-true r.rest 1 e) in
        ends (stopped_by (Refused 16) r) s w
        (ap (λ (u : List Worker). leaves_deal s u (stopped_by (Refused 16) r)) as_it_was
        ∙ none_in_progress round (next_served sh t r.last) refl (sym onward ∙ none_of sh t r.at (r.rest - 1) z)) refl

    abbrev ahead : Going
    ahead = record { ask = r.ask; at = worker_after sh r.at; rest = r.rest - 1; last = r.last; made = r.made; response = r.response }

    ahead_less : todo (Continue ahead) < todo (Continue r)
    unfolding todo
    ahead_less = omega (arith, T.some)

    ahead_same : wanted (Continue ahead) s t ≡ wanted (Continue r) s t
    unfolding wanted
    ahead_same = refl

    beyond : eqb r.rest 1 ≡ false → Moved r s t (record { run = Continue ahead; worker = w; store = s })
    beyond e =
        let more : 0 < r.rest - 1 = omega (arith, T.some, eqb-false r.rest 1 e) in
        record {
          sound = subst (λ (u : List Worker). Touring ahead s u) (sym as_it_was) (record {
            able = T.able;
            more = T.more;
            inside = after_below sh r.at T.able.lent.limits.some_worker;
            some = more;
            few = omega (arith, T.few);
            next = sym (next_of sh t r.at (r.rest - 1) more) ∙ onward;
          });
          same = ap (λ (u : List Worker). wanted (Continue ahead) s u) as_it_was ∙ ahead_same;
          less = ahead_less;
          long = refl;
        }

    moves_idle : Moved r s t (record { run = passed_by r; worker = w; store = s })
    unfolding passed_by
    moves_idle = by_test (λ (x : Run). Moved r s t (record { run = x; worker = w; store = s })) (eqb r.rest 1) over beyond

  -- it has one
  module _ (busy : in_progress w ≡ true) where
    is : r.at ≡ next_served sh t r.last
    is = sym (ap (λ (b : Bool). cond b r.at (first_busy_of sh t (r.rest - 1) r.at)) busy) ∙ T.next

    exists : r.at ≢ sh.workers
    exists e = omega (arith, e, T.inside)

    abbrev may : Bool
    may = whole || record_in_range sh w

    moves_refused : may ≡ false → Moved r s t (record { run = Break (stopped_by (Refused 3) r); worker = w; store = s })
    moves_refused e =
        ends (stopped_by (Refused 3) r) s w
        (ap (λ (u : List Worker). leaves_deal s u (stopped_by (Refused 3) r)) as_it_was
        ∙ refused_record round r.at is exists w refl may refl e) refl

    module _ (passed : may ≡ true) where
      ready : Ready sh s w
      ready = is_ready round r.at is exists w refl may refl passed

      module _ (d : Done) (d-is : d ≡ local_step sh s w) where
        abbrev reply : Reply
        reply = record { worker = d.worker; response = d.response }

        abbrev did : gives d.store reply ≡ local_step sh s w
        did = d-is

        abbrev after : Going
        after = started_at r.ask r.at (r.made + 1)

        long : length d.store ≡ length s
        long = sym (as_long round r.at is exists w refl may refl passed d.store reply did)

        abbrev At : Run → Type 0
        At x = Moved r s t (record { run = x; worker = d.worker; store = d.store })

        abbrev last_one : Bool
        last_one = eqb (r.made + 1) turns || not (goes_on d.response)

        ends_there : last_one ≡ true → At (Break (stopped_by d.response after))
        ends_there e =
            ends (stopped_by d.response after) d.store d.worker
            (last_turn round r.at is exists w refl may refl passed d.store reply did (goes_on d.response) refl e) long

        module _ (not_last : last_one ≡ false) where
          leaks_there : leaks_of whole sh s w ≡ true → At (Break (stopped_by (Refused 3) after))
          leaks_there e =
              ends (stopped_by (Refused 3) after) d.store d.worker
              (past_leak round r.at is exists w refl may refl passed d.store reply did (goes_on d.response) refl not_last
              (leaks_of whole sh s w) refl e) long

          module _ (tight : leaks_of whole sh s w ≡ false) where
            follows : Round whole sh turns goal d.store (set t r.at d.worker) r.at (r.made + 1)
            follows =
                next_round_lem round r.at is exists w refl may refl passed d.store reply did (goes_on d.response) refl not_last
                (leaks_of whole sh s w) refl tight

            follows_same : wanted (Continue after) d.store (set t r.at d.worker) ≡ goal
            unfolding wanted
            follows_same = follows.same

            follows_less : todo (Continue after) < todo (Continue r)
            unfolding todo
            follows_less =
                let e : turns - r.made ≡ suc (turns - (r.made + 1)) = omega (arith, T.more) in
                rw (e, suc-mul (turns - (r.made + 1)) (suc sh.workers)) (omega (arith, T.some))

            goes_there : At (Continue after)
            goes_there = record {
              sound = fresh r.ask d.store (set t r.at d.worker) r.at (r.made + 1) follows.able follows.more;
              same = follows_same;
              less = follows_less;
              long = long;
            }

        moves_served : Moved r s t (served r s w d)
        unfolding moved_on
        moves_served =
            by_test At last_one ends_there (λ e. by_test At (leaks_of whole sh s w) (leaks_there e) (goes_there e))

  pub visitable : Visitable r s (worker t r.at)
  visitable = record {
    shape = shape_tests sh T.able.lent.limits;
    inside = T.inside;
    some = T.some;
    more = T.more;
    ready = ready;
  }

  pub moves : Moved r s t (visited r s (worker t r.at))
  unfolding visited
  moves =
      by_test (Moved r s t) (in_progress w)
      (λ busy. by_test (Moved r s t) (whole || record_in_range sh w) (λ passed. moves_served busy passed (local_step sh s w) refl)
      (moves_refused busy))
      moves_idle

-- ── the run that has just begun ──
module _ (a : Ask) (s : List ℕ) (t : List Worker) where
  abbrev whole_of : Bool
  whole_of = is_whole a.look

  abbrev k : ℕ
  k = gate_of a.shape (length s) (length t) a.dealer (flag_of whole_of a.shape s (length t) (ok_of whole_of a.shape t))

  -- a run is sound, and wants the whole of it
  abbrev Good : Run → Type 0
  Good r = Sound r s t × (wanted r s t ≡ dealt_run whole_of a.shape a.turns (lent s t) a.dealer)

  none_asked : eqb a.turns 0 ≡ true → Good (Break (unbegun On a.dealer))
  unfolding wanted
  none_asked e = (tt, none_dealt whole_of a.shape a.turns (lent s t) a.dealer (eqb-true a.turns 0 e))

  module _ (some : eqb a.turns 0 ≡ false) where
    refused : eqb k 0 ≡ false → Good (Break (unbegun (Refused k) a.dealer))
    unfolding wanted
    refused e = (
      tt,
      away whole_of a.shape (lent s t) a.dealer 0 a.turns k (eqb-false a.turns 0 some)
          (away_at_first a.shape s t a.dealer whole_of k refl (eqb-false k 0 e)),
    )

    begins : eqb k 0 ≡ true → Good (Continue (started_at a a.dealer 0))
    unfolding wanted
    begins e =
        let n : a.turns - 0 ≡ a.turns = omega arith in (
          fresh a s t a.dealer 0 (passed_by_lem a.shape s t a.dealer whole_of (eqb-true k 0 e)) (omega (arith, eqb-false a.turns 0 some)),
          ap (λ (j : ℕ). dealt_on whole_of a.shape j (running (lent s t) a.dealer 0)) n,
        )

  good : Good (begun a s (length t) (ok_of whole_of a.shape t))
  unfolding begun
  good = by_test Good (eqb a.turns 0) none_asked (λ some. by_test Good (eqb k 0) (begins some) (refused some))

  pub sound_start : Sound (begun a s (length t) (ok_of (is_whole a.look) a.shape t)) s t
  sound_start = good.0

  pub wanted_start : wanted (begun a s (length t) (ok_of (is_whole a.look) a.shape t)) s t
      ≡ dealt_run (is_whole a.look) a.shape a.turns (lent s t) a.dealer
  wanted_start = good.1
