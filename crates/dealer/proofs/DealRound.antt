-- One round of the loop over dealt turns, arm by arm: from what the code has at its end to what the whole run leaves.
--     none_in_progress                16 ends the run
--     exists, refused_record          there is a worker to be served; its record is out of range: 3 ends the run
--     is_ready, as_long               the turn may be made; it leaves the store as long as it was
--     last_turn, lasts_less           the turn was the last; it was not, and fewer are left
--     past_leak, next_round_lem           it led out of the ranges, and 3 ends the run; one round more
-- Assumes nothing.
use Rattle.std.specs.Prelude.{◌≡◌, List, Bool, true, false, not, ◌||◌, ◌≢◌, ℕ, ◌+◌, ◌-◌, ◌<◌, eqb, length, set}
use Rattle.std.proofs.Common.{sym, ap, subst, ◌∙◌, arith, ne_eqb}
use Rattle.std.proofs.lemmas.Bool.Decides.{nat_tests}
use Rattle.arrival.specs.declared.Shape.{Shape}
use Rattle.arrival.specs.declared.Worker.{Worker}
use Rattle.arrival.specs.declared.Action.TheVariants.{Step}
use Rattle.arrival.specs.declared.Response.TheVariants.{Refused}
use Rattle.calendar.specs.rules.Ranges.{worker, record_in_range}
use Rattle.calendar.specs.rules.Operations.{Memory, Result}
use Rattle.calendar.specs.rules.NarrowCalls.{goes_on}
use Rattle.words.specs.Done.{Done, gives}
use Rattle.words.specs.declared.replies.Reply.{Reply}
use Rattle.stages.specs.Ready.{Ready}
use Rattle.stages.specs.LocalStep.{local_step}
use Rattle.operation.specs.LocalAct.{local_act, back}
use Rattle.operation.proofs.LocalAct.{local_step_lem, ready}
use Rattle.operation.proofs.LocalTurns.{act_length}
use Rattle.wubraken.specs.Results.{lent, gave}
use Rattle.wubraken.proofs.Results.{put_back}
use Rattle.dealer.specs.Dealing.{next_served, Deal, serving, dealt, dealt_on}
use Rattle.dealer.proofs.Served.{served_busy}
use Rattle.dealer.specs.Dealable.{Dealable, MayTurn, leaks_of}
use Rattle.dealer.proofs.Dealable.{none_served, record_out, admits, served_is, keeps_on, leaked}
use Rattle.dealer.specs.DealLoop.{running}
use Rattle.dealer.proofs.DealLoop.{away, ended, on}
use Rattle.dealer.specs.DealRound.{Round}

module _ {whole : Bool} {sh : Shape} {turns : ℕ} {goal : Deal} {s : List ℕ} {t : List Worker} {last made : ℕ}
    (R : Round whole sh turns goal s t last made) (i : ℕ) (is : i ≡ next_served sh t last) where
  abbrev m : Memory
  m = lent s t

  some_left : turns - made ≢ 0
  some_left e = omega (arith, R.more)

  pub none_in_progress : i ≡ sh.workers → record { memory = lent s t; dealer = last; turns = made; response = Refused 16 } ≡ goal
  none_in_progress e =
      away whole sh m last made (turns - made) 16 some_left (none_served whole sh m last R.able (sym is ∙ e)) ∙ R.same

  module _ (some : i ≢ sh.workers) where
    not_all : next_served sh t last ≢ sh.workers
    not_all e = some (is ∙ e)

    next_exists : next_served sh t last < sh.workers
    next_exists =
        (served_busy sh t last R.able.lent.limits.some_worker (ne_eqb (next_served sh t last) sh.workers not_all)).0

    pub exists : i < sh.workers
    exists = omega (arith, is, next_exists)

    -- its record w, and whether it may have its turn
    module _ (w : Worker) (w-is : w ≡ worker t i) (may : Bool) (may-is : may ≡ (whole || record_in_range sh w)) where
      own : w ≡ worker t (next_served sh t last)
      own = w-is ∙ ap (worker t) is

      may_turn : may ≡ (whole || record_in_range sh (worker t (next_served sh t last)))
      may_turn = may-is ∙ ap (λ (x : Worker). whole || record_in_range sh x) own

      pub refused_record : may ≡ false → record { memory = lent s t; dealer = last; turns = made; response = Refused 3 } ≡ goal
      refused_record e =
          away whole sh m last made (turns - made) 3 some_left (record_out whole sh m last R.able not_all (sym may_turn ∙ e)) ∙ R.same

      module _ (passed : may ≡ true) where
        ok_turn : MayTurn whole sh (worker t (next_served sh t last))
        ok_turn = sym may_turn ∙ passed

        pub is_ready : Ready sh s w
        is_ready = subst (λ (x : Worker). Ready sh s x) (sym own) (ready sh s _ (admits whole sh m last R.able next_exists ok_turn))

        -- the turn: store and reply
        module _ (s' : List ℕ) (reply : Reply) (did : gives s' reply ≡ local_step sh s w) where
          abbrev j : ℕ
          j = next_served sh t last

          abbrev result : Result
          result = back t j (local_act sh 0 s (Step j) (worker t j))

          done : gives s' reply ≡ local_act sh 0 s (Step j) (worker t j)
          done =
              did ∙ local_step_lem sh 0 s j w is_ready.worker.stage
              ∙ ap (λ (x : Worker). local_act sh 0 s (Step j) x) own

          pub as_long : length s ≡ length s'
          as_long = sym (ap (λ (d : Done). length d.store) done ∙ act_length sh 0 s (Step j) (worker t j))

          rows_are : set t i reply.worker ≡ set t j reply.worker
          rows_are = ap (λ (k : ℕ). set t k reply.worker) is

          left_is : gave s' (set t i reply.worker) reply.response ≡ result
          left_is = ap (λ (u : List Worker). gave s' u reply.response) rows_are ∙ put_back t j s' reply _ done

          served : dealt whole sh m last ≡ serving j result
          served = served_is whole sh m last R.able next_exists ok_turn

          response_is : reply.response ≡ result.response
          response_is = ap (λ (r : Result). r.response) left_is

          memory_is : lent s' (set t i reply.worker) ≡ result.memory
          memory_is = ap (λ (r : Result). r.memory) left_is

          module _ (g : Bool) (g-is : g ≡ goes_on reply.response) where
            goes : g ≡ goes_on result.response
            goes = g-is ∙ ap goes_on response_is

            pub last_turn : (eqb (made + 1) turns || not g) ≡ true
                → record { memory = lent s' (set t i reply.worker); dealer = i; turns = made + 1; response = reply.response } ≡ goal
            last_turn e =
                ap (λ (r : Result). record { memory = r.memory; dealer = i; turns = made + 1; response = r.response }) left_is
                ∙ ap (λ (k : ℕ). record { memory = result.memory; dealer = k; turns = made + 1; response = result.response }) is
                ∙ ended whole sh m last made j result served (turns - made) some_left g goes (sym (ap (λ (b : Bool). b || not g) count) ∙ e) ∙ R.same
              where
                count : eqb (made + 1) turns ≡ eqb (turns - made) 1
                count = let more : made < turns = R.more in grind (arith, nat_tests)

            module _ (not_last : (eqb (made + 1) turns || not g) ≡ false) where
              split : (made + 1 ≢ turns) × (g ≡ true)
              split = grind (arith, nat_tests)

              pub lasts_less : made + 1 < turns
              lasts_less = omega (arith, R.more, split.0)

              one_less : turns - made - 1 ≡ turns - (made + 1)
              one_less = omega arith

              goes_on_lem : dealt_on whole sh (turns - (made + 1)) (running (lent s' (set t i reply.worker)) i (made + 1)) ≡ goal
              goes_on_lem =
                  ap (λ (n : Memory). dealt_on whole sh (turns - (made + 1)) (running n i (made + 1))) memory_is
                  ∙ ap (λ (k : ℕ). dealt_on whole sh (turns - (made + 1)) (running result.memory k (made + 1))) is
                  ∙ ap (λ (n : ℕ). dealt_on whole sh n (running result.memory j (made + 1))) (sym one_less)
                  ∙ sym (on whole sh m last made j result served (turns - made) some_left (λ z. omega (arith, z, lasts_less)) (sym goes ∙ split.1))
                  ∙ R.same

              module _ (leak : Bool) (leak-is : leak ≡ leaks_of whole sh s w) where
                leak_here : leak ≡ leaks_of whole sh s (worker t j)
                leak_here = leak-is ∙ ap (leaks_of whole sh s) own

                pub past_leak : leak ≡ true
                    → record { memory = lent s' (set t i reply.worker); dealer = i; turns = made + 1; response = Refused 3 } ≡ goal
                past_leak e =
                    ap (λ (n : Memory). record { memory = n; dealer = i; turns = made + 1; response = Refused 3 }) memory_is
                    ∙ ap (λ (k : ℕ). record { memory = result.memory; dealer = k; turns = made + 1; response = Refused 3 }) is
                    ∙ away whole sh result.memory j (made + 1) (turns - (made + 1)) 3 (λ z. omega (arith, z, lasts_less))
                    (leaked whole sh m last R.able next_exists ok_turn (sym leak_here ∙ e))
                    ∙ ap (λ (k : ℕ). dealt_on whole sh (turns - (made + 1)) (running result.memory k (made + 1))) (sym is)
                    ∙ ap (λ (n : Memory). dealt_on whole sh (turns - (made + 1)) (running n i (made + 1))) (sym memory_is)
                    ∙ goes_on_lem

                pub next_round_lem : leak ≡ false → Round whole sh turns goal s' (set t i reply.worker) i (made + 1)
                next_round_lem e = record {
                  able =
                      subst (λ (n : Memory). Dealable whole sh n i) (sym memory_is)
                      (subst (λ (k : ℕ). Dealable whole sh result.memory k) (sym is)
                      (keeps_on whole sh m last R.able next_exists ok_turn (sym goes ∙ split.1) (sym leak_here ∙ e)));
                  more = lasts_less;
                  same = goes_on_lem;
                }
