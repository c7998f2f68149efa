-- What the by-value functions leave, and that it is what the operations of the pool are defined to give.
--     put_back                       memory and response; what is done on one record, put back in the table
--     answered                       the claims of a function that does what is requested, and of one that answers it
--     refused_on, done_on             refused by 1 to 4, or done; by what the gate said
--     admits                         what the gate lets pass may be worked on
--     acted                          what is done on one record and put back is what was requested
--     away_is                        so is the refusal of a worker past the workers' records
--     away_at, none_let               by what the code has found: it is refused, and the gate lets none pass
--     tells_at, done_at, refused_at    of a worker with a record: what the look tells of it; worked on and put back, or refused
--     opened_bound                    no more than there are
--     opened_is                       with the store opened and the records cleared it is the opening
--     open_refused, open_done          what refuses it, and what it leaves
--     open_is                         the same of its answer
-- Assumes nothing.
use Rattle.std.specs.Prelude.{◌≡◌, List, ◌++◌, ◌≢◌, ℕ, zero, suc, ◌<◌, ◌≤◌, eqb, ltb, length, set, drop, replicate, is_ok}
use Rattle.std.proofs.Math.Path.{refl}
use Rattle.std.proofs.Common.{sym, ap, ◌∙◌, arith}
use Rattle.std.proofs.Math.Bool.{Bool, true, false, cond}
use Rattle.std.proofs.lemmas.List.{set-get_or}
use borrow.Author.Tests.{eqb-true, eqb-false, ltb-false, le-leb, lt-leb, le-ltb, eq-eqb, ne_eqb}
use Rattle.arrival.specs.declared.Shape.{Shape}
use Rattle.arrival.specs.declared.Worker.{Worker}
use Rattle.arrival.specs.declared.Response.{Response}
use Rattle.arrival.specs.declared.Response.TheVariants.{Opened, Refused}
use Rattle.arrival.specs.declared.Action.{Action}
use Rattle.arrival.specs.declared.Action.TheVariants.{Enqueue, Dequeue, Step}
use Rattle.arrival.specs.declared.Request.{Request}
use Rattle.arrival.specs.declared.Request.TheVariants.{Whole, Narrow}
use Rattle.arrival.specs.Requests.{actor, action_of, turns_of, is_whole, looks_at_all}
use Rattle.calendar.specs.rules.Ranges.{blank, worker, record_in_range, table_in_range}
use Rattle.calendar.specs.rules.Opening.{open_store, open_table}
use Rattle.calendar.specs.rules.Refusals.{open_refusal}
use Rattle.calendar.specs.rules.Operations.{Memory, Result, act, open_pool}
use Rattle.calendar.specs.rules.NarrowCalls.{records_in_range, narrow_act, turns_after, narrow_call}
use Rattle.calendar.specs.rules.HostHistory.{requested}
use Rattle.calendar.specs.facts.Accepted.{Lent}
use Rattle.calendar.proofs.facts.RangeFacts.{record_ranges}
use Rattle.words.specs.Done.{Done, gives, refuses, refused}
use Rattle.words.specs.declared.replies.Reply.{Reply}
use Rattle.operation.specs.LocalAct.{local_act, Admitted, LowFor, back}
use Rattle.operation.proofs.LocalAct.{act_is, narrow_is}
use Rattle.operation.specs.LocalTurns.{local_turns}
use Rattle.operation.proofs.LocalTurns.{act_length, turns_back}
use Rattle.starts.specs.LeastTicket.{least_ticket}
use Rattle.admission.specs.Watched.{Watched}
use Rattle.admission.specs.Gate.{gate_of, sound_of, open_gate, open_response}
use Rattle.admission.proofs.GateLaws.{sound_watched, shape_tests, refused_is, open_passed}
use Rattle.admission.specs.NarrowGate.{RecordsSeen}
use Rattle.admission.proofs.NarrowGate.{narrow_away}
use Rattle.wubraken.specs.declared.answers.Answer.{Answer}
use Rattle.wubraken.specs.Answers.{answer_of}
use Rattle.wubraken.proofs.AnswerLaws.{answer_said}
use Rattle.wubraken.specs.Survey.{Survey, Surveyed, surveyed, survey, low_of}
use Rattle.wubraken.proofs.Survey.{surveyed_worker, survey_none, survey_ok_is, survey_low_is, survey_tells}
use Rattle.wubraken.specs.LentGate.{flag_of, gate_on}
use Rattle.wubraken.proofs.LentGate.{passed}
use Rattle.wubraken.specs.Results.{lent, leaves, told, gave, ActsAs, AnswersAs, near_by, act_on, records_opened}

-- what is done on one record, put back
pub put_back : (t : List Worker) (i : ℕ) (s : List ℕ) (r : Reply) (d : Done) → gives s r ≡ d → gave s (set t i r.worker) r.response ≡ back t i d
put_back t i s r d given = ap (λ (e : Done). back t i e) given

pub answered : (sh : Shape) (q : Request) (s : List ℕ) (t : List Worker) (r : Response) (a : Answer) (s' : List ℕ) (t' : List Worker)
    → ActsAs sh q s t r s' t' → a ≡ answer_of r → AnswersAs sh q s t a s' t'
answered sh q s t r a s' t' acts answers =
    (λ k. leaves s' t' (answers k)) ∙ (λ k. record { memory = lent s' t'; answer = answer_of r; said = answer_said r k }) ∙ ap told acts

-- by what the gate said
module _ (sh : Shape) (q : Request) (n : ℕ) (seen : Survey) (s : List ℕ) (w : Worker) (k : ℕ)
    (is : k ≡ gate_on (is_whole q) sh s (actor (action_of q)) n (near_by sh q seen w)) where
  pub refused_on : k ≢ 0 → refused s w k ≡ act_on sh q n seen s w
  unfolding act_on
  refused_on h = rw (← is, ne_eqb k 0 h)

  pub done_on : k ≡ 0 → local_turns sh (turns_of q) (local_act sh (low_of seen) s (action_of q) w) ≡ act_on sh q n seen s w
  unfolding act_on
  done_on z = rw (← is, eq-eqb k 0 z)

-- what no refusal of the gate's leaves: the record may be worked on
pub admits : (sh : Shape) (q : Request) (n : ℕ) (seen : Survey) (s : List ℕ) (w : Worker) → Surveyed sh q seen w
    → gate_on (is_whole q) sh s (actor (action_of q)) n (near_by sh q seen w) ≡ 0 → Admitted sh s w
admits sh q n seen s w S z =
    let p = passed (is_whole q) sh s (actor (action_of q)) n (near_by sh q seen w) z in
    record { limits = p.limits; laid = p.laid; words = p.words; worker = record_ranges sh w (go (looks_at_all q) refl p.records) }
  where
    go : (b : Bool) → looks_at_all q ≡ b → cond b (is_ok seen) (record_in_range sh w) ≡ true → record_in_range sh w ≡ true
    go true e ok = S.ranged e ok
    go false e ok = ok

-- the first start or turn of a request
abbrev first : Shape → Memory → Request → Result
first sh m q = cond (is_whole q) (act sh m (action_of q)) (narrow_act sh m (action_of q))

request_is : (sh : Shape) (m : Memory) (q : Request) → turns_after sh (actor (action_of q)) (turns_of q) (first sh m q) ≡ requested sh m q
unfolding turns_after narrow_call
request_is sh m (Whole a) = refl
request_is sh m (Narrow a n) = refl

-- what is refused has no turns behind it
nothing_after : (sh : Shape) (i n k : ℕ) (m : Memory) → turns_after sh i n (record { memory = m; response = Refused k }) ≡ record
    { memory = m; response = Refused k }
unfolding turns_after
nothing_after sh i zero k m = refl
nothing_after sh i (suc n) k m = refl

module _ (sh : Shape) (s : List ℕ) (t : List Worker) (q : Request) where
  abbrev m : Memory
  m = record { store = s; table = t }

  abbrev a : Action
  a = action_of q

  abbrev i : ℕ
  i = actor (action_of q)

  abbrev gate : Bool → ℕ
  gate ok = gate_on (is_whole q) sh s (actor (action_of q)) (length t) ok

  -- a flag for the records that says what the request asks
  abbrev Tells : Bool → Type 0
  Tells ok = Lent sh s t → ok ≡ cond (is_whole q) (table_in_range sh t) (records_in_range sh t (action_of q))

  module _ (ok : Bool) (tells : Tells ok) where
    W : is_whole q ≡ true → Watched sh m (sound_of sh s (length t) ok)
    W e = sound_watched sh m ok (λ l. tells l ∙ rw e)

    N : is_whole q ≡ false → RecordsSeen sh m a ok
    N e = λ l. tells l ∙ rw e

    -- what the gate refuses does nothing
    first_refused : gate ok ≢ 0 → record { memory = m; response = Refused (gate ok) } ≡ first sh m q
    unfolding gate_on
    first_refused = go (is_whole q) refl
      where
        go : (b : Bool) → is_whole q ≡ b → gate_of sh (length s) (length t) i (flag_of b sh s (length t) ok) ≢ 0
            → record { memory = m; response = Refused (gate_of sh (length s) (length t) i (flag_of b sh s (length t) ok)) } ≡ cond b (act sh m a)
            (narrow_act sh m a)
        go true e n = refused_is sh m (sound_of sh s (length t) ok) (W e) a n
        go false e n = narrow_away sh m a ok (N e) n

    gate_refuses : gate ok ≢ 0 → record { memory = m; response = Refused (gate ok) } ≡ requested sh m q
    gate_refuses n =
        sym (nothing_after sh i (turns_of q) (gate ok) m) ∙ ap (turns_after sh i (turns_of q)) (first_refused n) ∙ request_is sh m q

    -- what it lets pass is done
    first_done : gate ok ≡ 0 → (low : ℕ) → LowFor sh t a low → back t i (local_act sh low s a (worker t i)) ≡ first sh m q
    unfolding gate_on
    first_done z low f = go (is_whole q) refl z
      where
        go : (b : Bool) → is_whole q ≡ b → gate_of sh (length s) (length t) i (flag_of b sh s (length t) ok) ≡ 0
            → back t i (local_act sh low s a (worker t i)) ≡ cond b (act sh m a) (narrow_act sh m a)
        go true e z = act_is sh m (sound_of sh s (length t) ok) (W e) a low f z
        go false e z = narrow_is sh m a ok (N e) low f z

    gate_lets : gate ok ≡ 0 → (low : ℕ) → LowFor sh t a low
        → back t i (local_turns sh (turns_of q) (local_act sh low s a (worker t i))) ≡ requested sh m q
    gate_lets z low f =
        let p = passed (is_whole q) sh s i (length t) ok z in
        turns_back sh t i p.limits p.worker p.table (turns_of q) (local_act sh low s a (worker t i))
        (omega (arith, p.laid.fits, act_length sh low s a (worker t i)))
        ∙ ap (turns_after sh i (turns_of q)) (first_done z low f) ∙ request_is sh m q

  -- the look at the table tells what is asked of the records,
  table_is : Lent sh s t → looks_at_all q ≡ true → is_ok (survey sh q t) ≡ table_in_range sh t
  table_is l = survey_ok_is sh q t (shape_tests sh l.limits) (le-ltb (length t) sh.workers l.table)

  tells_near : i < sh.workers → Tells (near_by sh q (survey sh q t) (worker t i))
  tells_near h l = go q (table_is l) h
    where
      go : (q : Request) → (looks_at_all q ≡ true → is_ok (survey sh q t) ≡ table_in_range sh t) → actor (action_of q) < sh.workers
          → near_by sh q (survey sh q t) (worker t (actor (action_of q))) ≡ cond (is_whole q) (table_in_range sh t) (records_in_range sh t (action_of q))
      go (Whole x) e h = e refl
      go (Narrow (Enqueue j x) n) e h = e refl
      go (Narrow (Dequeue j) n) e h = rw (lt-leb sh.workers j h)
      go (Narrow (Step j) n) e h = rw (lt-leb sh.workers j h)

  tells_away : sh.workers ≤ i → Tells (is_ok (survey sh q t))
  tells_away h l = go q (table_is l) (survey_none sh q t) h
    where
      go : (q : Request) → (looks_at_all q ≡ true → is_ok (survey sh q t) ≡ table_in_range sh t) → (looks_at_all q ≡ false → is_ok (survey sh q t) ≡ true)
          → sh.workers ≤ actor (action_of q) → is_ok (survey sh q t) ≡ cond (is_whole q) (table_in_range sh t) (records_in_range sh t (action_of q))
      go (Whole x) e f h = e refl
      go (Narrow (Enqueue j x) n) e f h = e refl
      go (Narrow (Dequeue j) n) e f h = rw (le-leb sh.workers j h) (f refl)
      go (Narrow (Step j) n) e f h = rw (le-leb sh.workers j h) (f refl)

  -- and, where they are in range, the least ticket
  low_is : Lent sh s t → looks_at_all q ≡ true → is_ok (survey sh q t) ≡ true → low_of (survey sh q t) ≡ least_ticket t sh.workers
  low_is l all = survey_low_is sh q t (shape_tests sh l.limits) (le-ltb (length t) sh.workers l.table) all

  low_for_lem : Lent sh s t → near_by sh q (survey sh q t) (worker t i) ≡ true → LowFor sh t a (low_of (survey sh q t))
  low_for_lem l = go q (low_is l)
    where
      go : (q : Request) → (looks_at_all q ≡ true → is_ok (survey sh q t) ≡ true → (low_of (survey sh q t)) ≡ least_ticket t sh.workers)
          → near_by sh q (survey sh q t) (worker t (actor (action_of q))) ≡ true → LowFor sh t (action_of q) (low_of (survey sh q t))
      go (Whole (Enqueue j x)) e ok = e refl ok
      go (Whole (Dequeue j)) e ok = tt
      go (Whole (Step j)) e ok = tt
      go (Narrow (Enqueue j x) n) e ok = e refl ok
      go (Narrow (Dequeue j) n) e ok = tt
      go (Narrow (Step j) n) e ok = tt

  -- What is done on one record, where the worker has one, and put back is what was requested.
  pub acted : i < surveyed sh (length t) → back t i (act_on sh q (length t) (survey sh q t) s (worker t i)) ≡ requested sh (lent s t) q
  unfolding act_on
  acted h = go (eqb (gate near) 0) refl
    where
      near : Bool
      near = near_by sh q (survey sh q t) (worker t i)

      exists : i < sh.workers
      exists = surveyed_worker sh (length t) i h

      go : (b : Bool) → eqb (gate near) 0 ≡ b
          → back t i (cond b (local_turns sh (turns_of q) (local_act sh (low_of (survey sh q t)) s a (worker t i))) (refused s (worker t i) (gate near))) ≡
          requested sh m q
      go true e =
          let z = eqb-true _ 0 e in
          let p = passed (is_whole q) sh s i (length t) near z in
          gate_lets near (tells_near exists) z (low_of (survey sh q t))
          (low_for_lem (record { limits = p.limits; store = p.laid.fits; table = p.table }) p.records)
      go false e =
          ap (λ (u : List Worker). record { memory = lent s u; response = Refused (gate near) }) (set-get_or t i blank)
          ∙ gate_refuses near (tells_near exists) (eqb-false _ 0 e)

  -- Past the workers' records there is no worker, or the gate refuses anyway.
  pub away_is : ltb i (surveyed sh (length t)) ≡ false
      → gave s t (Refused (gate_on (is_whole q) sh s i (length t) (is_ok (survey sh q t)))) ≡ requested sh (lent s t) q
  away_is beyond = gate_refuses (is_ok (survey sh q t)) tells (λ z.
      let p = passed (is_whole q) sh s i (length t) (is_ok (survey sh q t)) z in
      omega (arith, p.worker, past (record { limits = p.limits; store = p.laid.fits; table = p.table })))
    where
      past : Lent sh s t → sh.workers ≤ i
      past l =
          let all : surveyed sh (length t) ≡ sh.workers = rw (shape_tests sh l.limits, le-ltb (length t) sh.workers l.table) in
          omega (arith, ltb-false i (surveyed sh (length t)) beyond, all)

      tells : Tells (is_ok (survey sh q t))
      tells l = tells_away (past l) l

  -- A worker without a record is refused.
  pub away_at : (seen : Survey) (near : Bool) (k : ℕ) → surveyed sh (length t) ≤ i → seen ≡ survey sh q t → near ≡ is_ok seen → k ≡ gate near
      → gave s t (Refused k) ≡ requested sh (lent s t) q
  away_at seen near k h looked is gated =
      ap (λ (j : ℕ). gave s t (Refused j)) (gated ∙ ap gate (is ∙ ap (λ (o : Survey). is_ok o) looked)) ∙ away_is (le-ltb i _ h)

  pub none_let : (near : Bool) → surveyed sh (length t) ≤ i → gate near ≡ 0 → ⊥
  none_let near h z =
      let p = passed (is_whole q) sh s i (length t) near z in
      let all : surveyed sh (length t) ≡ sh.workers = rw (shape_tests sh p.limits, le-ltb (length t) sh.workers p.table) in
      omega (arith, p.worker, all)

  -- Of a worker with a record, by what the code has found: the look tells of it,
  module _ (h : i < surveyed sh (length t)) (seen : Survey) (j : ℕ) (looked : seen ≡ survey sh q t) (is : j ≡ i) where
    pub tells_at : Surveyed sh q seen (worker t j)
    tells_at = rw (looked, is) (survey_tells sh q t i h)

    -- what is done on it, put back, is what was requested,
    pub done_at : (s' : List ℕ) (r : Reply) → gives s' r ≡ act_on sh q (length t) seen s (worker t j)
        → gave s' (set t j r.worker) r.response ≡ requested sh (lent s t) q
    done_at s' r given =
        put_back t j s' r _ given ∙ (λ k. back t (is k) (act_on sh q (length t) (looked k) s (worker t (is k)))) ∙ acted h

    -- and what is refused leaves the table.
    pub refused_at : (s' : List ℕ) (k : ℕ) → gives s' (refuses (worker t j) k) ≡ act_on sh q (length t) seen s (worker t j)
        → gave s' t (Refused k) ≡ requested sh (lent s t) q
    refused_at s' k given =
        sym (ap (λ (u : List Worker). record { memory = lent s' u; response = Refused k }) (set-get_or t j blank))
        ∙ done_at s' (refuses (worker t j) k) given

-- no more than there are
pub opened_bound : (sh : Shape) (s : List ℕ) (n k : ℕ) → k ≡ open_gate sh (length s) n → records_opened sh k ≤ n
opened_bound sh s n k e = go (eqb k 0) refl
  where
    go : (b : Bool) → eqb k 0 ≡ b → cond b sh.workers 0 ≤ n
    go true z = (open_passed sh (length s) n (sym e ∙ eqb-true k 0 z)).2
    go false z = omega arith

-- with the store opened and the records cleared it is the opening
module _ (sh : Shape) (s : List ℕ) (t : List Worker) (k : ℕ) (s' : List ℕ) (is : k ≡ open_gate sh (length s) (length t))
    (opened : s' ≡ cond (eqb (open_gate sh (length s) (length t)) 0) (open_store sh s) s) where
  pub opened_is : gave s' (replicate (records_opened sh k) blank ++ drop (records_opened sh k) t) (open_response k) ≡ open_pool sh (lent s t)
  unfolding open_gate open_pool open_refusal open_table
  opened_is = rw (is, opened) (go (eqb (open_gate sh (length s) (length t)) 0))
    where
      go : (b : Bool)
          → gave (cond b (open_store sh s) s) (replicate (cond b sh.workers 0) blank ++ drop (cond b sh.workers 0) t)
          (cond b Opened (Refused (open_gate sh (length s) (length t))))
          ≡ cond b (record { memory = lent (open_store sh s) (replicate sh.workers blank ++ drop sh.workers t); response = Opened })
          (record { memory = lent s t; response = Refused (open_gate sh (length s) (length t)) })
      go true = refl
      go false = refl

  pub open_refused : k ≢ 0 → gave s' t (Refused k) ≡ open_pool sh (lent s t)
  open_refused n = rw (ne_eqb k 0 n) at opened_is

  pub open_done : k ≡ 0 → gave s' (replicate sh.workers blank ++ drop sh.workers t) Opened ≡ open_pool sh (lent s t)
  open_done z = rw (eq-eqb k 0 z) at opened_is

  pub open_is : leaves s' (replicate (records_opened sh k) blank ++ drop (records_opened sh k) t) (answer_of (open_response k)) ≡ told (open_pool sh (lent s t))
  open_is =
      (λ j. record {
        memory = lent s' (replicate (records_opened sh k) blank ++ drop (records_opened sh k) t);
        answer = answer_of (open_response k);
        said = answer_said (open_response k) j;
      }) ∙ ap told opened_is
