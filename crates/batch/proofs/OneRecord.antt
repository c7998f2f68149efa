-- One record of the file on a held pool: what the code does is what the definition says. Assumes nothing.
--     refused_act                   a start or turn that the gate refuses
--     few_workers, did_act          one that it lets in
--     refused_open                  an opening that is refused
--     small_shape, did_open         one that is not
--     with_table                    a record put back
--     goes_on                       a record answered, its line written: the rest of the batch is as it was
use Rattle.std.specs.Prelude.{◌≡◌, refl, List, [], ◌++◌, true, not, ◌≢◌, ℕ, ◌+◌, ◌≤◌, eqb, leb, length, take, set, drop, replicate}
use Rattle.std.proofs.Math.Path.{sym, ap, subst⁻¹}
use Rattle.std.proofs.Common.{◌∙◌, arith, length-set}
use Rattle.std.proofs.Math.Seq.{take-set-lt}
use Rattle.std.proofs.lemmas.List.{set-get_or}
use borrow.Author.Tests.{eq-eqb, ne_eqb}
use Rattle.arrival.specs.declared.Shape.{Shape}
use Rattle.arrival.specs.declared.Worker.{Worker}
use Rattle.arrival.specs.declared.Action.{Action}
use Rattle.arrival.specs.declared.Response.{Response}
use Rattle.arrival.specs.declared.Response.TheVariants.{Opened, Refused}
use Rattle.calendar.specs.rules.Ranges.{blank, worker}
use Rattle.calendar.specs.rules.Refusals.{open_refusal}
use Rattle.calendar.specs.rules.Opening.{open_store, open_table}
use Rattle.calendar.specs.facts.Accepted.{Lent, Usable}
use Rattle.calendar.specs.rules.Operations.{Memory, Result, actor, act, open_pool}
use Rattle.calendar.proofs.facts.Untouched.{act_same_size, open_same_size}
use Rattle.operation.specs.LocalAct.{local_act, LowFor, back}
use Rattle.operation.proofs.LocalAct.{act_is}
use Rattle.operation.specs.Leaks.{action_leaks}
use Rattle.operation.proofs.LeakLaws.{act_watched}
use Rattle.admission.specs.Watched.{Watched}
use Rattle.admission.proofs.Watched.{opened_sound}
use Rattle.admission.specs.Gate.{gate_of, open_gate}
use Rattle.admission.proofs.GateLaws.{gate_opens, refused_is}
use Rattle.laws.specs.Storing.{over_taken}
use Rattle.turn_file.specs.Lines.{line_of}
use Rattle.turn_file.specs.Buffer.{written, after}
use Rattle.turn_file.specs.declared.Record.{Record}
use Rattle.turn_file.specs.declared.Record.TheVariants.{Open, Act}
use Rattle.turn_file.specs.Reading.{record_at, whole}
use Rattle.batch.specs.declared.HeldPool.{HeldPool}
use Rattle.batch.specs.Batch.{Progress, shape_after}
use Rattle.batch.specs.Held.{greater}
use Rattle.batch.specs.Tickets.{tickets_of, low_for}
use Rattle.batch.proofs.TicketLaws.{low_is}
use Rattle.batch.proofs.LentPart.{over_length}
use Rattle.batch.specs.ActHeld.{place_of}
use Rattle.batch.proofs.ActHeld.{own_place}
use Rattle.batch.specs.BatchLoop.{Going, at_work}
use Rattle.batch.proofs.BatchLoop.{go_on}
use Rattle.batch.specs.CodeView.{Sound, lent_records, lent_to, begins}
use Rattle.batch.specs.RoundArms.{Round, Line}
use Rattle.batch.proofs.RoundArms.{counted, gate_here, open_gate_here, passes, in_use, below_64, is_lent, own, no_refusal, lent_to_lem, lent_low}
use Rattle.batch.proofs.RoundArms.{first_round}
use Rattle.batch.specs.OneRecord.{pool_of, with_record, Does}

module _ (d : HeldPool) (s : List ℕ) (S : Sound d s) where
  -- what a round of no bytes tells (proofs/RoundArms)
  R : Round [] (at_work d.shape s (lent_records d) 0 [] 0) d.held (length s) d.records 0 d.shape s d.table 0 [] 0 d.sound d.held
  R = first_round [] d.shape s d.records d.table 0 [] 0 d.sound d.held S.2 S.0 S.1 (length s) 0 refl refl S.3

  -- ── a start or turn ──
  pub refused_act : (a : Action) (k : ℕ) → k ≡ gate_of d.shape (length s) d.records (actor a) d.sound → k ≢ 0
      → Does (Act a) d s (Refused k) (with_record d (place_of a) (worker d.table (place_of a))) s
  refused_act a k is n =
      let g = is ∙ gate_here R (actor a) in
      let r : record { memory = lent_to d s; response = Refused k } ≡ act d.shape (lent_to d s) a =
      ap (λ (j : ℕ). record { memory = lent_to d s; response = Refused j }) g ∙ refused_is d.shape (lent_to d s) d.sound S.2 a (λ z. n (g ∙ z)) in
      subst⁻¹ (λ (t : List Worker). Does (Act a) d s (Refused k) (record { shape = d.shape; sound = d.sound; records = d.records; held = d.held; table = t }) s)
      (set-get_or d.table (place_of a) blank)
      (record {
        pool = λ j. record { shape = d.shape; memory = (r j).memory };
        response = ap (λ (x : Result). x.response) r;
        held = refl;
        records = refl;
        sound = S;
      })

  -- a gate that refuses nothing
  module _ (a : Action) (z : gate_of d.shape (length s) d.records (actor a) d.sound ≡ 0) where
    U : Usable d.shape s (take d.records d.table) (actor a)
    U = in_use R (actor a) (gate_of d.shape (length s) d.records (actor a) d.sound) refl z

    pub few_workers : d.shape.workers ≤ 64
    few_workers = U.lent.limits.workers

    at_place : place_of a ≡ actor a
    at_place = own_place a (below_64 R (actor a) _ refl z)

    enough : d.shape.workers ≤ d.records
    enough = omega (arith, U.lent.table, counted R)

    -- done to it, and not yet put back
    abbrev leaving : ℕ → HeldPool
    leaving i = record {
      shape = d.shape;
      sound = not (action_leaks d.shape s a (worker d.table i));
      records = d.records;
      held = d.held;
      table = d.table;
    }

    done_at : (ts : List ℕ) → ts ≡ tickets_of d.table → (s' : List ℕ) (w' : Worker) (l : Response)
        → record { store = s'; worker = w'; response = l } ≡ local_act d.shape (low_for a ts d.shape.workers) s a (worker d.table (actor a))
        → Does (Act a) d s l (with_record (leaving (actor a)) (actor a) w') s'
    done_at ts beside s' w' l e = record {
      pool = λ j. record { shape = d.shape; memory = (r j).memory };
      response = ap (λ (x : Result). x.response) r;
      held = refl;
      records = refl;
      sound = (
        length-set d.table i w' ∙ S.0,
        S.1,
        subst⁻¹ (λ (x : Result). Watched d.shape x.memory (not (action_leaks d.shape s a (worker d.table i)))) r
            (subst⁻¹ (λ (w : Worker). Watched d.shape (act d.shape m a).memory (not (action_leaks d.shape s a w))) (sym (own R i _ refl z))
            (act_watched d.shape m d.sound S.2 a (passes R i _ refl z))),
        λ up. ap (λ (n : ℕ). open_gate d.shape n d.records) same_length ∙ gate_opens d.shape (length s) d.records i d.sound z,
      );
    }
      where
        i : ℕ
        i = actor a

        m : Memory
        m = lent_to d s

        low : LowFor d.shape d.table a (low_for a ts d.shape.workers)
        low = low_is d.shape d.table ts a (low_for a ts d.shape.workers) beside (omega (arith, few_workers, S.0)) refl

        r : record { memory = record { store = s'; table = take d.records (set d.table i w') }; response = l } ≡ act d.shape m a
        r =
            ap (λ (u : List Worker). record { memory = record { store = s'; table = u }; response = l })
            (take-set-lt d.records d.table i w' (is_lent R i _ refl z))
            ∙ ap (back (take d.records d.table) i) (e ∙ ap (local_act d.shape (low_for a ts d.shape.workers) s a) (sym (own R i _ refl z)))
            ∙ act_is d.shape m d.sound S.2 a (low_for a ts d.shape.workers) (lent_low R a _ low enough) (passes R i _ refl z)

        same_length : length s' ≡ length s
        same_length = ap (λ (x : Result). length x.memory.store) r ∙ (act_same_size d.shape m a).store

    pub did_act : (ts : List ℕ) → ts ≡ tickets_of d.table → (s' : List ℕ) (w' : Worker) (l : Response)
        → record { store = s'; worker = w'; response = l } ≡ local_act d.shape (low_for a ts d.shape.workers) s a (worker d.table (place_of a))
        → Does (Act a) d s l (with_record (leaving (place_of a)) (place_of a) w') s'
    did_act ts beside s' w' l =
        subst⁻¹ (λ (i : ℕ). record { store = s'; worker = w'; response = l } ≡ local_act d.shape (low_for a ts d.shape.workers) s a (worker d.table i)
        → Does (Act a) d s l (with_record (leaving i) i w') s') at_place (done_at ts beside s' w' l)

  -- ── an opening ──
  pub refused_open : (sh : Shape) (k : ℕ) → k ≡ open_gate sh (length s) d.records → k ≢ 0 → Does (Open sh) d s (Refused k) d s
  unfolding open_pool
  refused_open sh k is n =
      let g = is ∙ open_gate_here R sh in
      let none = ne_eqb (open_refusal sh s (take d.records d.table)) 0 (λ z. n (g ∙ z)) in
      record { pool = rw none; response = rw (none, g); held = rw none; records = refl; sound = S }

  module _ (sh : Shape) (z : open_gate sh (length s) d.records ≡ 0) where
    fits : Lent sh s (take d.records d.table)
    fits = lent_to_lem R sh _ refl z

    pub small_shape : sh.workers ≤ 64
    small_shape = fits.limits.workers

    pub did_open : (s' : List ℕ) → s' ≡ open_store sh s → (t' : List Worker) → t' ≡ replicate sh.workers blank ++ drop sh.workers d.table
        → (h' : ℕ) → h' ≡ greater d.held sh.workers
        → Does (Open sh) d s Opened (record { shape = sh; sound = true; records = d.records; held = h'; table = t' }) s'
    unfolding open_pool open_table
    did_open s' store t' table h' held = record {
      pool = λ j. record { shape = shape j; memory = (r j).memory };
      response = ap (λ (x : Result). x.response) r;
      held = rw (all, held);
      records = refl;
      sound = (
        ap length table ∙ over_length blank d.table sh.workers (omega (arith, small_shape, S.0)) ∙ S.0,
        S.1,
        λ _. rw (store, first) (sym (opened_sound sh (lent_to d s) fits.limits)),
        λ _. ap (λ (n : ℕ). open_gate sh n d.records) same_length ∙ z,
      );
    }
      where
        all : eqb (open_refusal sh s (take d.records d.table)) 0 ≡ true
        all = eq-eqb (open_refusal sh s (take d.records d.table)) 0 (no_refusal R sh _ refl z)

        first : take d.records t' ≡ open_table sh (take d.records d.table)
        first = ap (take d.records) table
            ∙ over_taken blank d.records d.table sh.workers (omega (arith, fits.table, counted R)) (omega (arith, S.0, S.1))

        shape : sh ≡ shape_after (Open sh) (pool_of d s)
        shape = rw all

        r : record { memory = record { store = s'; table = take d.records t' }; response = Opened } ≡ open_pool sh (lent_to d s)
        r = rw (all, store, first)

        same_length : length s' ≡ length s
        same_length = ap (λ (x : Result). length x.memory.store) r ∙ (open_same_size sh (lent_to d s)).store

-- the record put back, by the table that it is then
pub with_table : {r : Record} {d : HeldPool} {s s' : List ℕ} {l : Response} (d' : HeldPool) (i : ℕ) (w : Worker) → Does r d s l (with_record d' i w) s'
    → (t : List Worker) → t ≡ set d'.table i w
    → Does r d s l (record { shape = d'.shape; sound = d'.sound; records = d'.records; held = d'.held; table = t }) s'
with_table {r} {d} {s} {s'} {l} d' i w D t is =
    subst⁻¹ (λ (u : List Worker). Does r d s l (record { shape = d'.shape; sound = d'.sound; records = d'.records; held = d'.held; table = u }) s') is D

-- ── its line ──
pub goes_on : {bytes : List ℕ} {p₀ : Progress} {h₀ at to : ℕ} {lines : List ℕ} {d d' : HeldPool} {s s' : List ℕ} {l : Response}
    → Going bytes p₀ h₀ (begins d s at lines to) d.held d.sound → leb (to + 89) (length lines) ≡ true
    → (r : Record) (next : ℕ) → whole r next ≡ record_at bytes at → Does r d s l d' s' → {lines' : List ℕ} {to' : ℕ} → Line lines to l lines' to'
    → Going bytes p₀ h₀ (begins d' s' next lines' to') d'.held d'.sound
goes_on {bytes} {p₀} {h₀} {at} {to} {lines} {d} {d'} {s} {s'} {l} G room r next e D {lines'} {to'} line =
    go_on bytes p₀ h₀ (begins d s at lines to) d.held d.sound G room r next e (begins d' s' next lines' to')
    (λ j. record {
      pool = D.pool j;
      at = next;
      lines = (line.1 ∙ ap (λ (x : Response). written lines to (line_of x)) D.response) j;
      to = (line.0 ∙ ap (λ (x : Response). after lines to (line_of x)) D.response) j;
    }) d'.held D.held d'.sound D.sound.2
