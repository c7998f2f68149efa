-- One start or turn of one record, over `Action`: refused by one of its own refusals, or what its rule does. Assumes nothing.
--     local_enqueue_lem, local_dequeue_lem, local_step_lem  what the code of the three gives is that
--     admitted                                  what it may count on; what refusals 1 to 4 leave is enough
--     act_is, narrow_is                         put back into the table, it is the action on the lent memory, by a look at all of it or a narrow one
use Rattle.std.specs.Prelude.{◌≡◌, refl, List, Bool, true, false, cond, ℕ, ◌<◌, ◌≤◌, eqb, length}
use Rattle.std.proofs.Common.{ap, ◌∙◌, arith}
use Rattle.std.proofs.lemmas.List.{set-get_or}
use borrow.Author.Tests.{lt-leb, eq-eqb}
use Rattle.arrival.specs.declared.Shape.{Shape}
use Rattle.arrival.specs.declared.Arrival.{Arrival}
use Rattle.arrival.specs.declared.Worker.{Worker}
use Rattle.arrival.specs.declared.Action.{Action}
use Rattle.arrival.specs.declared.Action.TheVariants.{Enqueue, Dequeue, Step}
use Rattle.arrival.specs.declared.Response.TheVariants.{Refused}
use Rattle.calendar.specs.rules.Ranges.{blank, worker}
use Rattle.laws.specs.FirstOf.{first_of}
use Rattle.calendar.specs.rules.Operations.{Memory, unless, perform, actor, outcome, act}
use Rattle.calendar.specs.rules.NarrowCalls.{records_in_range, narrow_act}
use Rattle.calendar.specs.facts.RangeFacts.{RecordRanges}
use Rattle.calendar.proofs.facts.RangeFacts.{table_ranges}
use Rattle.calendar.specs.facts.Accepted.{Usable}
use Rattle.words.specs.Laid.{laid}
use Rattle.words.specs.Done.{done, refused, unless_refused}
use Rattle.stages.specs.Ready.{Ready}
use Rattle.stages.specs.LocalStep.{local_step}
use Rattle.starts.specs.FreeSearch.{first_free_is}
use Rattle.starts.specs.LocalStart.{local_enqueue, local_dequeue}
use Rattle.admission.specs.Watched.{Watched}
use Rattle.admission.specs.Gate.{gate_of}
use Rattle.admission.specs.Gate.{own_of}
use Rattle.admission.proofs.GateLaws.{usable, refusal_is}
use Rattle.admission.specs.NarrowGate.{near_of, RecordsSeen}
use Rattle.admission.proofs.NarrowGate.{near_passed, narrow_first}
use Rattle.operation.specs.LocalAct.{local_act, Admitted, back, LowFor, TicketsFor}

pub local_enqueue_lem : (sh : Shape) (low : ℕ) (s : List ℕ) (i : ℕ) (x : Arrival) (w : Worker) → local_enqueue sh low s x w ≡ local_act sh low s (Enqueue i x) w
unfolding local_act local_enqueue
local_enqueue_lem sh low s i x w = refl

pub local_dequeue_lem : (sh : Shape) (low : ℕ) (s : List ℕ) (i : ℕ) (w : Worker) → local_dequeue sh s w ≡ local_act sh low s (Dequeue i) w
unfolding local_act local_dequeue
local_dequeue_lem sh low s i w = refl

pub local_step_lem : (sh : Shape) (low : ℕ) (s : List ℕ) (i : ℕ) (w : Worker) → w.stage ≤ 13 → local_step sh s w ≡ local_act sh low s (Step i) w
unfolding local_act local_step
local_step_lem sh low s i w most = rw (lt-leb 14 w.stage (omega arith))

pub ready : (sh : Shape) (s : List ℕ) (w : Worker) → Admitted sh s w → Ready sh s w
ready sh s w A = record { laid = A.laid; started = A.words.started; worker = A.worker }

pub admitted : (sh : Shape) (s : List ℕ) (t : List Worker) (i : ℕ) → Usable sh s t i → Admitted sh s (worker t i)
admitted sh s t i U = record {
  limits = U.lent.limits;
  laid = laid sh s U.lent.limits U.lent.store;
  words = record { current = U.store.current; started = U.store.started; last = U.store.last };
  worker = U.table i U.exists;
}

module _ (sh : Shape) (m : Memory) where
  put_back : (a : Action)
      → back m.table (actor a) (unless_refused (first_of (own_of sh m a)) m.store (worker m.table (actor a)) (done sh m.store (outcome sh m a)))
      ≡ unless (first_of (own_of sh m a)) m (perform sh m (actor a) (outcome sh m a))
  put_back a = go (eqb (first_of (own_of sh m a)) 0)
    where
      go : (b : Bool) → back m.table (actor a) (cond b (done sh m.store (outcome sh m a)) (refused m.store (worker m.table (actor a))
          (first_of (own_of sh m a))))
          ≡ cond b (perform sh m (actor a) (outcome sh m a)) (record { memory = m; response = Refused (first_of (own_of sh m a)) })
      go true = refl
      go false =
          ap (λ (t : List Worker). record { memory = record { store = m.store; table = t }; response = Refused (first_of (own_of sh m a)) })
          (set-get_or m.table (actor a) blank)

  -- where only its own refusals are left
  local_is : (a : Action) (low : ℕ) → LowFor sh m.table a low → TicketsFor sh m.table a
      → back m.table (actor a) (local_act sh low m.store a (worker m.table (actor a)))
      ≡ unless (first_of (own_of sh m a)) m (perform sh m (actor a) (outcome sh m a))
  unfolding local_act
  local_is (Enqueue i x) low e small = rw (e, first_free_is sh m.store m.table small) (put_back (Enqueue i x))
  local_is (Dequeue i) low e small = put_back (Dequeue i)
  local_is (Step i) low e small = put_back (Step i)

  all_tickets : (a : Action) → ((j : ℕ) → j < sh.workers → RecordRanges sh (worker m.table j)) → TicketsFor sh m.table a
  all_tickets (Enqueue i x) h = λ j l. (h j l).ticket
  all_tickets (Dequeue i) h = tt
  all_tickets (Step i) h = tt

  pub act_is : (sound : Bool) → Watched sh m sound → (a : Action) (low : ℕ) → LowFor sh m.table a low
      → gate_of sh (length m.store) (length m.table) (actor a) sound ≡ 0
      → back m.table (actor a) (local_act sh low m.store a (worker m.table (actor a))) ≡ act sh m a
  unfolding act
  act_is sound watched a low e z =
      local_is a low e (all_tickets a (usable sh m sound watched (actor a) z).table)
      ∙ rw (refusal_is sh m sound watched a, eq-eqb (gate_of sh (length m.store) (length m.table) (actor a) sound) 0 z)

  near_tickets : (a : Action) → records_in_range sh m.table a ≡ true → TicketsFor sh m.table a
  near_tickets (Enqueue i x) h = λ j l. (table_ranges sh m.table h j l).ticket
  near_tickets (Dequeue i) h = tt
  near_tickets (Step i) h = tt

  pub narrow_is : (a : Action) (ok : Bool) → RecordsSeen sh m a ok → (low : ℕ) → LowFor sh m.table a low
      → gate_of sh (length m.store) (length m.table) (actor a) (near_of sh m.store (length m.table) ok) ≡ 0
      → back m.table (actor a) (local_act sh low m.store a (worker m.table (actor a))) ≡ narrow_act sh m a
  unfolding narrow_act
  narrow_is a ok seen low e z =
      local_is a low e (near_tickets a (near_passed sh m a ok seen z).records)
      ∙ rw (narrow_first sh m a ok seen, eq-eqb _ 0 z)
