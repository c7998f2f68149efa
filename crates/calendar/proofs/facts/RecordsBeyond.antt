-- Records beyond the workers are not read: on a longer table an operation does the same, and keeps the rest.
--     act_same, open_same                              where the table has a record for each worker they do not matter, and are kept
--     open_refusal_beyond, act_beyond, open_beyond     so it is with 64 records, for any shape
-- Assumes nothing.
use Rattle.std.specs.Prelude.{◌≡◌, Bool, ltb, length}
use Rattle.std.proofs.Math.Path.{refl, sym, ap}
use Rattle.std.proofs.Common.{◌∙◌, arith, length-append}
use mathlib.Core.List.{List, ◌++◌, append_assoc}
use Rattle.std.proofs.Math.Bool.{true, false, cond, not}
use Prim.Native.Nat.{ℕ, zero, suc, ◌<◌, ◌≤◌, ◌-◌}
use Rattle.std.proofs.Math.Dec.{eqb}
use Rattle.std.proofs.Math.ListN.{drop, replicate, get_or-append}
use Rattle.std.proofs.lemmas.List.{set-append_left, drop-append-le}
use borrow.Author.Tests.{eqb-true, eqb-false, le-ltb}
use Rattle.arrival.specs.declared.Shape.{Shape}
use Rattle.arrival.specs.declared.Worker.{Worker}
use Rattle.arrival.specs.declared.Action.{Action}
use Rattle.arrival.specs.declared.Response.TheVariants.{Opened, Refused}
use Rattle.laws.proofs.Counting.{every_same}
use Rattle.calendar.specs.rules.Ranges.{shape_in_range, blank, worker, record_in_range, table_in_range}
use Rattle.calendar.specs.rules.Reclaim.{started_by, is_free, node_after, first_free_of, first_free}
use Rattle.calendar.specs.rules.Layout.{standing}
use Rattle.calendar.specs.rules.Opening.{open_store, open_table}
use Rattle.calendar.specs.rules.Refusals.{memory_of, open_refusal}
use Rattle.calendar.specs.rules.Operations.{Memory, perform, actor, refusal, outcome, act, open_pool}
use Rattle.calendar.proofs.facts.RangeFacts.{limits}
use Rattle.calendar.proofs.facts.Accepted.{open_accepted}
use Rattle.calendar.specs.facts.RefusalParts.{own_of}
use Rattle.calendar.proofs.facts.RefusalParts.{act_accepted, refused_first, refusal_alike}
use Rattle.calendar.specs.facts.RecordsBeyond.{longer, keeping}

-- ── a table with a record for each worker ──
module _ (sh : Shape) (s : List ℕ) (t u : List Worker) (long : sh.workers ≤ length t) where
  abbrev m : Memory
  m = record { store = s; table = t }

  same : (i : ℕ) → i < sh.workers → worker (t ++ u) i ≡ worker t i
  same i h = get_or-append t u blank i (omega (arith, long, h))

  long_enough : ltb (length (t ++ u)) sh.workers ≡ ltb (length t) sh.workers
  long_enough = le-ltb (length (t ++ u)) sh.workers (omega (arith, long, length-append t u)) ∙ sym (le-ltb (length t) sh.workers long)

  table_same : table_in_range sh (t ++ u) ≡ table_in_range sh t
  unfolding table_in_range
  table_same = every_same _ _ sh.workers (λ k h. ap (record_in_range sh) (same k h))

  free_same : (x : ℕ) → is_free sh (t ++ u) x ≡ is_free sh t x
  unfolding is_free
  free_same x =
      rw (every_same (λ i. not (started_by (x - 2) (worker (t ++ u) i))) (λ i. not (started_by (x - 2) (worker t i))) sh.workers
      (λ k h. ap (λ w. not (started_by (x - 2) w)) (same k h)))

  first_of_same : (k n : ℕ) → first_free_of sh s (t ++ u) k n ≡ first_free_of sh s t k n
  unfolding first_free_of
  first_of_same zero n = refl
  first_of_same (suc k) n = rw (free_same (standing sh s (node_after sh n)), first_of_same k (node_after sh n))

  first_same : first_free sh s (t ++ u) ≡ first_free sh s t
  unfolding first_free
  first_same = first_of_same sh.nodes _

  memory_same : (i : ℕ) → memory_of sh s (t ++ u) i ≡ memory_of sh s t i
  memory_same i = rw (long_enough, table_same)

  own_same : (a : Action) → actor a < sh.workers → own_of sh (record { store = s; table = t ++ u }) a ≡ own_of sh (record { store = s; table = t }) a
  own_same a h = rw (same (actor a) h, first_same)

  refusal_same : (a : Action) → refusal sh (record { store = s; table = t ++ u }) a ≡ refusal sh (record { store = s; table = t }) a
  refusal_same a = refusal_alike sh (longer m u) m a (memory_same (actor a)) (λ U. own_same a U.exists)

  outcome_same : (a : Action) → actor a < sh.workers → outcome sh (record { store = s; table = t ++ u }) a ≡ outcome sh (record { store = s; table = t }) a
  outcome_same a h = rw (same (actor a) h, first_same)

  pub act_same : (a : Action) → act sh (record { store = s; table = t ++ u }) a ≡ keeping (act sh (record { store = s; table = t }) a) u
  unfolding act
  act_same a = rw (refusal_same a) (go (eqb (refusal sh m a) 0) refl)
    where
      go : (b : Bool) → eqb (refusal sh (record { store = s; table = t }) a) 0 ≡ b
          → cond b (perform sh (record { store = s; table = t ++ u }) (actor a) (outcome sh (record { store = s; table = t ++ u }) a))
          (record { memory = record { store = s; table = t ++ u }; response = Refused (refusal sh (record { store = s; table = t }) a) })
          ≡ keeping (cond b (perform sh (record { store = s; table = t }) (actor a) (outcome sh (record { store = s; table = t }) a))
          (record { memory = record { store = s; table = t }; response = Refused (refusal sh (record { store = s; table = t }) a) })) u
      go true e =
          let h = (act_accepted sh m a (eqb-true (refusal sh m a) 0 e)).exists in
          ap (λ o. perform sh (record { store = s; table = t ++ u }) (actor a) o) (outcome_same a h)
          ∙ ap (λ (x : List Worker). record {
            memory = record { store = (perform sh m (actor a) (outcome sh m a)).memory.store; table = x };
            response = (outcome sh m a).response;
          })
          (set-append_left t u (actor a) (outcome sh m a).worker (omega (arith, long, h)))
      go false e = refl

  pub open_same : open_pool sh (record { store = s; table = t ++ u }) ≡ keeping (open_pool sh (record { store = s; table = t })) u
  unfolding open_pool open_refusal open_table
  open_same = rw (long_enough) (go (eqb (open_refusal sh s t) 0))
    where
      go : (b : Bool)
          → cond b (record {
            memory = record { store = open_store sh s; table = replicate sh.workers blank ++ drop sh.workers (t ++ u) };
            response = Opened;
          }) (record { memory = record { store = s; table = t ++ u }; response = Refused (open_refusal sh s t) })
          ≡ keeping (cond b (record {
            memory = record { store = open_store sh s; table = replicate sh.workers blank ++ drop sh.workers t };
            response = Opened;
          }) (record { memory = record { store = s; table = t }; response = Refused (open_refusal sh s t) })) u
      go true =
          ap (λ (x : List Worker). record { memory = record { store = open_store sh s; table = x }; response = Opened })
          (ap (λ (x : List Worker). replicate sh.workers blank ++ x) (drop-append-le sh.workers t u long)
          ∙ sym (append_assoc (replicate sh.workers blank) (drop sh.workers t) u))
      go false = refl

-- ── any shape: one within its limits has at most 64 workers ──
module _ (sh : Shape) (m : Memory) (u : List Worker) (long : 64 ≤ length m.table) where
  enough : shape_in_range sh ≡ true → sh.workers ≤ length m.table
  enough e = omega (arith, (limits sh e).workers, long)

  pub open_refusal_beyond : open_refusal sh m.store (m.table ++ u) ≡ open_refusal sh m.store m.table
  unfolding open_refusal
  open_refusal_beyond = go (shape_in_range sh) refl
    where
      go : (b : Bool) → shape_in_range sh ≡ b → open_refusal sh m.store (m.table ++ u) ≡ open_refusal sh m.store m.table
      go true e = rw (long_enough sh m.store m.table u (enough e))
      go false e = rw e

  pub act_beyond : (a : Action) → act sh (longer m u) a ≡ keeping (act sh m a) u
  unfolding act
  act_beyond a = go (eqb (open_refusal sh m.store m.table) 0) refl
    where
      go : (b : Bool) → eqb (open_refusal sh m.store m.table) 0 ≡ b → act sh (longer m u) a ≡ keeping (act sh m a) u
      go true e =
          let L = open_accepted sh m.store m.table (eqb-true (open_refusal sh m.store m.table) 0 e) in
          act_same sh m.store m.table u L.table a
      go false e =
          let n = eqb-false (open_refusal sh m.store m.table) 0 e in
          rw (
            refused_first sh m.store (m.table ++ u) (λ z. n (sym open_refusal_beyond ∙ z)) a ∙ open_refusal_beyond,
            refused_first sh m.store m.table n a,
            e,
          )

  pub open_beyond : open_pool sh (longer m u) ≡ keeping (open_pool sh m) u
  unfolding open_pool open_refusal
  open_beyond = go (shape_in_range sh) refl
    where
      go : (b : Bool) → shape_in_range sh ≡ b → open_pool sh (longer m u) ≡ keeping (open_pool sh m) u
      go true e = open_same sh m.store m.table u (enough e)
      go false e = rw e
