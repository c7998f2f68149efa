-- THE SIX PROMISES, each from demand 3: after any opening that is not refused and any history, and so whatever a host asks for.
--     one_at_a_time                   1: used by one at a time
--     nothing_passed_over             2: nothing earlier is passed over
--     empty_means_empty               3: empty means empty
--     two_takes, swapped              4: two takes, and which of them may be swapped
--     once_each                       5: once each
--     drains                          6: drained
--     host_one_at_a_time ..           the same for a host that mixes whole and narrow calls
--     host_nothing_passed_over
--     host_empty_means_empty
--     host_two_takes, host_swapped
--     host_once_each, host_drains
-- Assumes nothing.
use Rattle.std.specs.Prelude.{◌≡◌, refl}
use Rattle.std.proofs.Common.{sym, subst}
use mathlib.Core.List.{List, [], ◌∷◌}
use Rattle.arrival.specs.declared.Shape.{Shape}
use Rattle.arrival.specs.declared.Action.{Action}
use Rattle.arrival.specs.declared.Response.TheVariants.{Opened}
use Rattle.calendar.specs.rules.Operations.{Memory, open_pool, act, run}
use Rattle.calendar.specs.rules.Ledger.{Ledger, new, reads, ledger}
use Rattle.calendar.specs.rules.Linearizability.{Correct, Always, Demand3}
use Rattle.calendar.specs.rules.HostHistory.{one_by_one, HostAlways}
use Rattle.taken_list.specs.Promises.{OneAtATime, NothingPassedOver, EmptyMeansEmpty, TwoTakes, Swapped, OnceEach, DrainedIf, Drains, HostDrains}
use Rattle.taken_list.proofs.LedgerLaws.{Lawful, lawful, lawful_new, Kept, kept_refl, kept_trans, kept_act, FromHistory, history_on}
use Rattle.calendar.proofs.facts.HostRun.{host_memory}
use Rattle.lists.specs.NodeReuse.{always_in_range}
use Rattle.interleavings.specs.Demand3.{demand_3}
use Rattle.interleavings.specs.HostDemand3.{host_always}
use Rattle.taken_list.proofs.InTurn.{by_starts}
use Rattle.taken_list.proofs.Takes.{passed_over, found_empty, two_apart, swapped_overlap}
use Rattle.taken_list.proofs.Fates as fates
use Rattle.taken_list.proofs.Draining.{drained_from}

-- ── what demand 3 gives at every place ──
correct : Always Correct
unfolding Demand3
correct = demand_3

always_lawful : Always (λ sh m L. Lawful sh L)
always_lawful sh m e h = lawful sh (open_pool sh m).memory h new (lawful_new sh)

-- so whatever follows from both holds always
by_demand_3 : (P : Shape → Memory → Ledger → Type 0) → ((sh : Shape) (m : Memory) (L : Ledger) → Correct sh m L → Lawful sh L → P sh m L) → Always P
by_demand_3 P follows sh m e h =
    follows sh (run sh (open_pool sh m).memory h) (ledger sh (open_pool sh m).memory h new) (correct sh m e h) (always_lawful sh m e h)

-- ── 1 to 5 ──
pub one_at_a_time : Always OneAtATime
one_at_a_time = by_demand_3 OneAtATime (λ sh m L C G. by_starts sh m L C)

pub nothing_passed_over : Always NothingPassedOver
nothing_passed_over = by_demand_3 NothingPassedOver passed_over

pub empty_means_empty : Always EmptyMeansEmpty
empty_means_empty = by_demand_3 EmptyMeansEmpty found_empty

pub two_takes : Always TwoTakes
two_takes = by_demand_3 TwoTakes two_apart

pub swapped : Always Swapped
swapped = by_demand_3 Swapped swapped_overlap

pub once_each : Always OnceEach
once_each = by_demand_3 OnceEach fates.once_each

-- ── 6 ──
module _ (sh : Shape) (m : Memory) (e : (open_pool sh m).response ≡ Opened) where
  abbrev p : Memory
  p = (open_pool sh m).memory

  -- what holds always holds of what a history left
  of_history : (P : Shape → Memory → Ledger → Type 0) → Always P → (n : Memory) (L : Ledger) → FromHistory sh p n L → P sh n L
  of_history P always n L (h, q, r) = subst (λ (M : Ledger). P sh n M) r (subst (λ (k : Memory). P sh k (ledger sh p h new)) q (always sh m e h))

  -- what is written of finished calls stays
  kept : (g : List Action) (n : Memory) (L : Ledger) → FromHistory sh p n L → Kept L (ledger sh n g L)
  unfolding ledger run
  kept [] n L X = kept_refl L
  kept (a ∷ g) n L X =
      kept_trans L (reads sh n a L) (ledger sh (act sh n a).memory g (reads sh n a L))
      (kept_act sh n L a (of_history Correct correct n L X).in_progress_not_ended)
      (kept g (act sh n a).memory (reads sh n a L) (history_on sh p n L (a ∷ []) X))

  drained_after : (g : List Action) (n : Memory) (L : Ledger) → FromHistory sh p n L → DrainedIf sh n L (ledger sh n g L)
  drained_after g n L X quiet turns =
      let Y = history_on sh p n L g X in
      let M = ledger sh n g L in
      drained_from sh n L (of_history Correct correct n L X) (of_history (λ sh m L. Lawful sh L) always_lawful n L X) quiet (run sh n g) M
      (of_history Correct correct (run sh n g) M Y) (of_history (λ sh m L. Lawful sh L) always_lawful (run sh n g) M Y) (kept g n L X) turns

pub drains : Drains
drains sh m e h g = drained_after sh m e g _ _ (h, refl, refl)

-- ── for a host ──
pub host_one_at_a_time : HostAlways OneAtATime
host_one_at_a_time = host_always OneAtATime one_at_a_time

pub host_nothing_passed_over : HostAlways NothingPassedOver
host_nothing_passed_over = host_always NothingPassedOver nothing_passed_over

pub host_empty_means_empty : HostAlways EmptyMeansEmpty
host_empty_means_empty = host_always EmptyMeansEmpty empty_means_empty

pub host_two_takes : HostAlways TwoTakes
host_two_takes = host_always TwoTakes two_takes

pub host_swapped : HostAlways Swapped
host_swapped = host_always Swapped swapped

pub host_once_each : HostAlways OnceEach
host_once_each = host_always OnceEach once_each

pub host_drains : HostDrains
host_drains sh m e qs rs =
    let p = (open_pool sh m).memory in
    drained_after sh m e (one_by_one sh _ rs) _ _ (one_by_one sh p qs, sym (host_memory sh p qs (always_in_range sh m e)), refl)
