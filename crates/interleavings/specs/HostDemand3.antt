-- DEMAND 3 for a host: after any opening, any list of requests, narrow ones and runs of turns among them.
--     host_always       what holds after any history holds whatever a host asks for
--     host_demand_3     demand 3 does
-- Assumes nothing.
use Rattle.std.proofs.Common.{sym, subst}
use Rattle.arrival.specs.declared.Shape.{Shape}
use Rattle.calendar.specs.rules.Operations.{Memory, open_pool}
use Rattle.calendar.specs.rules.Ledger.{Ledger, new, ledger}
use Rattle.calendar.specs.rules.Linearizability.{Correct, Always, Demand3}
use Rattle.calendar.specs.rules.HostHistory.{one_by_one, HostAlways, HostDemand3}
use Rattle.calendar.specs.facts.HostRun.{StaysInRange}
use Rattle.calendar.proofs.facts.HostRun.{host_memory, host_answers_lem, host_single}
use Rattle.lists.specs.NodeReuse.{always_in_range}
use Rattle.interleavings.specs.Demand3.{demand_3}

pub host_always : (P : Shape → Memory → Ledger → Type 0) → Always P → HostAlways P
host_always P always sh m e qs =
    let p = (open_pool sh m).memory in
    let S : StaysInRange sh p = always_in_range sh m e in
    subst (λ (n : Memory). P sh n (ledger sh p (one_by_one sh p qs) new)) (sym (host_memory sh p qs S)) (always sh m e (one_by_one sh p qs))

pub host_demand_3 : HostDemand3
unfolding HostDemand3 Demand3
host_demand_3 sh m e qs =
    let p = (open_pool sh m).memory in
    let S : StaysInRange sh p = always_in_range sh m e in
    record {
      memory = host_memory sh p qs S;
      answers = host_answers_lem sh p qs S;
      item_by_item = host_single sh p qs S;
      correct = host_always Correct demand_3 sh m e qs;
    }
