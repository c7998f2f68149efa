-- DEMAND 3, whole: every history from an opening. Assumes nothing.
use Rattle.std.specs.Prelude.{◌≤◌}
use Rattle.calendar.specs.rules.Ranges.{worker}
use Rattle.calendar.specs.rules.Operations.{open_pool, run}
use Rattle.calendar.specs.rules.Ledger.{new, ledger}
use Rattle.calendar.specs.rules.Linearizability.{Demand3}
use Rattle.calendar.proofs.facts.Accepted.{open_accepted}
use Rattle.lists.specs.AllCalls.{Live}
use Rattle.lists.specs.NodeReuse.{opened, reached_in_range, reached_not_held}
use Rattle.lists.specs.Walks.{walk_meets}
use Rattle.lists.specs.SumHolds.{sum_balances}
use Rattle.interleavings.specs.AlongHistory.{followed}
use Rattle.interleavings.specs.CallEntries.{in_progress_or_ended, in_progress_not_ended}
use Rattle.interleavings.specs.Extraction.{linearized}
use Rattle.interleavings.specs.TakenOnce.{marks_new, marked_once, marked_put, marked_kept, held_marked, listed_put, not_lost}

pub demand_3 : Demand3
unfolding Demand3
demand_3 sh m e h =
    let wd : 1 ≤ sh.width = (open_accepted sh m.store m.table (opened sh m e).0).limits.some_width in
    let n = run sh (open_pool sh m).memory h in
    let L = ledger sh (open_pool sh m).memory h new in
    let F = followed sh wd m e h in
    let listed = walk_meets sh n.store F.chains (Live sh.workers (worker n.table)) F.reached.inv.lists in
    record {
      linearization = linearized sh wd n L F;
      in_progress_or_ended = in_progress_or_ended sh wd n L F;
      in_progress_not_ended = in_progress_not_ended sh wd n L F;
      in_range_lem = reached_in_range sh n F.chains F.reached;
      lists = F.chains;
      listed = listed;
      not_held = reached_not_held sh n F.chains F.reached;
      marks_new = marks_new sh wd n L F;
      marked_once = marked_once sh wd n L F;
      marked_put = marked_put sh wd n L F;
      marked_kept = marked_kept sh wd n L F;
      held_marked = held_marked sh wd n L F;
      listed_put = listed_put sh wd n L F;
      not_lost = not_lost sh wd n L F;
      balance = sum_balances sh m e h F.chains listed;
    }
