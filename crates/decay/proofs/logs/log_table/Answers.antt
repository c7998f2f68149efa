-- `decay::logs::log_table` is the list of the L(r): one test over all entries, which antt computes. Assumes nothing.
use Rattle.std.proofs.Common.{refl, lit≤}
use Rattle.decay.proofs.LogLaws.{logs_are}
use Rattle.decay.proofs.logs.log_table.Goals as goal

pub returns : goal.returns
returns c = logs_are 1 _ (lit≤ tt) (lit≤ tt) refl
