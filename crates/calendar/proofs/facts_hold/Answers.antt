use Rattle.calendar.proofs.facts.Untouched.{open_refused_untouched, act_refused_untouched, act_same_size, act_same_beyond}
use Rattle.calendar.proofs.facts.Narrow.{narrow_refused_untouched}
use Rattle.calendar.proofs.facts.AnswerRanges.{act_values}
use Rattle.calendar.proofs.facts.EveryTime.{never_6}
use Rattle.calendar.proofs.facts.NodeCounts.{nodes_shared_out}
use Rattle.calendar.proofs.facts_hold.Goals as goal

pub returns-clause-opening_refused : goal.returns-clause-opening_refused
returns-clause-opening_refused c = open_refused_untouched

pub returns-clause-refused : goal.returns-clause-refused
returns-clause-refused c = act_refused_untouched

pub returns-clause-narrow_refused : goal.returns-clause-narrow_refused
returns-clause-narrow_refused c = narrow_refused_untouched

pub returns-clause-same_size : goal.returns-clause-same_size
returns-clause-same_size c = act_same_size

pub returns-clause-same_beyond : goal.returns-clause-same_beyond
returns-clause-same_beyond c = act_same_beyond

pub returns-clause-values : goal.returns-clause-values
returns-clause-values c = act_values

pub returns-clause-never_6 : goal.returns-clause-never_6
returns-clause-never_6 c = never_6

pub returns-clause-shared_out : goal.returns-clause-shared_out
returns-clause-shared_out c = nodes_shared_out
