use Rattle.laws.proofs.Counting.{every_at, sum_at}
use Rattle.laws.proofs.Searching.{first_holds, last_last}
use Rattle.laws.proofs.Lexicographic.{lower_by_irr}
use Rattle.laws.proofs.laws_hold.Goals as goal

pub returns-clause-each : goal.returns-clause-each
returns-clause-each c = every_at

pub returns-clause-summed : goal.returns-clause-summed
returns-clause-summed c = sum_at

pub returns-clause-first_found : goal.returns-clause-first_found
returns-clause-first_found c = first_holds

pub returns-clause-last_found : goal.returns-clause-last_found
returns-clause-last_found c = last_last

pub returns-clause-strict : goal.returns-clause-strict
returns-clause-strict c = lower_by_irr
