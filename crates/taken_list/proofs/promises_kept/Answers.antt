use Rattle.taken_list.proofs.PromisesKept as kept
use Rattle.taken_list.proofs.promises_kept.Goals as goal

pub returns-clause-one_at_a_time : goal.returns-clause-one_at_a_time
returns-clause-one_at_a_time c = kept.one_at_a_time

pub returns-clause-nothing_passed_over : goal.returns-clause-nothing_passed_over
returns-clause-nothing_passed_over c = kept.nothing_passed_over

pub returns-clause-empty_means_empty : goal.returns-clause-empty_means_empty
returns-clause-empty_means_empty c = kept.empty_means_empty

pub returns-clause-two_takes : goal.returns-clause-two_takes
returns-clause-two_takes c = kept.two_takes

pub returns-clause-swapped : goal.returns-clause-swapped
returns-clause-swapped c = kept.swapped

pub returns-clause-once_each : goal.returns-clause-once_each
returns-clause-once_each c = kept.once_each

pub returns-clause-drains : goal.returns-clause-drains
returns-clause-drains c = kept.drains

pub returns-clause-host_one_at_a_time : goal.returns-clause-host_one_at_a_time
returns-clause-host_one_at_a_time c = kept.host_one_at_a_time

pub returns-clause-host_nothing_passed_over : goal.returns-clause-host_nothing_passed_over
returns-clause-host_nothing_passed_over c = kept.host_nothing_passed_over

pub returns-clause-host_empty_means_empty : goal.returns-clause-host_empty_means_empty
returns-clause-host_empty_means_empty c = kept.host_empty_means_empty

pub returns-clause-host_two_takes : goal.returns-clause-host_two_takes
returns-clause-host_two_takes c = kept.host_two_takes

pub returns-clause-host_swapped : goal.returns-clause-host_swapped
returns-clause-host_swapped c = kept.host_swapped

pub returns-clause-host_once_each : goal.returns-clause-host_once_each
returns-clause-host_once_each c = kept.host_once_each

pub returns-clause-host_drains : goal.returns-clause-host_drains
returns-clause-host_drains c = kept.host_drains
