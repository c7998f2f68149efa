use Rattle.lists.proofs.Fixed.{arrival_fixed, epoch_fixed}
use Rattle.lists.proofs.nodes_stay.Goals as goal

pub returns-clause-arrival : goal.returns-clause-arrival
returns-clause-arrival c = arrival_fixed

pub returns-clause-epoch : goal.returns-clause-epoch
returns-clause-epoch c = epoch_fixed
