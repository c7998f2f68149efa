-- A turn is its stage's function, arm by arm.
use Rattle.std.proofs.Common.{rules}
use Rattle.std.proofs.Math.Path.{refl}
use Rattle.stages.specs.LocalStep.{left_at}
use Rattle.stages.proofs.turn.Goals as goal

pub returns-in-1-clause-gives : goal.returns-in-1-clause-gives
returns-in-1-clause-gives c = left_at _ _ _ _ 1 c.in-1.is refl (search rules)

pub returns-in-2-clause-gives : goal.returns-in-2-clause-gives
returns-in-2-clause-gives c = left_at _ _ _ _ 2 c.in-2.is refl (search rules)

pub returns-in-3-clause-gives : goal.returns-in-3-clause-gives
returns-in-3-clause-gives c = left_at _ _ _ _ 3 c.in-3.is refl (search rules)

pub returns-in-4-clause-gives : goal.returns-in-4-clause-gives
returns-in-4-clause-gives c = left_at _ _ _ _ 4 c.in-4.is refl (search rules)

pub returns-in-5-clause-gives : goal.returns-in-5-clause-gives
returns-in-5-clause-gives c = left_at _ _ _ _ 5 c.in-5.is refl (search rules)

pub returns-in-6-clause-gives : goal.returns-in-6-clause-gives
returns-in-6-clause-gives c = left_at _ _ _ _ 6 c.in-6.is refl (search rules)

pub returns-in-8-clause-gives : goal.returns-in-8-clause-gives
returns-in-8-clause-gives c = left_at _ _ _ _ 8 c.in-8.is refl (search rules)

pub returns-in-9-clause-gives : goal.returns-in-9-clause-gives
returns-in-9-clause-gives c = left_at _ _ _ _ 9 c.in-9.is refl (search rules)

pub returns-in-10-clause-gives : goal.returns-in-10-clause-gives
returns-in-10-clause-gives c = left_at _ _ _ _ 10 c.in-10.is refl (search rules)

pub returns-in-11-clause-gives : goal.returns-in-11-clause-gives
returns-in-11-clause-gives c = left_at _ _ _ _ 11 c.in-11.is refl (search rules)

pub returns-in-12-clause-gives : goal.returns-in-12-clause-gives
returns-in-12-clause-gives c = left_at _ _ _ _ 12 c.in-12.is refl (search rules)

pub returns-in-13-clause-gives : goal.returns-in-13-clause-gives
returns-in-13-clause-gives c = left_at _ _ _ _ 13 c.in-13.is refl (search rules)
