use Rattle.std.specs.Prelude.{◌*◌, ◌<◌, ◌≤◌}
use Rattle.std.proofs.Common.{arith, div-mul-le_self}
use Rattle.std.proofs.Math.Nat.{mul-le-mul, lt-div-mul-add}
use Rattle.arrival.proofs.Energy.{energy_at_0, energy_only}
use Rattle.arrival.proofs.spreading.energy.Goals as goal

pub returns-then-distance-eq0 : goal.returns-then-distance-eq0
returns-then-distance-eq0 c = rw (c.if-distance-eq0.true, energy_at_0)

pub returns-then-distance-le4096 : goal.returns-then-distance-le4096
returns-then-distance-le4096 c =
    let d = c.args.distance in
    let h : 1 ≤ d = omega arith in
    let some : 0 < d * d = omega (arith, mul-le-mul h h) in
    energy_only d h _ (omega (arith, div-mul-le_self 16777216 (d * d))) (omega (arith, lt-div-mul-add {a = 16777216} {b = d * d} some))

pub returns : goal.returns
returns c =
    let d = c.args.distance in
    let h : 4097 ≤ d = omega arith in
    energy_only d (omega arith) 0 (omega arith) (omega (arith, mul-le-mul h h))
