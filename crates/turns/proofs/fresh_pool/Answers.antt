-- A shape of zeros is refused by 1, so its flag says nothing; the records are those that are lent.
use Rattle.std.proofs.Common.{refl, arith}
use Rattle.turns.specs.TurnsRun.{lent}
use Rattle.turns.proofs.fresh_pool.Goals as goal

pub returns : goal.returns
unfolding lent
returns c =
    rw (c.no_shape.ensures, c.idle_records.ensures)
    ((refl, omega arith, λ l. absurd (omega (arith, l.limits.some_worker)), λ up. absurd (cc)), refl, refl, refl)
