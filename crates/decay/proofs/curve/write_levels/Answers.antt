-- `decay::curve::write_levels` goes from the last slot to the first. Assumes nothing.
use Rattle.std.proofs.Common.{◌≡◌, ◌∙◌, refl, ◌+◌, ◌*◌, ◌-◌, get_or, arith}
use Rattle.decay.specs.Curves.{flat_at}
use Rattle.decay.proofs.Curves.{along_none, along_more, more_fits, next_flat}
use Rattle.decay.proofs.curve.write_levels.Goals as goal
use Rattle.decay.proofs.curve.write_levels.Goals.{then-flat-scaled, else-flat-scaled}

pub loop-k-init : goal.loop-k-init
loop-k-init c = along_none c.args.row.now c.args.levels.now c.args.sum c.flat_at-flat.result c.flat_at-flat.ensures

pub overflow_add-scaled : goal.overflow_add-scaled
overflow_add-scaled c =
    let a = c.args in
    let more = more_fits a.row.now a.levels.now a.sum c.requires.0 c.loop-k.invariant (omega arith) in
    record { fits = omega (arith, c.requires.2) }

pub flat_at-flat-requires-then-flat-scaled : goal.flat_at-flat-requires-then-flat-scaled
flat_at-flat-requires-then-flat-scaled c =
    let a = c.args in
    let more = more_fits a.row.now a.levels.now a.sum c.requires.0 c.loop-k.invariant (omega arith) in
    (c.requires.1, c.requires.2, more)

pub loop-k-preserved : goal.loop-k-preserved
loop-k-preserved c =
    let a = c.args in
    let turn = c.loop-k in
    let more = turn.scaled + 1024 * get_or a.row.now (turn.k - 1) 0 in
    let next : c.if-flat-scaled.flat ≡ flat_at more a.sum = elim c.if-flat-scaled.branch [
      | then-flat-scaled w ↦ w.flat-is ∙ w.flat_at-flat-then-flat-scaled.ensures
      | else-flat-scaled w ↦
          w.flat-is ∙ next_flat turn.scaled more a.sum turn.invariant.at (omega arith) (omega (arith, w.if-flat-scaled.false))
    ] in
    along_more a.row.now a.levels.now a.sum c.requires.0 turn.invariant (omega arith) c.requires.3 more refl c.if-flat-scaled.flat next
