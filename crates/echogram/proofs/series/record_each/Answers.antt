-- `echogram::series::record_each` does the recordings of a series one by one. Assumes nothing.
use Rattle.std.proofs.Common.{◌∙◌, refl, sym, ap, ◌<◌, length, arith}
use Rattle.echogram.specs.Refusals.{answer_of}
use Rattle.echogram.specs.AtSlot.{headroom_of}
use Rattle.echogram.proofs.SeriesLoop.{along_none, along_more}
use Rattle.echogram.proofs.series.record_each.Goals as goal
use Rattle.echogram.proofs.series.record_each.Goals.{in-Ok, in-Err}

pub loop-i-init : goal.loop-i-init
loop-i-init c =
    let a = c.args in
    let opened = c.of-open.ensures.row in
    (refl, rw opened (along_none a.row.now a.answers.now _ _ (c.of-open.result.known ∙ ap headroom_of opened)))

pub loop-i-preserved : goal.loop-i-preserved
loop-i-preserved c =
    let inv = c.loop-i.invariant in
    let after = c.record_on.ensures in
    let left = c.record_on.new.row.known ∙ ap headroom_of after.row in
    let inside : c.loop-i.i < length c.args.answers.now = omega (arith, c.requires.energies_len) in (
      after.same_reference ∙ inv.0,
      elim c.match-record_on.branch [
        | in-Ok w ↦ rw w.answers-is (along_more inv.1 inside 0 (sym (ap answer_of w.in-Ok.is) ∙ after.answer) _ after.row _ left)
        | in-Err w ↦
            rw w.answers-is
            (along_more inv.1 inside w.number.result (w.number.ensures ∙ sym (ap answer_of w.in-Err.is) ∙ after.answer) _ after.row _ left)
      ],
    )
