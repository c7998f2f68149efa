-- `wubraken::table::survey_table` has looked at the first records, none out of range. Assumes nothing.
use Rattle.std.proofs.Common.{◌<◌, ◌∙◌, Ok, sym, ap, arith, length-take, get_or-take}
use Rattle.std.proofs.lemmas.Result.{err_from_is_err_and}
use Rattle.calendar.specs.rules.Ranges.{blank}
use Rattle.wubraken.specs.Survey.{unseen, seen, survey_of}
use Rattle.wubraken.proofs.Survey.{survey_start, survey_next, survey_out}
use Rattle.wubraken.proofs.table.survey_table.Goals as goal

pub loop-w-init : goal.loop-w-init
unfolding unseen
loop-w-init c = sym (survey_start c.args.shape c.args.table.now)

pub returns-in_err-low : goal.returns-in_err-low
unfolding blank
returns-in_err-low c =
    let a = c.args in
    let n = c.records_looked_at-n.result in
    let p = err_from_is_err_and c.from_residual.result c.from_residual.ensures.1 in
    let inside : c.loop-w.w-index < n = omega (arith, c.loop-w-test.true, length-take n a.table.now) in
    let is = ap (seen a.shape (Ok c.loop-w.low)) (get_or-take n a.table.now c.loop-w.w-index blank inside) in
    rw (p.1, p.2) (sym (survey_out a.shape a.table.now c.loop-w.w-index n c.loop-w.low _ c.loop-w.invariant (sym is ∙ sym c.in_err-low.ensures) inside)
    ∙ ap (survey_of a.shape a.table.now) c.records_looked_at-n.ensures)

pub loop-w-preserved : goal.loop-w-preserved
unfolding blank
loop-w-preserved c =
    let a = c.args in
    let n = c.records_looked_at-n.result in
    let inside : c.loop-w.w-index < n = omega (arith, c.loop-w-test.true, length-take n a.table.now) in
    let is = ap (seen a.shape (Ok c.loop-w.low)) (get_or-take n a.table.now c.loop-w.w-index blank inside) in
    survey_next a.shape a.table.now c.loop-w.w-index c.loop-w.low c.loop-w.invariant ∙ sym is ∙ sym c.in_ok-low.ensures
