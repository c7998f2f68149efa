-- `echogram::series::record_series` is a series, or answers what refuses the whole. Assumes nothing.
use Rattle.std.proofs.Common.{◌∙◌, sym, arith}
use Rattle.echogram.proofs.WholeSeries.{series_2, series_13, series_0, series_refused, one_by_one}
use Rattle.echogram.proofs.series.record_series.Goals as goal

pub returns-then-energies-n : goal.returns-then-energies-n
returns-then-energies-n c =
    let a = c.args in
    let two = series_2 a.slot_length a.times.now a.energies.now a.answers.now a.row.now c.if-energies-n.true in
    sym (series_refused a.slot_length a.times.now a.energies.now a.answers.now a.row.now 2 (λ z. omega arith) two)

pub returns-then-is_outside : goal.returns-then-is_outside
returns-then-is_outside c =
    let a = c.args in
    let out = sym c.is_outside.ensures ∙ c.if-is_outside.true in
    let thirteen = series_13 a.slot_length a.times.now a.energies.now a.answers.now a.row.now c.if-energies-n.false out in
    sym (series_refused a.slot_length a.times.now a.energies.now a.answers.now a.row.now 13 (λ z. omega arith) thirteen)

pub returns : goal.returns
returns c =
    let a = c.args in
    let limits = sym c.is_outside.ensures ∙ c.if-is_outside.false in
    let left = c.record_each.ensures in
    (λ j. record { answer = 0; answers = left.1 j; row = left.0 j })
    ∙ sym (one_by_one a.slot_length a.times.now a.energies.now a.answers.now a.row.now
    (series_0 a.slot_length a.times.now a.energies.now a.answers.now a.row.now c.if-energies-n.false limits))
