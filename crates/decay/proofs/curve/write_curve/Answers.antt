-- `decay::curve::write_curve` writes the levels, or leaves the buffer as it was. Assumes nothing.
use Rattle.std.proofs.Common.{◌≡◌, ◌∙◌, sym, ap, Err, rules, arith}
use Rattle.decay.specs.Refusals.{answer_of}
use Rattle.decay.proofs.DecayRefusals.{curve_first, curve_19, curve_0, curve_refused, curve_is}
use Rattle.decay.proofs.Totals.{number_is, some_number, sum_is, is_sound}
use Rattle.decay.proofs.curve.write_curve.Goals as goal

pub returns-in_err-total : goal.returns-in_err-total
returns-in_err-total c =
    let a = c.args in
    let refusal = c.in_err-total.field-0.0 in
    let e : c.from_residual.result ≡ Err refusal = search rules in
    let number = number_is a.row.now 0 (Err refusal) (sym c.in_err-total.was ∙ c.total_of.ensures) in
    let first = curve_first a.row.now a.levels.now (λ z. some_number refusal (number ∙ z)) in
    (ap answer_of e ∙ number ∙ sym first, sym (curve_refused a.row.now a.levels.now (λ z. some_number refusal (number ∙ sym first ∙ z))))

pub returns-then-levels-row : goal.returns-then-levels-row
returns-then-levels-row c =
    let a = c.args in
    let none = sym (number_is a.row.now 0 _ (sym c.in_ok-total.was ∙ c.total_of.ensures)) in
    let short = curve_19 a.row.now a.levels.now none (omega arith) in
    (sym short, sym (curve_refused a.row.now a.levels.now (λ z. omega arith)))

pub write_levels-requires : goal.write_levels-requires
write_levels-requires c =
    let row = c.args.row.now in
    let e = sym c.in_ok-total.was ∙ c.total_of.ensures in
    let sum = sum_is row 0 _ e in
    let sound = is_sound row 0 _ e in
    (sum, omega (arith, sum, sound.sum_some), omega (arith, sum, sound.sum_most), omega arith)

pub returns : goal.returns
returns c =
    let a = c.args in
    let none = sym (number_is a.row.now 0 _ (sym c.in_ok-total.was ∙ c.total_of.ensures)) in
    let zero = curve_0 a.row.now a.levels.now none (omega arith) in
    (sym zero, c.write_levels.ensures ∙ sym (curve_is a.row.now a.levels.now zero))
