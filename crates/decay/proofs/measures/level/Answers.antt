-- `decay::measures::level` divides once, and looks the ratio up. Assumes nothing.
use Rattle.std.proofs.Common.{◌≡◌, ◌∙◌, sym, ap, ◌*◌, Err, rules, arith}
use Rattle.decay.specs.Decay.{level}
use Rattle.decay.specs.Outcomes.{measured_of}
use Rattle.decay.proofs.Rest.{rest_in_sum}
use Rattle.decay.proofs.Curves.{ratio_most, level_at}
use Rattle.decay.proofs.Totals.{when_refused, when_measured, sum_is, rest_is, is_sound}
use Rattle.decay.proofs.measures.level.Goals as goal

pub returns-in_err-total : goal.returns-in_err-total
returns-in_err-total c =
    let e : c.from_residual.result ≡ Err c.in_err-total.field-0.0 = search rules in
    ap measured_of e ∙ when_refused c.args.row.now c.args.slot _ (sym c.in_err-total.was ∙ c.total_of.ensures) _

pub overflow_mul-ratio : goal.overflow_mul-ratio
overflow_mul-ratio c =
    let row = c.args.row.now in
    let e = sym c.in_ok-total.was ∙ c.total_of.ensures in
    let left = rest_is row c.args.slot _ e in
    record { fits = omega (arith, left, (is_sound row c.args.slot _ e).sum_most, rest_in_sum row c.args.slot) }

pub nonzero_div-ratio : goal.nonzero_div-ratio
nonzero_div-ratio c =
    let row = c.args.row.now in
    let e = sym c.in_ok-total.was ∙ c.total_of.ensures in
    omega (arith, sum_is row c.args.slot _ e, (is_sound row c.args.slot _ e).sum_some)

pub level_of-requires : goal.level_of-requires
level_of-requires c =
    let row = c.args.row.now in
    let e = sym c.in_ok-total.was ∙ c.total_of.ensures in
    let sum = sum_is row c.args.slot _ e in
    let left = rest_is row c.args.slot _ e in
    ratio_most _ c.in_ok-total.total.sum (omega (arith, sum, left, rest_in_sum row c.args.slot))

pub returns : goal.returns
returns c =
    let row = c.args.row.now in
    let t = c.in_ok-total.total in
    let e = sym c.in_ok-total.was ∙ c.total_of.ensures in
    let left = rest_is row c.args.slot t e in
    when_measured row c.args.slot t e c.level_of.result (level row c.args.slot)
    (c.level_of.ensures ∙ level_at row c.args.slot _ t.sum (ap (λ x. 1024 * x) left) (sum_is row c.args.slot t e))
