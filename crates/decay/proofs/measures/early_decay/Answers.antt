-- `decay::measures::early_decay` finds one slot, by squares. Assumes nothing.
use Rattle.std.proofs.Common.{◌≡◌, ◌∙◌, sym, ap, ◌*◌, Err, rules, arith}
use Rattle.decay.specs.Decay.{early_decay}
use Rattle.decay.specs.Outcomes.{measured_of}
use Rattle.decay.proofs.CrossingSearch.{early_is, square_fits, slot_is, from_start}
use Rattle.decay.proofs.Totals.{when_refused, when_measured, sum_is, is_sound}
use Rattle.decay.proofs.measures.early_decay.Goals as goal

pub returns-in_err-total : goal.returns-in_err-total
returns-in_err-total c =
    let e : c.from_residual.result ≡ Err c.in_err-total.field-0.0 = search rules in
    ap measured_of e ∙ when_refused c.args.row.now 0 _ (sym c.in_err-total.was ∙ c.total_of.ensures) _

pub overflow_mul-total : goal.overflow_mul-total
overflow_mul-total c =
    let row = c.args.row.now in
    let e = sym c.in_ok-total.was ∙ c.total_of.ensures in
    record { fits = square_fits c.in_ok-total.total.sum (omega (arith, sum_is row 0 _ e, (is_sound row 0 _ e).sum_most)) }

pub fall_to-fallen-requires : goal.fall_to-fallen-requires
fall_to-fallen-requires c =
    let row = c.args.row.now in
    let e = sym c.in_ok-total.was ∙ c.total_of.ensures in
    from_start row _ _ (sum_is row 0 _ e) (is_sound row 0 _ e).sum_most

pub overflow_mul-result : goal.overflow_mul-result
overflow_mul-result c =
    let row = c.args.row.now in
    let e = sym c.in_ok-total.was ∙ c.total_of.ensures in
    record { fits = omega (arith, (is_sound row 0 _ e).few, (slot_is row _ c.fall_to-fallen.result c.fall_to-fallen.ensures).1) }

pub returns : goal.returns
returns c =
    let row = c.args.row.now in
    let t = c.in_ok-total.total in
    let e = sym c.in_ok-total.was ∙ c.total_of.ensures in
    let slot = (slot_is row _ c.fall_to-fallen.result c.fall_to-fallen.ensures).0 in
    when_measured row 0 t e (6 * c.fall_to-fallen.result.slot) (early_decay row) (ap (λ k. 6 * k) slot ∙ early_is row t.sum (sum_is row 0 t e))
