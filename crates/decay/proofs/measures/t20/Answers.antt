-- `decay::measures::t20` finds two slots; the second search goes on from the first. Assumes nothing.
use Rattle.std.proofs.Common.{◌≡◌, ◌∙◌, sym, ap, ◌*◌, ◌-◌, Err, rules, arith, lit≤}
use Rattle.decay.specs.Decay.{t20}
use Rattle.decay.specs.Outcomes.{measured_of}
use Rattle.decay.proofs.CrossingSearch.{t20_is, square_fits, slot_is, lower_limit, slots_rise, from_start, from_higher}
use Rattle.decay.proofs.Totals.{when_refused, when_measured, sum_is, is_sound}
use Rattle.decay.proofs.measures.t20.Goals as goal

pub returns-in_err-total : goal.returns-in_err-total
returns-in_err-total c =
    let e : c.from_residual.result ≡ Err c.in_err-total.field-0.0 = search rules in
    ap measured_of e ∙ when_refused c.args.row.now 0 _ (sym c.in_err-total.was ∙ c.total_of.ensures) _

pub overflow_mul-square : goal.overflow_mul-square
overflow_mul-square c =
    let row = c.args.row.now in
    let e = sym c.in_ok-total.was ∙ c.total_of.ensures in
    record { fits = square_fits c.in_ok-total.total.sum (omega (arith, sum_is row 0 _ e, (is_sound row 0 _ e).sum_most)) }

pub fall_to-early-requires : goal.fall_to-early-requires
fall_to-early-requires c =
    let row = c.args.row.now in
    let e = sym c.in_ok-total.was ∙ c.total_of.ensures in
    from_start row _ _ (sum_is row 0 _ e) (is_sound row 0 _ e).sum_most

pub fall_to-late-requires : goal.fall_to-late-requires
fall_to-late-requires c =
    let row = c.args.row.now in
    let sum = c.in_ok-total.total.sum in
    let sound = is_sound row 0 _ (sym c.in_ok-total.was ∙ c.total_of.ensures) in
    from_higher row _ _ (lower_limit (sum * sum) _ _ (lit≤ tt) (lit≤ tt)) sound.sum_most c.fall_to-early.result c.fall_to-early.ensures

pub overflow_sub-result : goal.overflow_sub-result
overflow_sub-result c =
    let sum = c.in_ok-total.total.sum in
    let early = c.fall_to-early in
    let late = c.fall_to-late in
    slots_rise c.args.row.now (sum * sum) _ _ early.result late.result early.ensures late.ensures (lit≤ tt) (lit≤ tt)

pub overflow_mul-result : goal.overflow_mul-result
overflow_mul-result c =
    let row = c.args.row.now in
    let sound = is_sound row 0 _ (sym c.in_ok-total.was ∙ c.total_of.ensures) in
    record { fits = omega (arith, sound.few, (slot_is row _ c.fall_to-late.result c.fall_to-late.ensures).1) }

pub returns : goal.returns
returns c =
    let row = c.args.row.now in
    let t = c.in_ok-total.total in
    let e = sym c.in_ok-total.was ∙ c.total_of.ensures in
    let early = c.fall_to-early in
    let late = c.fall_to-late in
    when_measured row 0 t e (3 * (late.result.slot - early.result.slot)) (t20 row)
    ((λ i. 3 * ((slot_is row _ late.result late.ensures).0 i - (slot_is row _ early.result early.ensures).0 i))
    ∙ t20_is row t.sum (sum_is row 0 t e))
