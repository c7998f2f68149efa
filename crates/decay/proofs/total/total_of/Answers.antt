-- `decay::total::total_of` tests what was added up. Assumes nothing.
use Rattle.std.proofs.Common.{◌≡◌, ◌∙◌, sym, le-ltb, ne_eqb, arith}
use Rattle.echogram.specs.Row.{most}
use Rattle.decay.specs.Totals.{sum_refusal}
use Rattle.decay.proofs.Totals.{totals_sum, totals_left, total_outside, total_large, total_silent, total_is}
use Rattle.decay.proofs.total.total_of.Goals as goal

pub returns-then-slots_outside : goal.returns-then-slots_outside
returns-then-slots_outside c = total_outside c.args.row.now c.args.slot (sym c.slots_outside.ensures ∙ c.if-slots_outside.true)

pub returns-then-total-gt-MOST : goal.returns-then-total-gt-MOST
returns-then-total-gt-MOST c =
    let row = c.args.row.now in
    let limits = sym c.slots_outside.ensures ∙ c.if-slots_outside.false in
    let whole = totals_sum row c.args.slot c.totals-total.result c.totals-total.ensures limits in
    total_large row c.args.slot limits (omega (arith, whole))

pub returns-then-total-eq0 : goal.returns-then-total-eq0
returns-then-total-eq0 c =
    let row = c.args.row.now in
    let limits = sym c.slots_outside.ensures ∙ c.if-slots_outside.false in
    let whole = totals_sum row c.args.slot c.totals-total.result c.totals-total.ensures limits in
    total_silent row c.args.slot limits (omega (arith, whole))

pub returns : goal.returns
unfolding sum_refusal
returns c =
    let row = c.args.row.now in
    let limits = sym c.slots_outside.ensures ∙ c.if-slots_outside.false in
    let t = c.totals-total in
    let none : sum_refusal t.result.sum ≡ 0 = rw (le-ltb most t.result.sum c.if-total-gt-MOST.false, ne_eqb t.result.sum 0 c.if-total-eq0.false) in
    total_is row c.args.slot t.result.sum t.result.rest limits none (totals_sum row c.args.slot t.result t.ensures limits)
    (totals_left row c.args.slot t.result t.ensures limits)
