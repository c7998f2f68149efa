-- `decay::total::totals` adds up a row in two parts. Assumes nothing.
use Rattle.std.proofs.Common.{◌≡◌, refl, ◌∙◌, sym, ◌+◌, length, arith}
use Rattle.echogram.specs.Row.{sum_of}
use Rattle.echogram.proofs.Recorded.{slots_within}
use Rattle.decay.specs.Totals.{sum_refusal}
use Rattle.decay.proofs.Totals.{parts_add, parts_fit, part_left, cut_is, totals_outside, totals_is}
use Rattle.decay.proofs.total.totals.Goals as goal

pub returns-then-slots_outside : goal.returns-then-slots_outside
returns-then-slots_outside c = (totals_outside c.args.row.now c.args.slot (sym c.slots_outside.ensures ∙ c.if-slots_outside.true)).1

pub overflow_add-sum : goal.overflow_add-sum
overflow_add-sum c =
    let row = c.args.row.now in
    let few = (slots_within (length row) (sym c.slots_outside.ensures ∙ c.if-slots_outside.false)).1 in
    let fit = parts_fit row c.min-at.result few (λ i. (c.type_inv.row i).fits) in
    record { fits = omega (arith, c.sum_of.ensures, c.sum_of-rest.ensures) }

pub returns : goal.returns
returns c =
    let row = c.args.row.now in
    let limits = sym c.slots_outside.ensures ∙ c.if-slots_outside.false in
    let sum = c.sum_of.result + c.sum_of-rest.result in
    let whole : sum ≡ sum_of row = omega (arith, c.sum_of.ensures, c.sum_of-rest.ensures, parts_add row c.min-at.result) in
    let cut = c.min-at.ensures ∙ cut_is c.args.slot (length row) in
    (totals_is row c.args.slot (sum_refusal sum) sum c.sum_of-rest.result limits refl whole
    (c.sum_of-rest.ensures ∙ part_left row c.args.slot c.min-at.result cut)).1
