-- `echogram::row::clear` leaves a row of zeros, or answers 13. Assumes nothing.
use Rattle.std.proofs.Common.{◌∙◌, sym}
use Rattle.echogram.proofs.Recorded.{clear_13, when_cleared}
use Rattle.echogram.proofs.row.clear.Goals as goal

pub returns-then-is_outside : goal.returns-then-is_outside
returns-then-is_outside c =
    let (answer, left) = clear_13 c.args.slot_length c.args.row.now (sym c.is_outside.ensures ∙ c.if-is_outside.true) in
    (sym answer, sym left)

pub returns : goal.returns
returns c =
    let (answer, zeros) = when_cleared c.args.slot_length c.args.row.now (sym c.is_outside.ensures ∙ c.if-is_outside.false) in
    (sym answer, c.fill.ensures.after (λ y e. e) ∙ sym zeros)
