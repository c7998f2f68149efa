-- `echogram::row::sum_of` adds up the slots. Assumes nothing.
use Rattle.std.proofs.Common.{◌≡◌, ◌∙◌, rules}
use Rattle.std.specs.List.{sum_by}
use Rattle.echogram.proofs.RowSum.{sum_by_slots}
use Rattle.echogram.proofs.row.sum_of.Goals as goal

pub returns : goal.returns
returns c =
    let e : c.sum.result ≡ sum_by (λ x. x) c.args.row.now = search rules in
    e ∙ sum_by_slots c.args.row.now
