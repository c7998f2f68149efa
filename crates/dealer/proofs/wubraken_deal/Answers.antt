-- `wubraken_deal`: a run of one turn is a dealt turn. Assumes nothing.
use Rattle.std.proofs.Common.{◌∙◌, true}
use Rattle.wubraken.specs.Results.{lent}
use Rattle.dealer.specs.Dealing.{dealt}
use Rattle.dealer.proofs.DealtRuns.{one_turn}
use Rattle.dealer.proofs.Answered.{handed_is}
use Rattle.dealer.proofs.wubraken_deal.Goals as goal

pub returns : goal.returns
returns c =
    let a = c.args in
    let m = lent a.store.now a.table.now in
    let d = c.deal_lent in
    handed_is d.new.store d.new.table d.result c.from.result (dealt true a.shape m a.dealer) (d.ensures ∙ one_turn true a.shape m a.dealer)
    c.from.ensures
