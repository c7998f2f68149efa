-- `wubraken::lent::Lent::open`: the store opened, and the workers' records cleared, or nothing. Assumes nothing.
use Rattle.std.proofs.Common.{◌∙◌, refl, arith, length}
use Rattle.std.proofs.lemmas.Result.{err_from_is_err_and}
use Rattle.arrival.specs.Refusals.{number}
use Rattle.wubraken.specs.Results.{gave}
use Rattle.arrival.specs.declared.Response.TheVariants.{Opened}
use Rattle.starts.proofs.Refusing.{some}
use Rattle.wubraken.proofs.Results.{opened_bound, open_refused, open_done}
use Rattle.wubraken.proofs.lent.Lent.open.Goals as goal

pub returns-in_err-open_lent-clause-opened : goal.returns-in_err-open_lent-clause-opened
returns-in_err-open_lent-clause-opened c =
    let m = c.args.self.now in
    let r = c.in_err-open_lent.field-0.0 in
    let p = err_from_is_err_and c.from_residual.result c.from_residual.ensures.1 in
    rw (p.1, p.2) (open_refused m.shape m.store.now m.table.now (number r) c.open_lent.new.store c.in_err-open_lent.ensures.refused
    c.in_err-open_lent.ensures.opened (some r))

pub clear_table-requires : goal.clear_table-requires
clear_table-requires c =
    let m = c.args.self.now in
    omega (arith, c.records_opened.ensures, opened_bound m.shape m.store.now (length m.table.now) 0 c.in_ok-open_lent.ensures.refused)

pub returns-clause-opened : goal.returns-clause-opened
returns-clause-opened c =
    let m = c.args.self.now in
    (λ j. gave c.open_lent.new.store (c.clear_table.ensures j) Opened)
    ∙ rw c.records_opened.ensures (open_done m.shape m.store.now m.table.now 0 c.open_lent.new.store c.in_ok-open_lent.ensures.refused
    c.in_ok-open_lent.ensures.opened refl)
