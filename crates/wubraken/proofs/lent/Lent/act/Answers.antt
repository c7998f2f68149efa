-- What is requested is done on its worker's record, or refused. Assumes nothing.
use Rattle.std.proofs.Common.{◌<◌, ◌≤◌, refl, sym, arith, length}
use Rattle.std.proofs.lemmas.Result.{err_from_is_err_and}
use Rattle.arrival.specs.Refusals.{number}
use Rattle.arrival.specs.Requests.{actor, action_of}
use Rattle.calendar.specs.rules.Ranges.{blank}
use Rattle.wubraken.specs.Survey.{surveyed}
use Rattle.wubraken.proofs.Results.{away_at, none_let, tells_at, done_at, refused_at}
use Rattle.wubraken.proofs.lent.Lent.act.Goals as goal

pub returns-in_err-away-clause-acted : goal.returns-in_err-away-clause-acted
returns-in_err-away-clause-acted c =
    let m = c.args.self.now in
    let p = err_from_is_err_and c.from_residual.result c.from_residual.ensures.1 in
    let past : surveyed m.shape (length m.table.now) ≤ actor (action_of c.args.request) =
    omega (arith, c.if-records_surveyed-i.true, c.records_surveyed.ensures, c.index_of-i.ensures) in
    rw (p.1, p.2) (away_at m.shape m.store.now m.table.now c.args.request _ _ (number c.in_err-away.field-0.0) past c.survey-seen.ensures refl
    c.in_err-away.ensures)

pub returns-then-records_surveyed-i-clause-acted : goal.returns-then-records_surveyed-i-clause-acted
returns-then-records_surveyed-i-clause-acted c =
    let m = c.args.self.now in
    let past : surveyed m.shape (length m.table.now) ≤ actor (action_of c.args.request) =
    omega (arith, c.if-records_surveyed-i.true, c.records_surveyed.ensures, c.index_of-i.ensures) in
    absurd (none_let m.shape m.store.now m.table.now c.args.request _ past (sym c.in_ok-away.ensures))

pub act_on_record-requires : goal.act_on_record-requires
unfolding blank
act_on_record-requires c =
    let m = c.args.self.now in
    let here : actor (action_of c.args.request) < surveyed m.shape (length m.table.now) =
    omega (arith, c.if-records_surveyed-i.false, c.records_surveyed.ensures, c.index_of-i.ensures) in
    tells_at m.shape m.store.now m.table.now c.args.request here _ _ c.survey-seen.ensures c.index_of-i.ensures

pub returns-in_err-reply-clause-acted : goal.returns-in_err-reply-clause-acted
unfolding blank
returns-in_err-reply-clause-acted c =
    let m = c.args.self.now in
    let p = err_from_is_err_and c.from_residual-in_err-reply.result c.from_residual-in_err-reply.ensures.1 in
    let here : actor (action_of c.args.request) < surveyed m.shape (length m.table.now) =
    omega (arith, c.if-records_surveyed-i.false, c.records_surveyed.ensures, c.index_of-i.ensures) in
    rw (p.1, p.2) (refused_at m.shape m.store.now m.table.now c.args.request here _ _ c.survey-seen.ensures c.index_of-i.ensures
    c.act_on_record.new.store (number c.in_err-reply.field-0.0) c.in_err-reply.ensures)

pub returns-clause-acted : goal.returns-clause-acted
unfolding blank
returns-clause-acted c =
    let m = c.args.self.now in
    let here : actor (action_of c.args.request) < surveyed m.shape (length m.table.now) =
    omega (arith, c.if-records_surveyed-i.false, c.records_surveyed.ensures, c.index_of-i.ensures) in
    done_at m.shape m.store.now m.table.now c.args.request here _ _ c.survey-seen.ensures c.index_of-i.ensures c.act_on_record.new.store
    c.in_ok-reply.reply c.in_ok-reply.ensures
