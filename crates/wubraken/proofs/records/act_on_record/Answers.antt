-- A request on a record is refused by 1 to 4, or done. Assumes nothing.
use Rattle.std.proofs.Common.{refl, sym, ap, arith, ◌∙◌}
use Rattle.std.proofs.lemmas.Result.{err_from_is_err_and}
use Rattle.arrival.specs.Refusals.{number}
use Rattle.arrival.specs.Requests.{actor, action_of, turns_of, is_whole}
use Rattle.operation.specs.LocalAct.{local_act}
use Rattle.operation.specs.LocalTurns.{local_turns}
use Rattle.starts.proofs.Refusing.{some}
use Rattle.wubraken.specs.LentGate.{gate_on}
use Rattle.wubraken.proofs.Results.{refused_on, done_on, admits}
use Rattle.wubraken.proofs.records.act_on_record.Goals as goal

pub returns-in_err-gate_on : goal.returns-in_err-gate_on
returns-in_err-gate_on c =
    let a = c.args in
    let r = c.in_err-gate_on.field-0.0 in
    let p = err_from_is_err_and c.from_residual.result c.from_residual.ensures.1 in
    let gated = c.in_err-gate_on.ensures ∙ ap (gate_on (is_whole a.request) a.shape a.store.now (actor (action_of a.request)) a.n) c.are_near-near.ensures in
    rw (p.1, p.2) (refused_on a.shape a.request a.n a.seen a.store.now a.w (number r) gated (some r))

pub perform_on-requires-clause-admitted : goal.perform_on-requires-clause-admitted
perform_on-requires-clause-admitted c =
    let a = c.args in
    let gated = c.in_ok-gate_on.ensures ∙ ap (gate_on (is_whole a.request) a.shape a.store.now (actor (action_of a.request)) a.n) c.are_near-near.ensures in
    admits a.shape a.request a.n a.seen a.store.now a.w c.requires (sym gated)

pub perform_on-requires-clause-low_bound : goal.perform_on-requires-clause-low_bound
perform_on-requires-clause-low_bound c = omega (arith, c.low_of.ensures, c.requires.low)

pub returns : goal.returns
returns c =
    let a = c.args in
    let gated = c.in_ok-gate_on.ensures ∙ ap (gate_on (is_whole a.request) a.shape a.store.now (actor (action_of a.request)) a.n) c.are_near-near.ensures in
    c.perform_on.ensures
    ∙ (λ j. local_turns a.shape (turns_of a.request) (local_act a.shape (c.low_of.ensures j) a.store.now (action_of a.request) a.w))
    ∙ done_on a.shape a.request a.n a.seen a.store.now a.w 0 gated refl
