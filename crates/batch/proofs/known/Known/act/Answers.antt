-- A start or turn is a record of the file: refused by the gate, or done to the record of its worker.
use Rattle.std.proofs.Common.{rules, List, ◌≡◌, sym, ap, ◌∙◌, ℕ}
use Rattle.std.proofs.lemmas.Result.{err_from_is_err_and}
use Rattle.arrival.specs.declared.Worker.{Worker}
use Rattle.arrival.specs.declared.Response.{Response}
use Rattle.words.specs.Done.{Done}
use Rattle.operation.specs.LocalAct.{local_act}
use Rattle.starts.proofs.Refusing.{some}
use Rattle.batch.specs.OneRecord.{holding}
use Rattle.batch.proofs.OneRecord.{refused_act, did_act}
use Rattle.batch.proofs.known.Known.act.Goals as goal

pub returns-in_err-gate-clause-does : goal.returns-in_err-gate-clause-does
returns-in_err-gate-clause-does c = λ t S of beside.
    let a = c.args in
    let p = err_from_is_err_and c.from_residual.result c.from_residual.ensures.1 in
    rw (p.1, p.2, of) (refused_act (holding a.self.now t) a.store.now S a.action _ (rw c.worker.ensures at c.in_err-gate.ensures) (some _))

-- the store as it is lent is the store that was laid out in it
with_store : (s t : List ℕ) (w : Worker) (l : Response) (done : Done) → s ≡ t → record { store = t; worker = w; response = l } ≡ done
    → record { store = s; worker = w; response = l } ≡ done
with_store s t w l done same is = ap (λ (u : List ℕ). record { store = u; worker = w; response = l }) same ∙ is

pub returns-clause-does : goal.returns-clause-does
returns-clause-does c = λ t S of beside.
    let a = c.args in
    let d = holding a.self.now t in
    let r = c.perform in
    let done = r.ensures.gives ∙ ap (λ (low : ℕ). local_act d.shape low a.store.now a.action a.w) c.low_for-low.ensures.0 in
    rw (c.action_leaks.ensures, c.view.ensures.0, c.view.ensures.1, of)
    (did_act d a.store.now S a.action (sym (rw c.worker.ensures at c.in_ok-gate.ensures)) a.tickets.now beside
    _ _ _ (with_store _ r.new.store.words.now _ _ _ (search rules) (rw of at done)))
