-- `starts::start_dequeue` is refused by 9 or 11, or begins. Assumes nothing.
use Rattle.std.proofs.Common.{refl, ◌∙◌}
use Rattle.std.proofs.lemmas.Result.{err_from_is_err_and}
use Rattle.starts.proofs.Refusing.{some, take_refused, take_begun}
use Rattle.starts.proofs.start_dequeue.Goals as goal

pub returns-in_err-start_refusal-clause-gives : goal.returns-in_err-start_refusal-clause-gives
returns-in_err-start_refusal-clause-gives c =
    let p = err_from_is_err_and c.from_residual.result c.from_residual.ensures.1 in
    rw (p.1, p.2) (take_refused _ _ _ _ _ (rw (← c.view.ensures.0, ← c.view.ensures.1) c.word.ensures) c.in_err-start_refusal.ensures (some _))

pub returns-clause-gives : goal.returns-clause-gives
returns-clause-gives c =
    c.begin_dequeue.ensures.begun
    ∙ take_begun _ _ _ _ 0 (rw (← c.view.ensures.0, ← c.view.ensures.1) c.word.ensures) c.in_ok-start_refusal.ensures refl
