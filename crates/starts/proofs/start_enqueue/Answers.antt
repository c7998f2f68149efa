-- `starts::start_enqueue` is refused by 5, 9, 11 or 12, or begins on the first free node. Assumes nothing.
use Rattle.std.proofs.Common.{◌≡◌, ◌≢◌, ◌<◌, refl, ◌∙◌, arith, None, Some}
use Rattle.std.proofs.lemmas.Result.{err_from_is_err_and}
use Rattle.arrival.specs.declared.refusals.Refusal.TheVariants.{NoNode}
use Rattle.starts.specs.LocalStart.{at_early, at_full, at_begun}
use Rattle.starts.specs.FreeSearch.{first_free_below}
use Rattle.starts.proofs.Refusing.{some}
use Rattle.starts.proofs.start_enqueue.Goals as goal

pub returns-in_err-enqueue_refusal-clause-gives : goal.returns-in_err-enqueue_refusal-clause-gives
returns-in_err-enqueue_refusal-clause-gives c =
    let p = err_from_is_err_and c.from_residual.result c.from_residual.ensures.1 in
    rw (p.1, p.2)
    (at_early _ _ _ _ _ _ _ 0 (rw (← c.view.ensures.0, ← c.view.ensures.1) c.word.ensures) c.in_err-enqueue_refusal.ensures.early (some _))

pub returns-in_err-n-clause-gives : goal.returns-in_err-n-clause-gives
returns-in_err-n-clause-gives c =
    let none : c.first_free.result ≡ None = grind arith in
    let p = err_from_is_err_and c.from_residual-in_err-n.result c.from_residual-in_err-n.ensures.1 in
    let e : p.0 ≡ NoNode = grind arith in
    let first : c.args.store.now.shape.nodes ≡ first_free_below c.args.store.now.shape c.args.store.now.words.now c.args.low =
    rw (none, c.view-2.ensures.0, c.view-2.ensures.1) at c.first_free.ensures.first in
    rw (p.1, e)
    (at_full _ _ _ _ _ _ 0 _ (rw (← c.view.ensures.0, ← c.view.ensures.1) c.word.ensures) c.in_ok-enqueue_refusal.ensures.early refl first refl)

pub returns-clause-gives : goal.returns-clause-gives
returns-clause-gives c =
    let found : c.first_free.result ≡ Some c.in_ok-n.n = grind arith in
    let first : c.in_ok-n.n ≡ first_free_below c.args.store.now.shape c.args.store.now.words.now c.args.low =
    rw (found, c.view-2.ensures.0, c.view-2.ensures.1) at c.first_free.ensures.first in
    let inside : c.in_ok-n.n < c.args.store.now.shape.nodes = rw (found, c.view-2.ensures.0) at c.first_free.ensures.inside in
    let a_node : c.in_ok-n.n ≢ c.args.store.now.shape.nodes = λ z. omega (arith, inside) in
    c.begin_enqueue.ensures.begun
    ∙ at_begun _ _ _ _ _ _ 0 _ (rw (← c.view.ensures.0, ← c.view.ensures.1) c.word.ensures) c.in_ok-enqueue_refusal.ensures.early refl first a_node
