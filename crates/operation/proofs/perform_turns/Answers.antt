-- `operation::perform_turns`: before each round what is left to do gives what the whole gives. Assumes nothing.
use Rattle.std.proofs.Common.{sym, ap, ◌∙◌}
use Rattle.words.specs.Done.{left}
use Rattle.operation.specs.LocalTurns.{local_turns}
use Rattle.operation.proofs.LocalTurns.{ended, not_ended, going, turns_out, turns_on, stays_admitted}
use Rattle.operation.proofs.perform_turns.Goals as goal

pub returns-then-left-goes_on-clause-gives : goal.returns-then-left-goes_on-clause-gives
returns-then-left-goes_on-clause-gives c =
    let l = c.loop-left in
    let did = ap (left c.perform.new.store) c.of-reply.ensures ∙ c.perform.ensures.gives in
    sym (ended l.store.shape l.left (left c.perform.new.store c.of-reply.result) _ c.goes_on.ensures c.if-left-goes_on.true)
    ∙ ap (local_turns l.store.shape l.left) did ∙ l.invariant.2

pub returns-then-not-links_in_range-clause-gives : goal.returns-then-not-links_in_range-clause-gives
returns-then-not-links_in_range-clause-gives c =
    let l = c.loop-left in
    let p = c.perform in
    let d = left p.new.store c.of-reply.result in
    let did = ap (left p.new.store) c.of-reply.ensures ∙ p.ensures.gives in
    let (some, on) = not_ended l.left c.of-reply.result.response _ c.goes_on.ensures c.if-left-goes_on.false in
    rw c.refused.ensures
    (turns_out l.store.shape l.left d (going _ _ _ _ l.invariant.1 l.action d did on) some on
    (rw (← p.ensures.kept.1) (sym c.if-not-links_in_range.ensures))
    ∙ ap (local_turns l.store.shape l.left) did ∙ l.invariant.2)

pub loop-left-preserved : goal.loop-left-preserved
loop-left-preserved c =
    let l = c.loop-left in
    let p = c.perform in
    let (kept, A, e) = l.invariant in
    let d = left p.new.store c.of-reply.result in
    let did = ap (left p.new.store) c.of-reply.ensures ∙ p.ensures.gives in
    let (some, on) = not_ended l.left c.of-reply.result.response _ c.goes_on.ensures c.if-left-goes_on.false in
    let G = going _ _ _ _ A l.action d did on in
    let inside = sym c.if-not-links_in_range.ensures in (
      (p.ensures.kept.0 ∙ kept.0, p.ensures.kept.1 ∙ kept.1),
      stays_admitted _ _ _ (rw p.ensures.kept.1 A.limits) p.new.store.laid (rw p.ensures.kept.1 G) inside,
      rw p.ensures.kept.1
          (turns_on l.store.shape l.left d G some on c.args.low c.worker.result (rw (← p.ensures.kept.1) inside)
          ∙ ap (local_turns l.store.shape l.left) did ∙ e),
    )
