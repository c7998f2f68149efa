-- `starts::free::first_free` goes on while no node is free: what is left to try gives what the whole gives. Assumes nothing.
use Rattle.std.proofs.Common.{◌≡◌, refl, sym, ◌∙◌, ◌<◌, ◌+◌, ◌-◌, arith}
use Rattle.starts.specs.FreeSearch.{first_free_below, free_none, free_here, free_on, next_below}
use Rattle.starts.proofs.free.first_free.Goals as goal

pub loop-init : goal.loop-init
unfolding first_free_below
loop-init c =
    let all : c.args.view.now.shape.nodes - 0 ≡ c.args.view.now.shape.nodes = omega arith in
    (omega (arith, c.word-n.ensures, c.requires.low_bound), rw (all, c.word-n.ensures) refl)

pub returns-then-is_free-clause-first : goal.returns-then-is_free-clause-first
returns-then-is_free-clause-first c =
    let some : 0 < c.args.view.now.shape.nodes - c.loop.counter = omega (arith, c.loop-test.true) in
    sym (free_here _ _ _ _ _ _ _ _ some c.after-n.ensures c.field.ensures c.is_free.ensures c.if-is_free.true) ∙ c.loop.invariant.1

pub loop-preserved : goal.loop-preserved
loop-preserved c =
    let some : 0 < c.args.view.now.shape.nodes - c.loop.counter = omega (arith, c.loop-test.true) in
    let less : c.args.view.now.shape.nodes - c.loop.counter - 1 ≡ c.args.view.now.shape.nodes - (c.loop.counter + 1) = omega arith in (
      omega (arith, c.after-n.ensures, next_below c.args.view.now.shape _ c.loop.invariant.0),
      rw (← less)
          (sym (free_on _ _ _ _ _ _ _ _ some c.after-n.ensures c.field.ensures c.is_free.ensures c.if-is_free.false) ∙ c.loop.invariant.1),
    )

pub returns-clause-first : goal.returns-clause-first
returns-clause-first c =
    let e : c.args.view.now.shape.nodes - c.loop.counter ≡ 0 = omega (arith, c.loop-test.false) in
    sym (free_none _ _ _ _) ∙ (rw e at c.loop.invariant.1)
