-- `operation::perform_turns`: before each round what is left to do gives what the whole gives. Assumes nothing.
use Rattle.std.proofs.Common.{◌≡◌}
use Rattle.words.specs.Kept.{Kept}
use Rattle.operation.specs.LocalAct.{Admitted, local_act}
use Rattle.operation.specs.LocalTurns.{local_turns}
use Rattle.operation.proofs.perform_turns.Given as goal

abbrev pub invariant-loop-left : goal.invariant-loop-left
invariant-loop-left l =
    let sh = l.fn.store.shape in
    Kept l.fn.store l.store
    × Admitted l.store.shape l.store.words.now l.w
    × (local_turns l.store.shape l.left (local_act l.store.shape l.low l.store.words.now l.action l.w)
    ≡ local_turns sh l.turns (local_act sh l.low l.fn.store.words.now l.fn.action l.fn.w))

abbrev pub decreases-loop-left : goal.decreases-loop-left
decreases-loop-left l = l.left
