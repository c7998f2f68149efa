-- `starts::free::first_free` goes on while no node is free: what is left to try gives what the whole gives. Assumes nothing.
use Rattle.std.proofs.Common.{◌≡◌, ◌<◌, ◌-◌}
use Rattle.starts.specs.FreeSearch.{free_of_below, first_free_below}
use Rattle.starts.proofs.free.first_free.Given as goal

abbrev pub invariant-loop : goal.invariant-loop
invariant-loop l =
    (l.n < l.view.shape.nodes)
    × (free_of_below l.view.shape l.view.words.now l.low (l.end - l.counter) l.n ≡ first_free_below l.view.shape l.view.words.now l.low)
