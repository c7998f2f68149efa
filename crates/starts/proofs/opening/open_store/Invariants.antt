-- `starts::opening::open_store` writes the layout's words from the front. Assumes nothing.
use Rattle.std.proofs.Common.{◌≡◌, ◌++◌, drop}
use Rattle.calendar.specs.rules.Opening.{open_word}
use Rattle.laws.specs.Lists.{words_from}
use Rattle.words.specs.Kept.{Kept}
use Rattle.starts.proofs.opening.open_store.Given as goal

abbrev pub invariant-loop-i : goal.invariant-loop-i
invariant-loop-i l =
    Kept l.initial.store l.store × (l.store.words.now ≡ words_from (open_word l.shape) 0 l.i ++ drop l.i l.initial.store.words.now)
