-- The array is what is lent.
use Rattle.std.proofs.Common.{refl}
use Rattle.turns.specs.TurnsRun.{lent}
use Rattle.turns.proofs.lent_words.Goals as goal

pub returns : goal.returns
unfolding lent
returns c = refl
