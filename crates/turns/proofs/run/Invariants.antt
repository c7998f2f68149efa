-- Before each round the places lie in their buffers, and the rounds done and left are all of them.
use Rattle.std.proofs.Common.{◌≡◌, ◌≤◌, ◌-◌, length}
use Rattle.batch.specs.CodeView.{Sound}
use Rattle.turns.specs.TurnsRun.{lent, at_first}
use Rattle.turns.specs.BetweenRounds.{in_hand, holding}
use Rattle.turns.specs.RunFollows.{all_rounds, Followed}
use Rattle.turns.proofs.run.Given as goal

abbrev pub invariant-loop-round : goal.invariant-loop-round
invariant-loop-round g l = record {
  sound : Sound l.pool l.store;
  at : l.at ≤ l.have;
  have : l.have ≤ length l.input;
  store : length l.store ≡ length l.initial.store;
  input : length l.input ≡ length l.initial.input;
  out : length l.out ≡ length l.initial.out;
  followed : Followed (at_first lent l.initial.out) (holding l.pool l.store l.ended (in_hand l.at l.have l.input) l.out) (all_rounds - l._round);
}
