-- `ranges::store_in_range` tests the three words, the heads and the nodes. Assumes nothing.
use Rattle.std.proofs.Common.{rules}
use Rattle.calendar.specs.rules.Ranges.{head_in_range, node_in_range, store_in_range}
use Rattle.admission.proofs.ranges.store_in_range.Goals as goal

pub returns : goal.returns
unfolding store_in_range
returns c =
    let v = c.args.view.now in
    rw (
      c.words_in_range.ensures,
      c.holds_below.ensures (head_in_range v.shape v.words.now) (λ b r l is. search rules),
      c.holds_below-2.ensures (node_in_range v.shape v.words.now) (λ n r l is. search rules),
    )
