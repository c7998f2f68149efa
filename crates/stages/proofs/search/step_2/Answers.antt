-- Stage 2 where the node on the right is lower: the code compares the keys that the rule compares.
use Rattle.std.proofs.Common.{◌∙◌}
use borrow.Author.Tests.{ne_eqb}
use Rattle.arrival.proofs.Keys.{lower_keys}
use Rattle.calendar.specs.rules.Layout.{item_at}
use Rattle.calendar.specs.rules.SearchSteps.{step_2}
use Rattle.stages.proofs.search.step_2.Goals as goal

pub returns-then-is_lower : goal.returns-then-is_lower
unfolding step_2
returns-then-is_lower c =
    let a = c.args in
    let v = a.view.now in
    rw (
      ← c.cell-link.ensures,
      ne_eqb _ _ c.if-link-eq1.false,
      ← (c.is_lower.ensures ∙ lower_keys (item_at v.shape v.words.now a.w.right) (item_at v.shape v.words.now a.w.own) _ _
          c.key-there.ensures c.key-own.ensures),
      c.if-is_lower.true,
    ) c.settle_right.ensures
