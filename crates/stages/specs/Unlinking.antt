-- Stage 3 where its swap succeeds: after the two writes the search settles as it would have before them. Assumes nothing.
use Rattle.std.specs.Prelude.{◌≡◌, ℕ, ◌+◌, ◌*◌, ◌/◌, ◌<◌}
use Rattle.std.proofs.Common.{ap, ◌∙◌, eq-eqb}
use mathlib.Core.List.{List, []}
use Rattle.arrival.specs.declared.Shape.{Shape}
use Rattle.arrival.specs.declared.Worker.{Worker}
use Rattle.calendar.specs.rules.Layout.{word, cell, field, read, write, write_all, item_at}
use Rattle.calendar.specs.rules.Outcome.{with_right}
use Rattle.calendar.specs.rules.SearchSteps.{settle, unlink, step_3}
use Rattle.words.specs.Done.{done}
use Rattle.stages.specs.Ready.{Ready, Holds, holds, item_unlinked, holds_unlinked}
use Rattle.stages.specs.Gives.{settle_after}

-- k calls had been started; s₁ is the store after the swap, s₂ after the standing
module _ (sh : Shape) (s s₁ s₂ : List ℕ) (w : Worker) (k : ℕ) (ready : Ready sh s w) (right : w.right < sh.nodes)
    (count : k ≡ read sh s (word 1)) (first : s₁ ≡ write sh s (cell w.left) (2 * (w.seen / 2)))
    (second : s₂ ≡ write sh s₁ (field 7 w.right) (2 + k)) where
  after : s₂ ≡ write_all sh s (unlink sh s w)
  after = second ∙ rw (first, count)

  pub unlinked_holds : Holds sh s₂ w.own
  unlinked_holds = rw after (holds_unlinked sh s w ready.laid ready.worker.left right w.own (holds sh s w ready))

  pub unlinked_step : read sh s (cell w.left) ≡ 2 * w.right → done sh s₂ (settle sh s₂ [] (with_right (w.seen / 2) w)) ≡ done sh s (step_3 sh s w)
  unfolding step_3
  unlinked_step same =
      settle_after sh s s₂ (unlink sh s w) (with_right (w.seen / 2) w) after (ap (λ (t : List ℕ). item_at sh t w.own) after
      ∙ item_unlinked sh s w ready.laid ready.worker.left right w.own)
      ∙ rw (eq-eqb (read sh s (cell w.left)) (2 * w.right) same)
