-- `turns::deal_turns`: the look at the candidate may be made, and leaves a run that is sound, wants the same and has less to do. Assumes nothing.
--     moved    what it leaves, of a run x that goes on as r
use Rattle.std.proofs.Common.{◌≡◌, ℕ, ◌<◌, List, sym, ap, subst, ◌∙◌}
use Rattle.std.specs.declared.ops.ControlFlow.TheVariants.{Continue}
use Rattle.arrival.specs.declared.Worker.{Worker}
use Rattle.calendar.specs.rules.Ranges.{blank, worker}
use Rattle.dealer.specs.declared.runs.Going.{Going}
use Rattle.dealer.specs.Runs.{Run, Visited, visited}
use Rattle.dealer.specs.Tour.{Sound, wanted, todo, Moved}
use Rattle.dealer.proofs.Tour.{wanted_ended, visitable, moves}
use Rattle.dealer.proofs.turns.deal_turns.Goals as goal

moved : (x : Run) (r : Going) (s : List ℕ) (t : List Worker) (v : Visited) → x ≡ Continue r → Sound x s t → v ≡ visited r s (worker t r.at)
    → Moved r s t v
moved x r s t v is sound did = subst (Moved r s t) (sym did) (moves r s t (subst (λ (y : Run). Sound y s t) is sound))

pub returns-in-Break : goal.returns-in-Break
returns-in-Break c =
    let k = c.loop-run in
    sym (wanted_ended c.in-Break.ended k.store k.table) ∙ sym (ap (λ (y : Run). wanted y k.store k.table) c.in-Break.is) ∙ k.invariant.1

pub look_at-run-requires : goal.look_at-run-requires
unfolding blank
look_at-run-requires c =
    let k = c.loop-run in
    let r = c.in-Continue in
    visitable r.going k.store k.table (subst (λ (y : Run). Sound y k.store k.table) r.is k.invariant.0)

pub loop-run-smaller : goal.loop-run-smaller
unfolding blank
loop-run-smaller c =
    let k = c.loop-run in
    let r = c.in-Continue in
    let v = c.look_at-run in
    subst (λ (y : Run). todo v.result < todo y) (sym r.is) (moved k.run r.going k.store k.table _ r.is k.invariant.0 v.ensures).less

pub loop-run-preserved : goal.loop-run-preserved
unfolding blank
loop-run-preserved c =
    let k = c.loop-run in
    let r = c.in-Continue in
    let v = c.look_at-run in
    let m = moved k.run r.going k.store k.table (record { run = v.result; worker = v.new.w; store = v.new.store }) r.is k.invariant.0 v.ensures in
    (m.sound, m.same ∙ sym (ap (λ (y : Run). wanted y k.store k.table) r.is) ∙ k.invariant.1)
