-- The pool of held records is sound, and what `batch::run_batch` leaves is told in numbers. Assumes nothing.
use Rattle.std.proofs.Common.{rules, ◌≡◌, sym, ap, ◌∙◌, ℕ, Bool, length, take, length-take-le, arith}
use Rattle.std.proofs.Math.Path.{subst⁻¹}
use Rattle.admission.specs.Watched.{Watched}
use Rattle.admission.specs.Gate.{sound_of}
use Rattle.admission.proofs.GateLaws.{sound_opens}
use Rattle.batch.specs.Held.{held_all}
use Rattle.batch.specs.BatchLoop.{at_work}
use Rattle.wubraken.specs.Survey.{surveyed}
use Rattle.wubraken_batch.specs.declared.batches.BatchEnd.{BatchEnd}
use Rattle.wubraken_batch.specs.LentBatch.{end_of, account, batch_on, held_on, account_of, held_in_range, held_watched}
use Rattle.wubraken_batch.proofs.batches.run_held.Goals as goal

pub run_batch-p-requires : goal.run_batch-p-requires
run_batch-p-requires c =
    let a = c.args in
    let long : length a.table ≡ 64 = search rules in
    let sound = c.is_sound.ensures in
    let same = sound
    ∙ ap (sound_of a.shape a.store.now a.n)
    (c.held_in_range-ok.ensures ∙ ap (λ (m : ℕ). held_in_range a.shape m a.table) c.records_surveyed-held.ensures) in (
      long,
      c.requires,
      subst⁻¹ (λ (b : Bool). Watched a.shape (record { store = a.store.now; table = take a.n a.table }) b) same
          (held_watched a.shape a.store.now a.n a.table (omega arith)),
      λ up. sound_opens a.shape a.store.now a.n _ (sym sound ∙ up),
    )

pub returns : goal.returns
unfolding batch_on held_on
returns c =
    let a = c.args in
    let p = c.run_batch-p in
    let r = p.result in
    let long : length a.table ≡ 64 = search rules in
    let first = c.records_surveyed-held.ensures ∙ ap (surveyed a.shape) (sym (length-take-le a.n a.table (omega arith))) in (
      ap (λ (e : BatchEnd). account p.new.store (take a.n r.pool.table) p.new.out e) c.from.ensures
          ∙ ap (λ (m : ℕ). account p.new.store (take m r.pool.table) p.new.out (end_of r)) (sym p.ensures.2)
          ∙ ap account_of p.ensures.0,
      p.ensures.3 ∙ ap (λ k. held_all a.input.now k (at_work a.shape a.store.now (take a.n a.table) 0 a.out.now 0)) first,
    )
