-- Why a batch is left, as the code has it: no room for a line, every byte worked through, or what follows refused. Assumes nothing.
use Rattle.std.specs.Prelude.{◌≡◌, refl, List, Bool, true, false, ◌⊎◌, ℕ, ◌+◌, leb, length, take, None, Ok, Err}
use Rattle.std.proofs.Common.{ap, ◌∙◌, inl, inr}
use Rattle.std.proofs.Math.Path.{subst⁻¹}
use Rattle.arrival.specs.declared.Shape.{Shape}
use Rattle.arrival.specs.declared.Worker.{Worker}
use Rattle.turn_file.specs.declared.Unreadable.{Unreadable}
use Rattle.turn_file.specs.Reading.{record_at}
use Rattle.batch.specs.declared.Progress as declared
use Rattle.batch.specs.declared.Stop.{Stop}
use Rattle.batch.specs.declared.Stop.TheVariants.{Full, Drained, Halted}
use Rattle.batch.specs.Batch.{Progress, Stopped, worked_all}
use Rattle.batch.specs.Held.{held_all}
use Rattle.batch.specs.BatchLoop.{at_work}
use Rattle.batch.specs.CodeView.{Sound, ends, stopped_of}
use Rattle.batch.specs.RoundArms.{Round}
use Rattle.batch.proofs.RoundArms.{kept, at_full, at_drained, at_halted}

module _ {bytes : List ℕ} {p₀ : Progress} {h₀ records : ℕ} {sh : Shape} {s : List ℕ} {t : List Worker} {at : ℕ} {lines : List ℕ} {to : ℕ} {sound : Bool} {h : ℕ}
    (R : Round bytes p₀ h₀ (length s) records (length lines) sh s t at lines to sound h) where
  abbrev after : Stop → Stopped
  after stop = record { progress = at_work sh s (take records t) at lines to; stop = stop }

  -- what the loop's three ways out tell, whatever they are told in
  pub stopped : {A B C : Type 0} {stop : Stop} {r : declared.Progress} → A ⊎ (B ⊎ C)
      → (A → (leb (to + 89) (length lines) ≡ false) × (stop ≡ Full))
      → (B → (leb (to + 89) (length lines) ≡ true) × (Ok None ≡ record_at bytes at) × (stop ≡ Drained))
      → (C → (why : Unreadable) × (leb (to + 89) (length lines) ≡ true) × (Err why ≡ record_at bytes at) × (stop ≡ Halted why))
      → r ≡ stopped_of sh sound records h t at to stop
      → (ends s lines r ≡ worked_all bytes p₀) × Sound r.pool s × (r.pool.records ≡ records) × (r.pool.held ≡ held_all bytes h₀ p₀)
  stopped {A = A} {B = B} {C = C} {stop = stop} came full drained halted is =
      let end : (after stop ≡ worked_all bytes p₀) × (h ≡ held_all bytes h₀ p₀) = go came in
      subst⁻¹ (λ (x : declared.Progress). (ends s lines x ≡ worked_all bytes p₀) × Sound x.pool s × (x.pool.records ≡ records)
      × (x.pool.held ≡ held_all bytes h₀ p₀)) is
      (end.0, kept R, refl, end.1)
    where
      go : A ⊎ (B ⊎ C) → (after stop ≡ worked_all bytes p₀) × (h ≡ held_all bytes h₀ p₀)
      go (inl a) = at_full R (full a).0 stop (full a).1
      go (inr (inl b)) = let end = at_drained R (drained b).0 (drained b).1 in (ap after (drained b).2 ∙ end.0, end.1)
      go (inr (inr c)) = let end = at_halted R (halted c).1 (halted c).0 (halted c).2 in (ap after (halted c).3 ∙ end.0, end.1)
