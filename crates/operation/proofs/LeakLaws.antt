-- The flag for refusal 3 past an action that the gate lets in: down just where a turn leaks.
--     act_watched                     whether an action leaves the ranges; the flag past it
-- Assumes nothing.
use Rattle.std.specs.Prelude.{◌≡◌, Bool, cond, not, ◌≢◌, ℕ, length}
use Rattle.std.proofs.Math.Path.{refl, sym}
use Rattle.std.proofs.Common.{◌∙◌, eqb-true}
use Rattle.std.proofs.Math.Bool.{true, false}
use Rattle.std.proofs.Math.Dec.{eqb}
use Rattle.std.proofs.lemmas.Bool.{eqb-false}
use Rattle.arrival.specs.declared.Shape.{Shape}
use Rattle.arrival.specs.declared.Action.{Action}
use Rattle.arrival.specs.declared.Action.TheVariants.{Enqueue, Dequeue, Step}
use Rattle.arrival.specs.declared.Response.TheVariants as response
use Rattle.calendar.specs.rules.Ranges.{worker}
use Rattle.calendar.specs.facts.RangesKept.{leaks}
use Rattle.calendar.specs.facts.Accepted.{Usable}
use Rattle.calendar.proofs.facts.Accepted.{enqueue_accepted, dequeue_accepted, step_accepted}
use Rattle.calendar.specs.rules.Operations.{Memory, actor, refusal, perform, outcome, act}
use Rattle.admission.specs.Watched.{in_range, Watched}
use Rattle.admission.proofs.Watched.{enqueue_sound, dequeue_sound, step_sound}
use Rattle.admission.specs.Gate.{gate_of}
use Rattle.admission.proofs.GateLaws.{gate_passed, usable, turn_at_3}
use Rattle.operation.specs.Leaks.{action_leaks}

module _ (sh : Shape) (m : Memory) (sound : Bool) (watched : Watched sh m sound) (a : Action)
    (z : gate_of sh (length m.store) (length m.table) (actor a) sound ≡ 0) where
  U : Usable sh m.store m.table (actor a)
  U = usable sh m sound watched (actor a) z

  ranged : in_range sh m ≡ true
  ranged = sym (watched U.lent) ∙ (gate_passed sh (length m.store) (length m.table) (actor a) sound z).0

  -- by whether it is refused after all
  past : (b : Bool) → (refusal sh m a ≡ 0 → in_range sh (perform sh m (actor a) (outcome sh m a)).memory ≡ b) → (refusal sh m a ≢ 0 → b ≡ true)
      → b ≡ in_range sh (act sh m a).memory
  unfolding act
  past b did not_done = go (eqb (refusal sh m a) 0) refl
    where
      go : (c : Bool) → eqb (refusal sh m a) 0 ≡ c
          → b ≡ in_range sh (cond c (perform sh m (actor a) (outcome sh m a)) (record { memory = m; response = response.Refused (refusal sh m a) })).memory
      go true e = sym (did (eqb-true (refusal sh m a) 0 e))
      go false e = not_done (eqb-false (refusal sh m a) 0 e) ∙ sym ranged

-- a turn that is refused does not leak: it is not at stage 3
idle_tight : (sh : Shape) (m : Memory) (sound : Bool) (watched : Watched sh m sound) (i : ℕ) → gate_of sh (length m.store) (length m.table) i sound ≡ 0
    → refusal sh m (Step i) ≢ 0 → not (leaks sh m.store (worker m.table i)) ≡ true
idle_tight sh m sound watched i z n = go (eqb (worker m.table i).stage 3) refl
  where
    go : (b : Bool) → eqb (worker m.table i).stage 3 ≡ b → not (leaks sh m.store (worker m.table i)) ≡ true
    go false e = rw e
    go true e = absurd (n (turn_at_3 sh m sound watched i z (eqb-true (worker m.table i).stage 3 e)))

pub act_watched : (sh : Shape) (m : Memory) (sound : Bool) → Watched sh m sound → (a : Action)
    → gate_of sh (length m.store) (length m.table) (actor a) sound ≡ 0
    → Watched sh (act sh m a).memory (not (action_leaks sh m.store a (worker m.table (actor a))))
act_watched sh m sound w (Enqueue i x) z l =
    past sh m sound w (Enqueue i x) z true (λ e. enqueue_sound sh m i x (enqueue_accepted sh m.store m.table i x e)) (λ n. refl)
act_watched sh m sound w (Dequeue i) z l =
    past sh m sound w (Dequeue i) z true (λ e. dequeue_sound sh m i (dequeue_accepted sh m.store m.table i e)) (λ n. refl)
act_watched sh m sound w (Step i) z l =
    past sh m sound w (Step i) z (not (leaks sh m.store (worker m.table i)))
    (λ e. step_sound sh m i (step_accepted sh m.store m.table i e)) (idle_tight sh m sound w i z)
