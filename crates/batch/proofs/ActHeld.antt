-- A start or turn of a record that is held, as the code has it, is a round of the definition. Assumes nothing.
--     place_own, place_last            where the code looks for the worker's record, by its test
--     admits                          a worker that is let in is ready there
--     held_round                      stored at that place, it is one record more
--     held_known                      the same of what is known, as `Known::act` leaves it
use Rattle.std.specs.Prelude.{◌≡◌, refl, List, Bool, true, false, cond, not, ◌≢◌, ℕ, ◌+◌, ◌<◌, ◌≤◌, eqb, leb, length, set}
use Rattle.std.proofs.Common.{sym, ap, ◌∙◌, arith, eqb-true, lt-ltb, le-ltb}
use Rattle.std.proofs.Math.Path.{subst⁻¹}
use Rattle.std.proofs.lemmas.List.{set-get_or}
use Rattle.std.proofs.lemmas.Bool.{eqb-false}
use Rattle.arrival.specs.declared.Shape.{Shape}
use Rattle.arrival.specs.declared.Worker.{Worker}
use Rattle.arrival.specs.declared.Action.{Action}
use Rattle.calendar.specs.rules.Ranges.{blank, worker}
use Rattle.calendar.specs.rules.Operations.{actor}
use Rattle.words.specs.declared.replies.Reply.{Reply}
use Rattle.words.specs.Done.{Done, gives, refused}
use Rattle.operation.specs.LocalAct.{local_act, Admitted}
use Rattle.admission.specs.Gate.{gate_of}
use Rattle.turn_file.specs.declared.Record.TheVariants.{Act}
use Rattle.turn_file.specs.Reading.{record_at, whole}
use Rattle.batch.specs.declared.known.Known.{Known}
use Rattle.batch.specs.Batch.{Progress}
use Rattle.operation.specs.Leaks.{action_leaks}
use Rattle.batch.specs.Tickets.{tickets_of, low_for}
use Rattle.batch.proofs.TicketLaws.{low_is}
use Rattle.batch.specs.RoundArms.{Round, Line}
use Rattle.batch.proofs.RoundArms.{in_use, below_64, let_in, turned_away_lem, performed, settled}
use Rattle.batch.specs.ActHeld.{held_act, sound_after, place_of}
use Rattle.batch.specs.OneRecord.{past_action}

pub own_place : (a : Action) → actor a < 64 → place_of a ≡ actor a
own_place a h = rw (lt-ltb (actor a) 64 h)

pub place_own : (a : Action) (i : ℕ) → i ≡ actor a → i < 64 → i ≡ place_of a
place_own a i named h = named ∙ sym (own_place a (omega (arith, named, h)))

pub place_last : (a : Action) (i : ℕ) → i ≡ actor a → 64 ≤ i → 63 ≡ place_of a
place_last a i named h = rw (le-ltb (actor a) 64 (omega (arith, named, h)))

module _ {bytes : List ℕ} {p₀ : Progress} {h₀ records space : ℕ} {sh : Shape} {s : List ℕ} {t : List Worker} {at : ℕ} {lines : List ℕ} {to : ℕ} {sound : Bool}
    {h : ℕ}
    (R : Round bytes p₀ h₀ (length s) records space sh s t at lines to sound h) where
  -- a worker that the gate lets in stands at its own place
  module _ (a : Action) (j : ℕ) (place : j ≡ place_of a) (k i : ℕ) (gate : k ≡ gate_of sh (length s) records i sound) (named : i ≡ actor a) where
    gates : k ≡ gate_of sh (length s) records (actor a) sound
    gates = gate ∙ ap (λ (x : ℕ). gate_of sh (length s) records x sound) named

    at_place : k ≡ 0 → j ≡ actor a
    at_place z = place ∙ own_place a (below_64 R (actor a) k gates z)

    pub admits : k ≡ 0 → Admitted sh s (worker t j)
    admits z = subst⁻¹ (λ (x : ℕ). Admitted sh s (worker t x)) (at_place z) (let_in R (actor a) k gates z)

    module _ (fits : leb (to + 89) space ≡ true) (next : ℕ) (e : whole (Act a) next ≡ record_at bytes at) (ts : List ℕ) (is : ts ≡ tickets_of t) (s' : List ℕ)
        (r : Reply) (lines' : List ℕ) (to' : ℕ) (line : Line lines to r.response lines' to') where
      -- refused, and all stays
      away : k ≢ 0 → gives s' r ≡ refused s (worker t j) k → Round bytes p₀ h₀ (length s) records space sh s' (set t j r.worker) next lines' to' sound h
      away n d =
          let same : set t j r.worker ≡ t = ap (λ (x : Done). set t j x.worker) d ∙ set-get_or t j blank in
          subst⁻¹ (λ (u : List ℕ). Round bytes p₀ h₀ (length s) records space sh u (set t j r.worker) next lines' to' sound h)
          (ap (λ (x : Done). x.store) d)
          (subst⁻¹ (λ (u : List Worker). Round bytes p₀ h₀ (length s) records space sh s u next lines' to' sound h) same
          (turned_away_lem R fits next r.response lines' to' line a e k gates n (ap (λ (x : Done). x.response) d)))

      -- let in
      inside : k ≡ 0 → gives s' r ≡ local_act sh (low_for a ts sh.workers) s a (worker t j)
          → Round bytes p₀ h₀ (length s) records space sh s' (set t j r.worker) next lines' to' (not (action_leaks sh s a (worker t j))) h
      inside z =
          let U = in_use R (actor a) k gates z in
          let low = low_is sh t ts a (low_for a ts sh.workers) is (omega (arith, U.lent.limits.workers, R.array)) refl in
          subst⁻¹ (λ (x : ℕ). gives s' r ≡ local_act sh (low_for a ts sh.workers) s a (worker t x)
          → Round bytes p₀ h₀ (length s) records space sh s' (set t x r.worker) next lines' to' (not (action_leaks sh s a (worker t x))) h) (at_place z)
          (performed R fits next r.response lines' to' line a e k gates z s' r.worker (low_for a ts sh.workers) low _ refl)

      pub held_round : gives s' r ≡ held_act k sh a (worker t j) ts s → (up : Bool) → up ≡ sound_after k sh sound a (worker t j) s
          → Round bytes p₀ h₀ (length s) records space sh s' (set t j r.worker) next lines' to' up h
      held_round d up flag =
          subst⁻¹ (λ (b : Bool). Round bytes p₀ h₀ (length s) records space sh s' (set t j r.worker) next lines' to' b h) flag (go (eqb k 0) refl d)
        where
          go : (b : Bool) → eqb k 0 ≡ b
              → gives s' r ≡ cond b (local_act sh (low_for a ts sh.workers) s a (worker t j)) (refused s (worker t j) k)
              → Round bytes p₀ h₀ (length s) records space sh s' (set t j r.worker) next lines' to' (cond b (not (action_leaks sh s a (worker t j))) sound) h
          go true z x = inside (eqb-true k 0 z) x
          go false n x = away (eqb-false k 0 n) x

      -- of what is known, as `Known::act` leaves it
      pub held_known : gives s' r ≡ held_act k sh a (worker t j) ts s → (n : Known)
          → n ≡ past_action k (record { shape = sh; sound = sound; records = records; held = h }) a (worker t j) s
          → Round bytes p₀ h₀ (length s') n.records (length lines') n.shape s' (set t j r.worker) next lines' to' n.sound n.held
      held_known d n left =
          subst⁻¹ (λ (m : Known). Round bytes p₀ h₀ (length s') m.records (length lines') m.shape s' (set t j r.worker) next lines' to' m.sound m.held) left
          (settled (held_round d _ refl))
