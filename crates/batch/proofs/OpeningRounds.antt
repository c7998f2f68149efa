-- An opening in a batch, refused or not, as the code has it, is a round of the definition. Assumes nothing.
--     opening_round    past both ways of the code it is one record more
--     held_opening     the same of the pool and the tickets that `Known::open` leaves
use Rattle.std.specs.Prelude.{◌≡◌, refl, List, ◌++◌, Bool, true, false, cond, ◌≢◌, ◌⊎◌, ℕ, ◌+◌, eqb, leb, length, drop, replicate}
use Rattle.std.proofs.Common.{sym, ap, ◌∙◌, inl, inr, eq-eqb, ne_eqb, eqb-true}
use Rattle.std.proofs.Math.Path.{subst⁻¹}
use Rattle.std.proofs.lemmas.Bool.{eqb-false}
use Rattle.arrival.specs.declared.Shape.{Shape}
use Rattle.arrival.specs.declared.Worker.{Worker}
use Rattle.calendar.specs.rules.Ranges.{blank}
use Rattle.calendar.specs.rules.Opening.{open_store}
use Rattle.turn_file.specs.declared.Record.TheVariants.{Open}
use Rattle.turn_file.specs.Reading.{record_at, whole}
use Rattle.admission.specs.Gate.{open_gate, open_response}
use Rattle.batch.specs.declared.HeldPool.{HeldPool}
use Rattle.batch.specs.Batch.{Progress}
use Rattle.batch.specs.Held.{greater}
use Rattle.batch.specs.Tickets.{tickets_of}
use Rattle.batch.specs.CodeView.{held_of}
use Rattle.batch.specs.OneRecord.{opened_to, past_opening}
use Rattle.batch.specs.RoundArms.{Round, Line}
use Rattle.batch.proofs.RoundArms.{opened, not_opened, settled}

module _ {bytes : List ℕ} {p₀ : Progress} {h₀ records space : ℕ} {sh : Shape} {s : List ℕ} {t : List Worker} {at : ℕ} {lines : List ℕ} {to : ℕ} {sound : Bool}
    {h : ℕ}
    (R : Round bytes p₀ h₀ (length s) records space sh s t at lines to sound h) (fits : leb (to + 89) space ≡ true) (next : ℕ) (lines' : List ℕ) (to' k : ℕ)
    (sh' : Shape) (e : whole (Open sh') next ≡ record_at bytes at) (is : k ≡ open_gate sh' (length s) records)
    (s' : List ℕ) (store : s' ≡ cond (eqb (open_gate sh' (length s) records) 0) (open_store sh' s) s) (line : Line lines to (open_response k) lines' to') where
  refused_round : k ≢ 0 → Round bytes p₀ h₀ (length s) records space sh s' t next lines' to' sound h
  refused_round n =
      let none = ne_eqb k 0 n in
      subst⁻¹ (λ (u : List ℕ). Round bytes p₀ h₀ (length s) records space sh u t next lines' to' sound h)
      (store ∙ ap (λ (m : ℕ). cond (eqb m 0) (open_store sh' s) s) (sym is) ∙ rw none)
      (not_opened R fits next (open_response k) lines' to' line sh' e k is n (rw none))

  opened_round : k ≡ 0 → (t' : List Worker) → t' ≡ replicate sh'.workers blank ++ drop sh'.workers t → (h' : ℕ)
      → h' ≡ greater h sh'.workers
      → Round bytes p₀ h₀ (length s) records space sh' s' t' next lines' to' true h'
  opened_round z t' table h' holds =
      let all = eq-eqb k 0 z in
      opened R fits next (open_response k) lines' to' line sh' e k is z (rw all) s'
      (store ∙ ap (λ (m : ℕ). cond (eqb m 0) (open_store sh' s) s) (sym is) ∙ rw all) t' table h' holds

  -- the same of the loop's values past both ways, whatever those are told in
  pub opening_round : {A B : Type 0} {ts : List ℕ} {sh'' : Shape} {sound' : Bool} {h' : ℕ} {t' : List Worker} {ts' : List ℕ} → ts ≡ tickets_of t → A ⊎ B
      → (A → (k ≡ 0) × (sh'' ≡ sh') × (sound' ≡ true) × (h' ≡ greater h sh'.workers) × (t' ≡ replicate sh'.workers blank ++ drop sh'.workers t)
      × (ts' ≡ tickets_of t'))
      → (B → (k ≢ 0) × (sh'' ≡ sh) × (sound' ≡ sound) × (h' ≡ h) × (t' ≡ t) × (ts' ≡ ts))
      → Round bytes p₀ h₀ (length s) records space sh'' s' t' next lines' to' sound' h' × (ts' ≡ tickets_of t')
  opening_round is (inl x) done not_done =
      let (z, shape, up, holds, table, tickets) = done x in
      (rw (shape, up) (opened_round z _ table _ holds), tickets)
  opening_round is (inr x) done not_done =
      let (n, shape, flag, holds, table, tickets) = not_done x in
      (rw (shape, flag, holds, table) (refused_round n), tickets ∙ is ∙ ap tickets_of (sym table))

  -- of the pool d and the tickets ts' that `Known::open` leaves
  pub held_opening : {ts : List ℕ} → ts ≡ tickets_of t → (d : HeldPool)
      → d ≡ past_opening (open_gate sh' (length s) records) sh' (held_of sh sound records h t) → (ts' : List ℕ)
      → ts' ≡ cond (eqb (open_gate sh' (length s) records) 0) (tickets_of d.table) ts
      → Round bytes p₀ h₀ (length s') d.records (length lines') d.shape s' d.table next lines' to' d.sound d.held × (ts' ≡ tickets_of d.table)
      × (d.records ≡ records)
  held_opening {ts} beside d left ts' made =
      go (eqb k 0) refl (left ∙ ap (λ (m : ℕ). past_opening m sh' (held_of sh sound records h t)) (sym is))
      (made ∙ ap (λ (m : ℕ). cond (eqb m 0) (tickets_of d.table) ts) (sym is))
    where
      at_end : {up : Bool} {sh'' : Shape} {h' : ℕ} {t' : List Worker} → d.records ≡ records
          → Round bytes p₀ h₀ (length s) records space sh'' s' t' next lines' to' up h'
          → Round bytes p₀ h₀ (length s') d.records (length lines') sh'' s' t' next lines' to' up h'
      at_end {up} {sh''} {h'} {t'} same R' =
          subst⁻¹ (λ (n : ℕ). Round bytes p₀ h₀ (length s') n (length lines') sh'' s' t' next lines' to' up h') same (settled R')

      go : (b : Bool) → eqb k 0 ≡ b → d ≡ cond b (opened_to sh' (held_of sh sound records h t)) (held_of sh sound records h t)
          → ts' ≡ cond b (tickets_of d.table) ts
          → Round bytes p₀ h₀ (length s') d.records (length lines') d.shape s' d.table next lines' to' d.sound d.held × (ts' ≡ tickets_of d.table)
          × (d.records ≡ records)
      go true z l m =
          let same = ap (λ (x : HeldPool). x.records) l in
          let (R', tickets) = opening_round {A = Unit {0}} {B = ⊥} beside (inl tt)
          (λ x. (
            eqb-true k 0 z,
            ap (λ (x : HeldPool). x.shape) l,
            ap (λ (x : HeldPool). x.sound) l,
            ap (λ (x : HeldPool). x.held) l,
            ap (λ (x : HeldPool). x.table) l,
            m,
          ))
          (λ x. absurd x) in
          (at_end same R', tickets, same)
      go false n l m =
          let same = ap (λ (x : HeldPool). x.records) l in
          let (R', tickets) = opening_round {A = ⊥} {B = Unit {0}} beside (inr tt) (λ x. absurd x)
          (λ x. (
            eqb-false k 0 n,
            ap (λ (x : HeldPool). x.shape) l,
            ap (λ (x : HeldPool). x.sound) l,
            ap (λ (x : HeldPool). x.held) l,
            ap (λ (x : HeldPool). x.table) l,
            m,
          )) in
          (at_end same R', tickets, same)
