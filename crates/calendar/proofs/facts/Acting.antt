-- An action and its reading, by whether it is refused. Assumes nothing.
use Rattle.std.specs.Prelude.{◌≡◌, refl, Bool, true, false, cond, eqb}
use Rattle.std.proofs.Common.{sym, subst, eqb-true}
use Rattle.arrival.specs.declared.Shape.{Shape}
use Rattle.arrival.specs.declared.Action.{Action}
use Rattle.arrival.specs.declared.Response.TheVariants.{Refused}
use Rattle.arrival.specs.Responses.{said}
use Rattle.calendar.specs.rules.Operations.{Memory, perform, actor, refusal, outcome, act}
use Rattle.calendar.specs.rules.Ledger.{Ledger, notes, reads}
use Rattle.calendar.proofs.facts.Untouched.{outcome_said}

-- an action is refused and changes neither memory nor ledger, or is noted
pub by_act : (sh : Shape) (P : Memory → Ledger → Type 0) (m : Memory) (L : Ledger) (a : Action) → P m L
    → (refusal sh m a ≡ 0 → P (perform sh m (actor a) (outcome sh m a)).memory (notes sh m a (outcome sh m a).response L))
    → P (act sh m a).memory (reads sh m a L)
unfolding act
by_act sh P m L a same h = go (eqb (refusal sh m a) 0) refl
  where
    go : (b : Bool) → eqb (refusal sh m a) 0 ≡ b
        → P (cond b (perform sh m (actor a) (outcome sh m a)) (record { memory = m; response = Refused (refusal sh m a) })).memory
        (cond (eqb (said (cond b (perform sh m (actor a) (outcome sh m a)) (record { memory = m; response = Refused (refusal sh m a) })).response).number 0)
        (notes sh m a (cond b (perform sh m (actor a) (outcome sh m a)) (record { memory = m; response = Refused (refusal sh m a) })).response L) L)
    go true e =
        let z = eqb-true (refusal sh m a) 0 e in
        subst (λ n. P (perform sh m (actor a) (outcome sh m a)).memory (cond (eqb n 0) (notes sh m a (outcome sh m a).response L) L))
        (sym (outcome_said sh m a z)) (h z)
    go false e = subst (λ b. P m (cond b (notes sh m a (Refused (refusal sh m a)) L) L)) (sym e) same
