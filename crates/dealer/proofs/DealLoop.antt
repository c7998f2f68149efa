-- The loop over dealt turns: what is still to be dealt gives what the whole run gives.
--     flag_tight                      the flag for refusal 3 before the first turn is down where 1 or 2 applies
--     passed_by_lem, away_at_first        what the gate lets pass may be dealt on; what it refuses no turn is dealt on
--     over                            what does not go on stays as it is
--     away, ended, on                 no turn is dealt; the last turn; one turn more
--     none_dealt                      no turn was asked for
-- Assumes nothing.
use Rattle.std.specs.Prelude.{◌≡◌, List, Bool, cond, ◌&&◌, ◌||◌, ◌≢◌, eqb, length}
use Rattle.std.proofs.Math.Path.{refl, sym, ap}
use Rattle.std.proofs.Common.{◌∙◌, add-zero}
use Rattle.std.proofs.lemmas.Bool.Decides.{nat_tests}
use Rattle.std.proofs.Math.Bool.{true, false, not, or-false, and-false}
use Prim.Native.Nat.{ℕ, zero, suc, ◌+◌, ◌-◌}
use native.Mathlib.Omega.{arith}
use borrow.Author.Tests.{eqb-true, eq-eqb, ne_eqb, le-ltb}
use Rattle.arrival.specs.declared.Shape.{Shape}
use Rattle.arrival.specs.declared.Worker.{Worker}
use Rattle.arrival.specs.declared.Response.{Response}
use Rattle.arrival.specs.declared.Response.TheVariants.{On, Refused}
use Rattle.laws.specs.Tests.{never, parts}
use Rattle.calendar.specs.rules.Ranges.{words_in_range, table_in_range}
use Rattle.calendar.specs.rules.Refusals.{bad_shape, short, no_worker}
use Rattle.calendar.specs.rules.Operations.{Memory, Result}
use Rattle.calendar.specs.rules.NarrowCalls.{goes_on}
use Rattle.calendar.proofs.facts.RangeFacts.{word_ranges}
use Rattle.calendar.specs.facts.Accepted.{Lent}
use Rattle.calendar.proofs.facts.Accepted.{lent as lent_of}
use Rattle.admission.specs.Watched.{Watched}
use Rattle.admission.specs.Gate.{gate_of, open_gate, Tight}
use Rattle.admission.proofs.GateLaws.{gate_passed, gate_opens, open_passed, shape_tests, lent_passes}
use Rattle.admission.specs.Gate.{sound_of}
use Rattle.admission.proofs.GateLaws.{sound_opens, sound_watched}
use Rattle.admission.specs.NarrowGate.{near_of}
use Rattle.admission.proofs.NarrowGate.{near_opens}
use Rattle.wubraken.specs.Results.{lent}
use Rattle.wubraken.proofs.Survey.{survey_ok_is}
use Rattle.dealer.specs.Looks.{flag_of}
use Rattle.dealer.specs.Dealing.{
  all_idle,
  served_in_range,
  deal_out,
  deal_refusal,
  Deal,
  serving,
  turned_away,
  dealt,
  undealt,
  behind,
  dealt_on,
  dealt_run,
  turn_of,
}
use Rattle.dealer.specs.Dealable.{Kept, Dealable}
use Rattle.dealer.specs.DealLoop.{ok_of, running}

pub flag_tight : (whole : Bool) (sh : Shape) (s : List ℕ) (n : ℕ) (ok : Bool) → Tight sh (length s) n (flag_of whole sh s n ok)
unfolding flag_of
flag_tight true sh s n ok up = sound_opens sh s n ok up
flag_tight false sh s n ok up = near_opens sh s n true up

-- the records of all workers are in range, where there are as many
rows_are : (sh : Shape) (s : List ℕ) (t : List Worker) → Lent sh s t → ok_of true sh t ≡ table_in_range sh t
rows_are sh s t L = survey_ok_is sh (turn_of true 0) t (shape_tests sh L.limits) (le-ltb (length t) sh.workers L.table) refl

-- ── before the first turn ──
module _ (sh : Shape) (s : List ℕ) (t : List Worker) (last : ℕ) where
  abbrev m : Memory
  m = lent s t

  lent_by : open_gate sh (length s) (length t) ≡ 0 → Lent sh s t
  lent_by e = let p = open_passed sh (length s) (length t) e in
      record { limits = p.0; store = p.1; table = p.2 }

  watched : Watched sh m (sound_of sh s (length t) (ok_of true sh t))
  watched = sound_watched sh m (ok_of true sh t) (rows_are sh s t)

  near_words : Lent sh s t → near_of sh s (length t) true ≡ (words_in_range sh s && true)
  unfolding near_of
  near_words L =
      rw (eq-eqb (open_gate sh (length s) (length t)) 0 (lent_passes sh m L))

  kept_by : (whole : Bool) → Lent sh s t → flag_of whole sh s (length t) (ok_of whole sh t) ≡ true → Kept whole sh m
  unfolding flag_of
  kept_by true L up = sym (watched L) ∙ up
  kept_by false L up = word_ranges sh s (parts (words_in_range sh s) true (sym (near_words L) ∙ up)).0

  pub passed_by_lem : (whole : Bool) → gate_of sh (length s) (length t) last (flag_of whole sh s (length t) (ok_of whole sh t)) ≡ 0 → Dealable whole sh
      (lent s t) last
  passed_by_lem whole e =
      let (up, inside) = gate_passed sh (length s) (length t) last (flag_of whole sh s (length t) (ok_of whole sh t)) e in
      let L = lent_by (gate_opens sh (length s) (length t) last (flag_of whole sh s (length t) (ok_of whole sh t)) e) in
      record { lent = L; inside = inside; kept = kept_by whole L up }

  -- what the gate says is what 1 to 4 say, but for the record of the worker to be served
  out_is : (whole : Bool) → Lent sh s t
      → deal_out whole sh m last ≡ (not (flag_of whole sh s (length t) (ok_of whole sh t)) || (not whole && not (served_in_range sh t last)))
  unfolding flag_of
  out_is true L = ap not (sym (watched L)) ∙ sym (or-false (not (sound_of sh s (length t) (ok_of true sh t))))
  out_is false L = rw (near_words L) (by (words_in_range sh s) (served_in_range sh t last))
    where
      by : (a b : Bool) → not (a && b) ≡ (not (a && true) || not b)
      by true b = refl
      by false b = refl

  out_down : (whole : Bool) → Lent sh s t → flag_of whole sh s (length t) (ok_of whole sh t) ≡ false → deal_out whole sh m last ≡ true
  out_down whole L down = out_is whole L ∙ rw down

  out_up : (whole : Bool) → Lent sh s t → flag_of whole sh s (length t) (ok_of whole sh t) ≡ true → no_worker sh last ≡ true → deal_out whole sh m last ≡ false
  out_up whole L up nobody = out_is whole L ∙ rw (up, nobody) (and-false (not whole))

  refusal_at_first : (whole : Bool) → gate_of sh (length s) (length t) last (flag_of whole sh s (length t) (ok_of whole sh t)) ≢ 0
      → deal_refusal whole sh (lent s t) last ≡ gate_of sh (length s) (length t) last (flag_of whole sh s (length t) (ok_of whole sh t))
  unfolding deal_refusal gate_of
  refusal_at_first whole some =
      by (bad_shape sh) (short sh (length s) (length t)) (flag_of whole sh s (length t) (ok_of whole sh t)) (no_worker sh last) (all_idle sh t last)
      (deal_out whole sh m last)
      (λ one two down. out_down whole (lent_as one two) down) (λ one two up nobody. out_up whole (lent_as one two) up nobody) some
    where
      lent_as : bad_shape sh ≡ false → short sh (length s) (length t) ≡ false → Lent sh s t
      lent_as one two = lent_of sh s t one two

      by : (a b f n i o : Bool) → (a ≡ false → b ≡ false → f ≡ false → o ≡ true) → (a ≡ false → b ≡ false → f ≡ true → n ≡ true → o ≡ false)
          → ◌≢◌ {A = ℕ} (cond a 1 (cond b 2 (cond (not f) 3 (cond n 4 0)))) 0
          → ◌≡◌ {A = ℕ} (cond a 1 (cond b 2 (cond o 3 (cond n 4 (cond i 16 0))))) (cond a 1 (cond b 2 (cond (not f) 3 (cond n 4 0))))
      by a b f n i o down up some = grind (arith, nat_tests)

  pub away_at_first : (whole : Bool) (k : ℕ) → k ≡ gate_of sh (length s) (length t) last (flag_of whole sh s (length t) (ok_of whole sh t)) → k ≢ 0
      → dealt whole sh (lent s t) last ≡ turned_away k (lent s t) last
  unfolding dealt
  away_at_first whole k is some =
      let e = refusal_at_first whole (λ z. some (is ∙ z)) ∙ sym is in
      rw (e, ne_eqb k 0 some)

pub over : (whole : Bool) (sh : Shape) (n : ℕ) (r : Deal) → goes_on r.response ≡ false → dealt_on whole sh n r ≡ r
unfolding dealt_on
over whole sh zero r e = refl
over whole sh (suc n) r e = rw e

none : (whole : Bool) (sh : Shape) (n : ℕ) → n ≡ 0 → (r : Deal) → dealt_on whole sh n r ≡ r
unfolding dealt_on
none whole sh n e r = rw e

-- where a turn is left, which response it is that goes on does not matter
alike : (whole : Bool) (sh : Shape) (m : Memory) (last made n : ℕ) (r : Response) → goes_on r ≡ true → n ≢ 0
    → dealt_on whole sh n (record { memory = m; dealer = last; turns = made; response = r }) ≡ dealt_on whole sh n (running m last made)
unfolding dealt_on
alike whole sh m last made zero r g some = absurd (some refl)
alike whole sh m last made (suc n) r g some = rw g

module _ (whole : Bool) (sh : Shape) (m : Memory) (last made : ℕ) where
  one_more : (n : ℕ) (r : Response) → goes_on r ≡ true → n ≢ 0
      → dealt_on whole sh n (record { memory = m; dealer = last; turns = made; response = r })
      ≡ dealt_on whole sh (n - 1) (behind made (dealt whole sh m last))
  unfolding dealt_on
  one_more zero r g some = absurd (some refl)
  one_more (suc n) r g some = let e : suc n - 1 ≡ n = omega arith in rw (g, e)

  pub away : (n k : ℕ) → n ≢ 0 → dealt whole sh m last ≡ turned_away k m last
      → record { memory = m; dealer = last; turns = made; response = Refused k } ≡ dealt_on whole sh n (running m last made)
  away n k some e =
      sym (one_more n On refl some ∙ ap (λ (d : Deal). dealt_on whole sh (n - 1) (behind made d)) e
      ∙ ap (λ (t : ℕ). dealt_on whole sh (n - 1) (record { memory = m; dealer = last; turns = t; response = Refused k })) (add-zero made)
      ∙ over whole sh (n - 1) (record { memory = m; dealer = last; turns = made; response = Refused k }) refl)

  module _ (i : ℕ) (r : Result) (is : dealt whole sh m last ≡ serving i r) where
    -- it is the last: no turn is left, or the call does not go on
    pub ended : (n : ℕ) → n ≢ 0 → (g : Bool) → g ≡ goes_on r.response → (eqb n 1 || not g) ≡ true
        → record { memory = r.memory; dealer = i; turns = made + 1; response = r.response } ≡ dealt_on whole sh n (running m last made)
    ended n some g says e =
        sym (one_more n On refl some ∙ ap (λ (d : Deal). dealt_on whole sh (n - 1) (behind made d)) is ∙ go (eqb n 1) refl g says e)
      where
        go : (b : Bool) → eqb n 1 ≡ b → (g : Bool) → g ≡ goes_on r.response → (b || not g) ≡ true
            → dealt_on whole sh (n - 1) (behind made (serving i r)) ≡ behind made (serving i r)
        go true f g says e = none whole sh (n - 1) (omega (arith, eqb-true n 1 f)) (behind made (serving i r))
        go false f true says e = never e
        go false f false says e = over whole sh (n - 1) (behind made (serving i r)) (sym says)

    -- it goes on
    pub on : (n : ℕ) → n ≢ 0 → n ≢ 1 → goes_on r.response ≡ true
        → dealt_on whole sh n (running m last made) ≡ dealt_on whole sh (n - 1) (running r.memory i (made + 1))
    on n some more g =
        one_more n On refl some ∙ ap (λ (d : Deal). dealt_on whole sh (n - 1) (behind made d)) is
        ∙ alike whole sh r.memory i (made + 1) (n - 1) r.response g (λ e. omega (arith, some, more))

-- ── a run ──
pub none_dealt : (whole : Bool) (sh : Shape) (turns : ℕ) (m : Memory) (last : ℕ) → turns ≡ 0 → undealt m last ≡ dealt_run whole sh turns m last
none_dealt whole sh turns m last e = sym (none whole sh turns e (undealt m last))
