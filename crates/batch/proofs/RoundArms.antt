-- One round of the loop, arm by arm: from what the code has at its end to what is still to be worked.
--     in_use, below_64, let_in              what a gate that refuses nothing tells
--     lent_to_lem                               what an opening that is not refused tells
--     turned_away_lem, performed                a start or turn is a round
--     not_opened, opened                    an opening is a round
--     kept, at_drained, at_halted, at_full  what holds at every end; the three ends
--     round_of_lem, settled                 a round, from what the pool is known for; of the lengths as they are then
--     known                                 what was read
--     nearer                                the next record is nearer to the end
--     first_round                           before the loop
-- Assumes nothing.
use Rattle.std.specs.Prelude.{◌≡◌, refl, List, ◌++◌, Bool, false, cond, not, ◌≢◌, ℕ, ◌+◌, ◌-◌, ◌≤◌, ◌<◌, eqb, leb, length, take, set, drop, replicate}
use Rattle.std.specs.Prelude.{None, Ok, Err}
use Rattle.std.proofs.Math.Path.{sym, ap, subst⁻¹}
use Rattle.std.proofs.Common.{◌∙◌, subst, arith, length-set, length-take-le, get_or-take}
use Rattle.std.proofs.Math.Bool.{true}
use Rattle.std.proofs.Math.Seq.{take-set-lt}
use borrow.Author.Tests.{eq-eqb, ne_eqb}
use Rattle.arrival.specs.declared.Shape.{Shape}
use Rattle.arrival.specs.declared.Worker.{Worker}
use Rattle.arrival.specs.declared.Action.{Action}
use Rattle.arrival.specs.declared.Action.TheVariants.{Enqueue, Dequeue, Step}
use Rattle.arrival.specs.declared.Response.{Response}
use Rattle.arrival.specs.declared.Response.TheVariants.{Opened, Refused}
use Rattle.calendar.specs.rules.Ranges.{blank, worker}
use Rattle.calendar.specs.rules.Refusals.{open_refusal}
use Rattle.calendar.specs.rules.Opening.{open_store, open_table}
use Rattle.calendar.specs.facts.Accepted.{Lent, Usable}
use Rattle.calendar.proofs.facts.Accepted.{open_accepted}
use Rattle.calendar.specs.rules.Operations.{Memory, Result, actor, act, open_pool}
use Rattle.calendar.proofs.facts.Untouched.{act_same_size, open_same_size}
use Rattle.words.specs.Done.{Done}
use Rattle.operation.specs.LocalAct.{Admitted, local_act, LowFor, back}
use Rattle.operation.proofs.LocalAct.{admitted, act_is}
use Rattle.turn_file.specs.declared.Record.{Record}
use Rattle.turn_file.specs.declared.Record.TheVariants.{Open, Act}
use Rattle.turn_file.specs.declared.Unreadable.{Unreadable}
use Rattle.turn_file.specs.Reading.{Reading, record_at, whole}
use Rattle.turn_file.proofs.OneReading.{read_on}
use Rattle.batch.specs.declared.Stop.{Stop}
use Rattle.batch.specs.declared.Stop.TheVariants.{Drained, Full, Halted}
use Rattle.turn_file.specs.Lines.{line_of}
use Rattle.turn_file.specs.Buffer.{written, after}
use Rattle.turn_file.proofs.Buffer.{written_length}
use Rattle.batch.specs.Batch.{Progress, has_room, wrote, worked_all}
use Rattle.batch.specs.Held.{greater, held_all}
use Rattle.batch.proofs.LentPart.{least_taken, over_length}
use Rattle.laws.specs.Storing.{over_taken}
use Rattle.admission.specs.Watched.{Watched}
use Rattle.admission.proofs.Watched.{opened_sound}
use Rattle.admission.specs.Gate.{gate_of, open_gate, Tight}
use Rattle.admission.proofs.GateLaws.{gate_opens, open_gate_is, usable, refused_is}
use Rattle.operation.specs.Leaks.{action_leaks}
use Rattle.operation.proofs.LeakLaws.{act_watched}
use Rattle.batch.specs.BatchLoop.{Going, at_work}
use Rattle.batch.proofs.BatchLoop.{going, go_on, drained, halted, full}
use Rattle.batch.specs.RoundArms.{Round, Line}

module _ {bytes : List ℕ} {p₀ : Progress} {h₀ words records space : ℕ} {sh : Shape} {s : List ℕ} {t : List Worker} {at : ℕ} {lines : List ℕ} {to : ℕ}
    {sound : Bool} {h : ℕ}
    (R : Round bytes p₀ h₀ words records space sh s t at lines to sound h) where
  abbrev m : Memory
  m = record { store = s; table = take records t }

  W : Watched sh (record { store = s; table = take records t }) sound
  W = R.going.watched

  pub counted : records ≡ length (take records t)
  counted = sym (length-take-le records t (omega (arith, R.array, R.lent)))

  pub gate_here : (i : ℕ) → gate_of sh words records i sound ≡ gate_of sh (length s) (length (take records t)) i sound
  gate_here i = ap (λ n. gate_of sh n records i sound) R.store ∙ ap (λ n. gate_of sh (length s) n i sound) counted

  pub open_gate_here : (sh' : Shape) → open_gate sh' words records ≡ open_refusal sh' s (take records t)
  open_gate_here sh' = ap (λ n. open_gate sh' n records) R.store ∙ ap (open_gate sh' (length s)) counted ∙ open_gate_is sh' m

  -- what a gate that refuses nothing tells
  module _ (i k : ℕ) (is : k ≡ gate_of sh words records i sound) (z : k ≡ 0) where
    pub passes : gate_of sh (length s) (length (take records t)) i sound ≡ 0
    passes = sym (gate_here i) ∙ sym is ∙ z

    pub in_use : Usable sh s (take records t) i
    in_use = usable sh m sound W i passes

    pub below_64 : i < 64
    below_64 = omega (arith, in_use.exists, in_use.lent.limits.workers)

    pub is_lent : i < records
    is_lent = omega (arith, in_use.exists, in_use.lent.table, counted)

    -- worker i's record, in the array
    pub own : worker (take records t) i ≡ worker t i
    own = get_or-take records t i blank is_lent

    pub let_in : Admitted sh s (worker t i)
    let_in = subst (λ (w : Worker). Admitted sh s w) own (admitted sh s (take records t) i in_use)

  -- an opening that is not refused
  module _ (sh' : Shape) (k : ℕ) (is : k ≡ open_gate sh' words records) (z : k ≡ 0) where
    pub no_refusal : open_refusal sh' s (take records t) ≡ 0
    no_refusal = sym (open_gate_here sh') ∙ sym is ∙ z

    pub lent_to_lem : Lent sh' s (take records t)
    lent_to_lem = open_accepted sh' s (take records t) no_refusal

    array_cleared : (t' : List Worker) → t' ≡ replicate sh'.workers blank ++ drop sh'.workers t → length t' ≡ 64
    array_cleared t' table = ap length table ∙ over_length blank t sh'.workers (omega (arith, lent_to_lem.limits.workers, R.array)) ∙ R.array

  -- the least ticket of the array's workers is that of the lent ones
  pub lent_low : (a : Action) (low : ℕ) → LowFor sh t a low → sh.workers ≤ records → LowFor sh (take records t) a low
  lent_low (Enqueue i x) low e k = e ∙ sym (least_taken records t sh.workers k)
  lent_low (Dequeue i) low e k = tt
  lent_low (Step i) low e k = tt

  -- ── the rounds ──
  module _ (fits : leb (to + 89) space ≡ true) (next : ℕ) (l : Response) (lines' : List ℕ) (to' : ℕ) (line : Line lines to l lines' to') where
    room : has_room lines to ≡ true
    room = ap (leb (to + 89)) (sym R.buffer) ∙ fits

    length_kept : space ≡ length lines'
    length_kept = R.buffer ∙ sym (ap length line.1 ∙ written_length lines to (line_of l))

    -- an action a with what it leaves
    acted : (a : Action) → whole (Act a) next ≡ record_at bytes at → (s' : List ℕ) (t' : List Worker) → length t' ≡ 64
        → record { memory = record { store = s'; table = take records t' }; response = l } ≡ act sh (record { store = s; table = take records t }) a
        → (sound' : Bool) → Watched sh (act sh (record { store = s; table = take records t }) a).memory sound' → Tight sh words records sound'
        → Round bytes p₀ h₀ words records space sh s' t' next lines' to' sound' h
    acted a e s' t' array is sound' w tight = record {
      going =
          go_on bytes p₀ h₀ (at_work sh s (take records t) at lines to) h sound R.going room (Act a) next e
          (at_work sh s' (take records t') next lines' to') there h refl sound'
          (subst⁻¹ (λ (r : Result). Watched sh r.memory sound') is w);
      store = R.store ∙ sym (ap (λ (r : Result). length r.memory.store) is ∙ (act_same_size sh m a).store);
      array = array;
      lent = R.lent;
      buffer = length_kept;
      tight = tight;
    }
      where
        there : at_work sh s' (take records t') next lines' to'
            ≡ wrote (at_work sh s (take records t) at lines to) (Act a) next
        there = λ j. record {
          pool = record { shape = sh; memory = (is j).memory };
          at = next;
          lines = (line.1 ∙ ap (λ (r : Result). written lines to (line_of r.response)) is) j;
          to = (line.0 ∙ ap (λ (r : Result). after lines to (line_of r.response)) is) j;
        }

    -- refused by 1 to 4
    pub turned_away_lem : (a : Action) → whole (Act a) next ≡ record_at bytes at → (k : ℕ) → k ≡ gate_of sh words records (actor a) sound → k ≢ 0
        → l ≡ Refused k
        → Round bytes p₀ h₀ words records space sh s t next lines' to' sound h
    turned_away_lem a e k is n said =
        let g = is ∙ gate_here (actor a) in
        let r = refused_is sh m sound W a (λ z. n (g ∙ z)) in
        acted a e s t R.array (ap (λ (x : Response). record { memory = m; response = x }) (said ∙ ap Refused g) ∙ r) sound
        (subst (λ (x : Result). Watched sh x.memory sound) r W) R.tight

    -- let in, and done to worker i's record, which goes back into the array
    module _ (a : Action) (e : whole (Act a) next ≡ record_at bytes at) (k : ℕ) (is : k ≡ gate_of sh words records (actor a) sound) (z : k ≡ 0) (s' : List ℕ)
        (w' : Worker) where
      stored : (d : Done) → record { store = s'; worker = w'; response = l } ≡ d
          → record { memory = record { store = s'; table = take records (set t (actor a) w') }; response = l } ≡ back (take records t) (actor a) d
      stored d done =
          ap (λ (u : List Worker). record { memory = record { store = s'; table = u }; response = l })
          (take-set-lt records t (actor a) w' (is_lent (actor a) k is z))
          ∙ ap (back (take records t) (actor a)) done

      pub performed : (low : ℕ) → LowFor sh t a low → (leak : Bool) → leak ≡ action_leaks sh s a (worker t (actor a))
          → record { store = s'; worker = w'; response = l } ≡ local_act sh low s a (worker t (actor a))
          → Round bytes p₀ h₀ words records space sh s' (set t (actor a) w') next lines' to' (not leak) h
      performed low least leak is-leak d =
          let i = actor a in
          let g = passes i k is z in
          let o = sym (own i k is z) in
          acted a e s' (set t i w') (length-set t i w' ∙ R.array)
          (stored _ (d ∙ ap (local_act sh low s a) o)
          ∙ act_is sh m sound W a low (lent_low a low least (omega (arith, (in_use i k is z).lent.table, counted))) g) (not leak)
          (subst⁻¹ (λ b. Watched sh (act sh m a).memory (not b)) (is-leak ∙ ap (action_leaks sh s a) o) (act_watched sh m sound W a g))
          (λ _. gate_opens sh words records i sound (sym is ∙ z))

    -- an opening with what it leaves
    opened_with : (sh' : Shape) → whole (Open sh') next ≡ record_at bytes at → (sh'' : Shape) (s' : List ℕ) (t' : List Worker) → length t' ≡ 64
        → sh'' ≡ cond (eqb (open_refusal sh' s (take records t)) 0) sh' sh
        → (h' : ℕ) → h' ≡ cond (eqb (open_refusal sh' s (take records t)) 0) (greater h sh'.workers) h
        → record { memory = record { store = s'; table = take records t' }; response = l } ≡ open_pool sh' (record { store = s; table = take records t })
        → (sound' : Bool) → Watched sh'' (record { store = s'; table = take records t' }) sound' → Tight sh'' words records sound'
        → Round bytes p₀ h₀ words records space sh'' s' t' next lines' to' sound' h'
    opened_with sh' e sh'' s' t' array shape h' holds is sound' w tight = record {
      going = go_on bytes p₀ h₀ (at_work sh s (take records t) at lines to) h sound R.going room (Open sh') next e
          (at_work sh'' s' (take records t') next lines' to') there h' holds sound' w;
      store = R.store ∙ sym (ap (λ (r : Result). length r.memory.store) is ∙ (open_same_size sh' m).store);
      array = array;
      lent = R.lent;
      buffer = length_kept;
      tight = tight;
    }
      where
        there : at_work sh'' s' (take records t') next lines' to' ≡ wrote (at_work sh s (take records t) at lines to) (Open sh') next
        there = λ j. record {
          pool = record { shape = shape j; memory = (is j).memory };
          at = next;
          lines = (line.1 ∙ ap (λ (r : Result). written lines to (line_of r.response)) is) j;
          to = (line.0 ∙ ap (λ (r : Result). after lines to (line_of r.response)) is) j;
        }

    pub not_opened : (sh' : Shape) → whole (Open sh') next ≡ record_at bytes at → (k : ℕ) → k ≡ open_gate sh' words records → k ≢ 0 → l ≡ Refused k
        → Round bytes p₀ h₀ words records space sh s t next lines' to' sound h
    unfolding open_pool
    not_opened sh' e k is n said =
        let g = is ∙ open_gate_here sh' in
        let none = ne_eqb (open_refusal sh' s (take records t)) 0 (λ z. n (g ∙ z)) in
        opened_with sh' e sh s t R.array (rw none) h (rw none) (rw (none, said, g)) sound W R.tight

    pub opened : (sh' : Shape) → whole (Open sh') next ≡ record_at bytes at → (k : ℕ) → k ≡ open_gate sh' words records → k ≡ 0 → l ≡ Opened → (s' : List ℕ)
        → s' ≡ open_store sh' s
        → (t' : List Worker) → t' ≡ replicate sh'.workers blank ++ drop sh'.workers t → (h' : ℕ) → h' ≡ greater h sh'.workers
        → Round bytes p₀ h₀ words records space sh' s' t' next lines' to' true h'
    unfolding open_pool open_table
    opened sh' e k is z said s' store t' table h' holds =
        let all = eq-eqb (open_refusal sh' s (take records t)) 0 (no_refusal sh' k is z) in
        let L = lent_to_lem sh' k is z in
        let first = ap (take records) table ∙ over_taken blank records t sh'.workers (omega (arith, L.table, counted)) (omega (arith, R.lent, R.array)) in
        opened_with sh' e sh' s' t' (array_cleared sh' k is z t' table) (rw all) h' (rw all holds) (rw (all, said, store, first)) true
        (λ _. rw (store, first) (sym (opened_sound sh' m L.limits))) (λ _. sym is ∙ z)

  -- ── the ends ──
  pub kept : (length t ≡ 64) × (records ≤ 64) × Watched sh (record { store = s; table = take records t }) sound × Tight sh (length s) records sound
  kept = (R.array, R.lent, W, λ up. sym (ap (λ n. open_gate sh n records) R.store) ∙ R.tight up)

  pub at_drained : leb (to + 89) space ≡ true → Ok None ≡ record_at bytes at
      → (record { progress = at_work sh s (take records t) at lines to; stop = Drained } ≡ worked_all bytes p₀) × (h ≡ held_all bytes h₀ p₀)
  at_drained fits e = drained bytes p₀ h₀ (at_work sh s (take records t) at lines to) h sound R.going (ap (leb (to + 89)) (sym R.buffer) ∙ fits) e

  pub at_halted : leb (to + 89) space ≡ true → (why : Unreadable) → Err why ≡ record_at bytes at
      → (record { progress = at_work sh s (take records t) at lines to; stop = Halted why } ≡ worked_all bytes p₀) × (h ≡ held_all bytes h₀ p₀)
  at_halted fits why e = halted bytes p₀ h₀ (at_work sh s (take records t) at lines to) h sound R.going (ap (leb (to + 89)) (sym R.buffer) ∙ fits) why e

  pub at_full : leb (to + 89) space ≡ false → (stop : Stop) → stop ≡ Full
      → (record { progress = at_work sh s (take records t) at lines to; stop = stop } ≡ worked_all bytes p₀) × (h ≡ held_all bytes h₀ p₀)
  at_full over stop still =
      let end = full bytes p₀ h₀ (at_work sh s (take records t) at lines to) h sound R.going (ap (leb (to + 89)) (sym R.buffer) ∙ over) in
      (ap (λ (z : Stop). record { progress = at_work sh s (take records t) at lines to; stop = z }) still ∙ end.0, end.1)

-- a record of what the loop keeps, from what the pool is known for
pub round_of_lem : {bytes : List ℕ} {p₀ : Progress} {h₀ : ℕ} (sh : Shape) (s : List ℕ) (records : ℕ) (t : List Worker) (at : ℕ) (lines : List ℕ) (to : ℕ)
    (sound : Bool) (h : ℕ)
    → Going bytes p₀ h₀ (at_work sh s (take records t) at lines to) h sound → length t ≡ 64 → records ≤ 64 → Tight sh (length s) records sound
    → Round bytes p₀ h₀ (length s) records (length lines) sh s t at lines to sound h
round_of_lem sh s records t at lines to sound h going array lent tight =
    record { going = going; store = refl; array = array; lent = lent; buffer = refl; tight = tight }

-- the same, of the lengths as they are now
pub settled : {bytes : List ℕ} {p₀ : Progress} {h₀ words records space : ℕ} {sh : Shape} {s : List ℕ} {t : List Worker} {at : ℕ} {lines : List ℕ} {to : ℕ}
    {sound : Bool} {h : ℕ} → Round bytes p₀ h₀ words records space sh s t at lines to sound h
    → Round bytes p₀ h₀ (length s) records (length lines) sh s t at lines to sound h
settled R = round_of_lem _ _ _ _ _ _ _ _ _ R.going R.array R.lent (kept R).3

-- ── what was read ──
module _ (bytes : List ℕ) (at : ℕ) (r : Reading) (read : r ≡ record_at bytes at) where
  pub known : (x : Record) (next : ℕ) → r ≡ whole x next → whole x next ≡ record_at bytes at
  known x next e = sym e ∙ read

  pub nearer : (x : Record) (next : ℕ) → r ≡ whole x next → length bytes - next < length bytes - at
  nearer x next e = let (on, end) = read_on bytes at x next (sym read ∙ e) in omega arith

-- ── before the loop ──
pub first_round : (bytes : List ℕ) (sh : Shape) (s : List ℕ) (records : ℕ) (t : List Worker) (at : ℕ) (lines : List ℕ) (to : ℕ) (sound : Bool) (h : ℕ)
    → Watched sh (record { store = s; table = take records t }) sound → length t ≡ 64 → records ≤ 64 → (words space : ℕ) → words ≡ length s
    → space ≡ length lines → Tight sh words records sound
    → Round bytes (at_work sh s (take records t) at lines to) h words records space sh s t at lines to sound h
first_round bytes sh s records t at lines to sound h watched array lent words space store long tight =
    record {
      going = going bytes (at_work sh s (take records t) at lines to) h sound watched;
      store = store;
      array = array;
      lent = lent;
      buffer = long;
      tight = tight;
    }
