-- The loop over a batch, round by round: what is still to be worked is what was to be worked at first.
--     worked_enough, held_enough     of more rounds than there are bytes left, it does not matter how many
--     going, go_on                   what a round keeps; at first; past one record
--     drained, halted, full          what is left at the three ends
--     room_from                      the test for room, as the code has it
-- Assumes nothing.
use Rattle.std.specs.Prelude.{◌≡◌, List, Bool, true, false, leb, Some, None, Ok, Err}
use Rattle.std.proofs.Math.Path.{refl, ap}
use Rattle.std.proofs.Common.{sym, ◌∙◌, arith, leb-true, leb-false, le-leb}
use Rattle.std.proofs.Math.Bool.{cond}
use Prim.Native.Nat.{ℕ, zero, suc, ◌+◌, ◌-◌, ◌≤◌, ◌<◌}
use Rattle.std.proofs.Math.ListN.{length}
use Rattle.std.proofs.lemmas.Bool.{lt-leb}
use Rattle.turn_file.specs.declared.Record.{Record}
use Rattle.turn_file.specs.declared.Unreadable.{Unreadable}
use Rattle.turn_file.specs.Reading.{Reading, record_at, whole}
use Rattle.turn_file.proofs.OneReading.{read_on}
use Rattle.batch.specs.declared.Stop.TheVariants.{Drained, Full, Halted}
use Rattle.batch.specs.Held.{held_after, held, held_all}
use Rattle.batch.specs.Held.{onward as held_Onward}
use Rattle.batch.specs.Batch.{Progress, Stopped, has_room, wrote, onward, worked, worked_all}
use Rattle.admission.specs.Watched.{Watched}
use Rattle.batch.specs.BatchLoop.{Going}

-- ── rounds ──
-- there are more rounds than bytes left: it does not matter how many
module _ (bytes : List ℕ) where
  pub worked_enough : (n m : ℕ) (p : Progress) → length bytes - p.at < n → length bytes - p.at < m → worked n bytes p ≡ worked m bytes p
  unfolding worked
  worked_enough zero m p h k = absurd (omega arith)
  worked_enough (suc n) zero p h k = absurd (omega arith)
  worked_enough (suc n) (suc m) p h k = go (λ q l r. worked_enough n m q l r) (record_at bytes p.at) refl
    where
      go : ((q : Progress) → length bytes - q.at < n → length bytes - q.at < m → worked n bytes q ≡ worked m bytes q) → (r : Reading)
          → record_at bytes p.at ≡ r
          → cond (has_room p.lines p.to) (onward (worked n bytes) p r) (record { progress = p; stop = Full })
          ≡ cond (has_room p.lines p.to) (onward (worked m bytes) p r) (record { progress = p; stop = Full })
      go rest (Ok (Some (r, next))) e =
          let (on, end) = read_on bytes p.at r next e in
          ap (λ (q : Stopped). cond (has_room p.lines p.to) q (record { progress = p; stop = Full }))
          (rest (wrote p r next) (omega arith) (omega arith))
      go rest (Ok None) e = refl
      go rest (Err why) e = refl

  pub held_enough : (n m h : ℕ) (p : Progress) → length bytes - p.at < n → length bytes - p.at < m → held n bytes h p ≡ held m bytes h p
  unfolding held
  held_enough zero m h p l k = absurd (omega arith)
  held_enough (suc n) zero h p l k = absurd (omega arith)
  held_enough (suc n) (suc m) h p l k = go (λ i q a b. held_enough n m i q a b) (record_at bytes p.at) refl
    where
      go : ((i : ℕ) (q : Progress) → length bytes - q.at < n → length bytes - q.at < m → held n bytes i q ≡ held m bytes i q) → (r : Reading)
          → record_at bytes p.at ≡ r
          → cond (has_room p.lines p.to) (held_Onward (held n bytes) h p r) h ≡ cond (has_room p.lines p.to) (held_Onward (held m bytes) h p r) h
      go rest (Ok (Some (r, next))) e =
          let (on, end) = read_on bytes p.at r next e in
          ap (λ (i : ℕ). cond (has_room p.lines p.to) i h) (rest (held_after r p.pool h) (wrote p r next) (omega arith) (omega arith))
      go rest (Ok None) e = refl
      go rest (Err why) e = refl

pub going : (bytes : List ℕ) (p : Progress) (h : ℕ) (sound : Bool) → Watched p.pool.shape p.pool.memory sound → Going bytes p h p h sound
going bytes p h sound w = record { same = refl; holds = refl; watched = w }

module _ (bytes : List ℕ) (p₀ : Progress) (h₀ : ℕ) (p : Progress) (h : ℕ) (sound : Bool) (G : Going bytes p₀ h₀ p h sound) where
  worked_on : (n : ℕ) → has_room p.lines p.to ≡ true → (r : Record) (next : ℕ) → whole r next ≡ record_at bytes p.at
      → worked (suc n) bytes p ≡ worked n bytes (wrote p r next)
  unfolding worked
  worked_on n room r next e = rw (room, ← e)

  held_on_lem : (n : ℕ) → has_room p.lines p.to ≡ true → (r : Record) (next : ℕ) → whole r next ≡ record_at bytes p.at
      → held (suc n) bytes h p ≡ held n bytes (held_after r p.pool h) (wrote p r next)
  unfolding held
  held_on_lem n room r next e = rw (room, ← e)

  -- one record more
  pub go_on : has_room p.lines p.to ≡ true → (r : Record) (next : ℕ) → whole r next ≡ record_at bytes p.at
      → (p' : Progress) → p' ≡ wrote p r next → (h' : ℕ) → h' ≡ held_after r p.pool h
      → (sound' : Bool) → Watched p'.pool.shape p'.pool.memory sound' → Going bytes p₀ h₀ p' h' sound'
  go_on room r next e p' is h' holds sound' w = record {
    same = ap (worked_all bytes) is ∙ worked_enough bytes (length bytes + 1) (length bytes) q (omega (arith, on.0, on.1)) (omega (arith, on.0, on.1))
        ∙ sym (worked_on (length bytes) room r next e) ∙ ap (λ (n : ℕ). worked n bytes p) one ∙ G.same;
    holds = ap (held_all bytes h') is ∙ ap (λ (i : ℕ). held_all bytes i q) holds
        ∙ held_enough bytes (length bytes + 1) (length bytes) (held_after r p.pool h) q (omega (arith, on.0, on.1)) (omega (arith, on.0, on.1))
        ∙ sym (held_on_lem (length bytes) room r next e) ∙ ap (λ (n : ℕ). held n bytes h p) one ∙ G.holds;
    watched = w;
  }
    where
      q : Progress
      q = wrote p r next

      on : (p.at < next) × (next ≤ length bytes)
      on = read_on bytes p.at r next (sym e)

      one : suc (length bytes) ≡ length bytes + 1
      one = omega arith

  -- the ends
  from : (stopped : Stopped) → ((n : ℕ) → stopped ≡ worked (suc n) bytes p) → ((n : ℕ) → h ≡ held (suc n) bytes h p)
      → (stopped ≡ worked_all bytes p₀) × (h ≡ held_all bytes h₀ p₀)
  from stopped f g =
      let one : suc (length bytes) ≡ length bytes + 1 = omega arith in
      (f (length bytes) ∙ ap (λ (n : ℕ). worked n bytes p) one ∙ G.same, g (length bytes) ∙ ap (λ (n : ℕ). held n bytes h p) one ∙ G.holds)

  pub drained : has_room p.lines p.to ≡ true → Ok None ≡ record_at bytes p.at
      → (record { progress = p; stop = Drained } ≡ worked_all bytes p₀) × (h ≡ held_all bytes h₀ p₀)
  unfolding worked held
  drained room e = from _ (λ n. rw (room, ← e)) (λ n. rw (room, ← e))

  pub halted : has_room p.lines p.to ≡ true → (why : Unreadable) → Err why ≡ record_at bytes p.at
      → (record { progress = p; stop = Halted why } ≡ worked_all bytes p₀) × (h ≡ held_all bytes h₀ p₀)
  unfolding worked held
  halted room why e = from _ (λ n. rw (room, ← e)) (λ n. rw (room, ← e))

  pub full : has_room p.lines p.to ≡ false → (record { progress = p; stop = Full } ≡ worked_all bytes p₀) × (h ≡ held_all bytes h₀ p₀)
  unfolding worked held
  full none = from _ (λ n. rw none) (λ n. rw none)

-- room for the longest line, as the code tests it
pub room_from : (to space : ℕ) → 89 ≤ space → leb to (space - 89) ≡ leb (to + 89) space
room_from to space h = go (leb to (space - 89)) refl
  where
    go : (b : Bool) → leb to (space - 89) ≡ b → b ≡ leb (to + 89) space
    go true e = sym (le-leb (to + 89) space (omega (arith, leb-true to (space - 89) e)))
    go false e = sym (lt-leb (to + 89) space (omega (arith, leb-false to (space - 89) e)))
