-- A batch on lent memory, in numbers; that records it does not hold do not matter and are kept, so that it may be run on a copy of the others.
--     stop_number, Account, account, account_of     why a batch was left, by number; what is left after one, of the code's and of the definition's
--     batch_on, held_on                             the batch from the first byte on, and how many records it holds
--     keeping_from, batch_beyond                   records behind the held ones do not matter, and stay
--     held_within                                 no more are held than count
--     held_in_range, held_watched                   the flag of held records
--     copied, copied_bound, back_bound            how many records are copied, and how many are stored back
--     batch_is                                    what was run on the copy, and stored back, is the batch on the table
-- Assumes nothing.
use Rattle.std.specs.Prelude.{◌≡◌, refl, List, ◌++◌, Bool, true, false, cond, ℕ, ◌≤◌, ltb, length, take, drop, replicate}
use Rattle.std.proofs.Common.{sym, ◌∙◌, subst, arith, length-append, length-drop, length-take-le, get_or-take, take-take, take_at, ltb-true, ltb-false, le-ltb}
use Rattle.std.proofs.Math.Path.{ap, subst⁻¹}
use Rattle.std.proofs.lemmas.List.{length-replicate}
use Rattle.arrival.specs.declared.Shape.{Shape}
use Rattle.arrival.specs.declared.Worker.{Worker}
use Rattle.laws.specs.Counting.{every}
use Rattle.laws.proofs.Counting.{every_same}
use Rattle.calendar.specs.rules.Ranges.{shape_in_range, blank, record_in_range, table_in_range, worker}
use Rattle.calendar.proofs.facts.RangeFacts.{limits}
use Rattle.calendar.specs.rules.Operations.{Memory}
use Rattle.admission.specs.Watched.{Watched}
use Rattle.admission.specs.Gate.{sound_of}
use Rattle.admission.proofs.GateLaws.{sound_watched, shape_tests}
use Rattle.turn_file.specs.Reading.{number_of}
use Rattle.batch.specs.declared.Progress as declared
use Rattle.batch.specs.declared.Stop.{Stop}
use Rattle.batch.specs.declared.Stop.TheVariants.{Drained, Full, Halted}
use Rattle.batch.specs.Batch.{Stopped, worked_all}
use Rattle.batch.specs.Held.{held_all}
use Rattle.batch.specs.BatchLoop.{at_work}
use Rattle.batch.specs.RecordsCounted.{counted_of}
use Rattle.batch.proofs.RecordsCounted.{counted_bound, counted_again, counts}
use Rattle.batch.specs.RecordsNotHeld.{over}
use Rattle.batch.proofs.RecordsNotHeld.{all_within, all_alike}
use Rattle.wubraken_batch.specs.declared.batches.BatchEnd.{BatchEnd}
use Rattle.wubraken_batch.specs.declared.batches.HeldBatch.{HeldBatch}
use Rattle.wubraken.specs.Survey.{surveyed}
use Rattle.wubraken.proofs.Survey.{surveyed_bound}
use Rattle.wubraken.specs.Results.{lent}

abbrev pub stop_number : Stop → ℕ
stop_number Drained = 0
stop_number Full = 1
stop_number (Halted why) = number_of why

-- the account of what the code left
abbrev pub end_of : declared.Progress → BatchEnd
end_of p = record { shape = p.pool.shape; read = p.at; written = p.to; stop = stop_number p.stop }

-- the shape after a batch, the memory, the lent lines; the bytes read and written; why it was left
pub record Account : Type 0 where
  pub shape : Shape
  pub memory : Memory
  pub lines : List ℕ
  pub read : ℕ
  pub written : ℕ
  pub stop : ℕ

abbrev pub account : List ℕ → List Worker → List ℕ → BatchEnd → Account
account s t lines r = record { shape = r.shape; memory = lent s t; lines = lines; read = r.read; written = r.written; stop = r.stop }

abbrev pub account_of : Stopped → Account
account_of q = record {
  shape = q.progress.pool.shape;
  memory = q.progress.pool.memory;
  lines = q.progress.lines;
  read = q.progress.at;
  written = q.progress.to;
  stop = stop_number q.stop;
}

-- the records of the bytes one by one, from the first byte on
unfoldable pub batch_on : Shape → List ℕ → List Worker → List ℕ → List ℕ → Account
batch_on sh s t bytes lines = account_of (worked_all bytes (at_work sh s t 0 lines 0))

-- how many records it holds: those of the shape's workers, and those that an opening in it clears
unfoldable pub held_on : Shape → List ℕ → List Worker → List ℕ → List ℕ → ℕ
held_on sh s t bytes lines = held_all bytes (surveyed sh (length t)) (at_work sh s t 0 lines 0)

-- ── records behind the held ones ──
-- what a batch left, but the records from the k-th on as u has them
abbrev pub keeping_from : ℕ → Account → List Worker → Account
keeping_from k a u =
    record {
      shape = a.shape;
      memory = lent a.memory.store (over k a.memory.table u);
      lines = a.lines;
      read = a.read;
      written = a.written;
      stop = a.stop;
    }

module _ (sh : Shape) (n : ℕ) where
  -- a shape within its limits that n records are enough for has all its workers' records looked at
  all_surveyed : shape_in_range sh ≡ true → sh.workers ≤ n → surveyed sh n ≡ sh.workers
  all_surveyed inside long = rw (inside, le-ltb n sh.workers long)

  surveyed_counted : surveyed sh n ≤ counted_of n
  surveyed_counted = go (shape_in_range sh) refl
    where
      inner : (b : Bool) → ltb n sh.workers ≡ b → sh.workers ≤ 64 → cond b n sh.workers ≤ counted_of n
      inner true e small = counts n n (omega arith) (omega (arith, ltb-true n sh.workers e, small))
      inner false e small = counts n sh.workers (ltb-false n sh.workers e) small

      go : (a : Bool) → shape_in_range sh ≡ a → cond a (cond (ltb n sh.workers) n sh.workers) 0 ≤ counted_of n
      go true e = inner (ltb n sh.workers) refl (limits sh e).workers
      go false e = omega arith

module _ (sh : Shape) (s : List ℕ) (bytes lines : List ℕ) where
  -- on two tables with the same records of the shape's workers; with u the table itself: what is behind the held records stays
  pub batch_beyond : (t u : List Worker) → take (surveyed sh (length t)) u ≡ take (surveyed sh (length t)) t → counted_of (length u) ≡ counted_of (length t)
      → batch_on sh s u bytes lines ≡ keeping_from (held_on sh s t bytes lines) (batch_on sh s t bytes lines) u
  unfolding batch_on held_on
  batch_beyond t u first counted = ap account_of (all_alike bytes (at_work sh s t 0 lines 0) (surveyed sh (length t)) u
      (record { first = first; counted = counted; within = surveyed_counted sh (length t) })
      (λ inside long. omega (arith, all_surveyed sh (length t) inside long)))

  pub held_within : (t : List Worker) → held_on sh s t bytes lines ≤ counted_of (length t)
  unfolding held_on
  held_within t = all_within bytes (at_work sh s t 0 lines 0) (surveyed sh (length t)) (surveyed_counted sh (length t))

-- ── on a copy ──
unfoldable pub held_in_range : Shape → ℕ → List Worker → Bool
held_in_range sh n t = every n (λ i. record_in_range sh (worker t i))

-- the flag of held records
pub held_watched : (sh : Shape) (s : List ℕ) (n : ℕ) (t : List Worker) → n ≤ length t
    → Watched sh (record { store = s; table = take n t }) (sound_of sh s n (held_in_range sh (surveyed sh n) t))
unfolding held_in_range table_in_range
held_watched sh s n t h =
    subst (λ m. Watched sh (lent s (take n t)) (sound_of sh s m (held_in_range sh (surveyed sh n) t))) (length-take-le n t h)
    (sound_watched sh (lent s (take n t)) (held_in_range sh (surveyed sh n) t) (λ l.
    ap (λ m. every m (λ i. record_in_range sh (worker t i))) (all_surveyed sh n (shape_tests sh l.limits) (omega (arith, l.table, length-take-le n t h)))
    ∙ every_same (λ i. record_in_range sh (worker t i)) (λ i. record_in_range sh (worker (take n t) i)) sh.workers (λ k b.
    ap (record_in_range sh) (sym (get_or-take n t k blank (omega (arith, b, l.table, length-take-le n t h)))))))

-- what is copied of a table, and what the functions by value say of the copy
module _ (sh : Shape) (s : List ℕ) (t : List Worker) (bytes lines : List ℕ) where
  abbrev counted : ℕ
  counted = counted_of (length t)

  -- how many records are copied
  abbrev pub copied : ℕ
  copied = surveyed sh (counted_of (length t))

  pub copied_bound : (copied ≤ 64) × (copied ≤ length t)
  copied_bound = let b = counted_bound (length t) in let c = surveyed_bound sh counted in (omega (arith, b.1), omega (arith, b.0))

  module _ (held : List Worker)
      (out : held ≡ take (surveyed sh (counted_of (length t))) t ++ drop (surveyed sh (counted_of (length t))) (replicate 64 blank)) where
    copied_long : length (take copied t) ≡ copied
    copied_long = length-take-le copied t copied_bound.1

    array : length held ≡ 64
    array =
        ap length out ∙ length-append (take copied t) (drop copied (replicate 64 blank)) ∙ omega (
          arith,
          copied_long,
          length-drop copied (replicate 64 blank),
          length-replicate 64 blank,
          copied_bound.0,
        )

    few : length (take counted held) ≡ counted
    few = length-take-le counted held (omega (arith, array, (counted_bound (length t)).1))

    same_first : take (surveyed sh (length (take (counted_of (length t)) held))) t
        ≡ take (surveyed sh (length (take (counted_of (length t)) held))) (take (counted_of (length t)) held)
    same_first =
        subst⁻¹ (λ (m : ℕ). take (surveyed sh m) t ≡ take (surveyed sh m) (take counted held)) few
        (sym (take-take copied counted held (surveyed_bound sh counted)
        ∙ ap (take copied) out
        ∙ take_at (take copied t) (drop copied (replicate 64 blank)) copied copied_long))

    same_count : counted_of (length t) ≡ counted_of (length (take (counted_of (length t)) held))
    same_count = sym (ap counted_of few ∙ counted_again (length t))

    pub back_bound : (k : ℕ) → k ≡ held_on sh s (take (counted_of (length t)) held) bytes lines → (k ≤ 64) × (k ≤ length t)
    back_bound k e =
        let h = held_within sh s bytes lines (take counted held) in
        let b = counted_bound (length t) in
        (omega (arith, h, e, same_count, b.1), omega (arith, h, e, same_count, b.0))

    -- what was run on the copy, and stored back, is the batch on the table
    pub batch_is : (r : HeldBatch) (zs ls : List ℕ)
        → account zs (take (counted_of (length t)) r.table) ls r.ending ≡ batch_on sh s (take (counted_of (length t)) held) bytes lines
        → r.held ≡ held_on sh s (take (counted_of (length t)) held) bytes lines → (ws : List Worker) → ws ≡ take r.held r.table ++ drop r.held t
        → account zs ws ls r.ending ≡ batch_on sh s t bytes lines
    batch_is r zs ls e h ws back =
        ap (λ (u : List Worker). account zs u ls r.ending) (back ∙ ap (λ (u : List Worker). u ++ drop r.held t) (sym (take-take r.held counted
        r.table (omega (arith, held_within sh s bytes lines (take counted held), h, same_count)))))
        ∙ ap (λ (a : Account). keeping_from r.held a t) e
        ∙ ap (λ k. keeping_from k (batch_on sh s (take counted held) bytes lines) t) h
        ∙ sym (batch_beyond sh s bytes lines (take counted held) t same_first same_count)
