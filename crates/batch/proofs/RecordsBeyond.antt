-- Records past the 64th, of which no shape has a worker.
--     all_beyond     they do not matter to a batch, and stay
-- Assumes nothing.
use Rattle.std.specs.Prelude.{◌≡◌, length, take}
use Rattle.std.proofs.Math.Path.{refl, ap}
use Rattle.std.proofs.Common.{sym, ◌∙◌, length-append}
use mathlib.Core.List.{List, [], ◌∷◌, ◌++◌, append_assoc}
use Prim.Native.Nat.{ℕ, zero, suc, ◌≤◌}
use native.Mathlib.Omega.{arith}
use Rattle.std.proofs.Math.ListN.{drop}
use Rattle.std.proofs.lemmas.List.{drop-append-le}
use Rattle.arrival.specs.declared.Worker.{Worker}
use Rattle.calendar.proofs.facts.RangeFacts.{limits}
use Rattle.batch.specs.Batch.{Progress, Stopped, worked_all}
use Rattle.batch.specs.RecordsCounted.{counted_of}
use Rattle.batch.proofs.RecordsCounted.{counted_bound, counts}
use Rattle.batch.specs.Held.{held_all}
use Rattle.batch.specs.RecordsNotHeld.{Alike, Covers, over, on_table, more}
use Rattle.batch.proofs.RecordsNotHeld.{all_within, all_alike}

take_append_le : (k : ℕ) (t u : List Worker) → k ≤ length t → take k (t ++ u) ≡ take k t
take_append_le zero t u h = refl
take_append_le (suc k) [] u h = absurd (omega arith)
take_append_le (suc k) (x ∷ t) u h = ap (λ (y : List Worker). x ∷ y) (take_append_le k t u (omega arith))

all_64 : (n : ℕ) → 64 ≤ n → counted_of n ≡ 64
all_64 n h = omega (arith, (counted_bound n).1, counts n 64 h (omega arith))

-- They do not matter, and stay.
pub all_beyond : (bytes : List ℕ) (u : List Worker) (p : Progress) → 64 ≤ length p.pool.memory.table
    → worked_all bytes (more p u) ≡ record { progress = more (worked_all bytes p).progress u; stop = (worked_all bytes p).stop }
all_beyond bytes u p long =
    all_alike bytes p 64 (t ++ u) longer covers
    ∙ ap (λ (v : List Worker). record { progress = on_table (worked_all bytes p).progress v; stop = (worked_all bytes p).stop }) tables
  where
    t : List Worker
    t = p.pool.memory.table

    h : ℕ
    h = held_all bytes 64 p

    t' : List Worker
    t' = (worked_all bytes p).progress.pool.memory.table

    covers : Covers p.pool.shape (length p.pool.memory.table) 64
    covers e w = (limits p.pool.shape e).workers

    within : 64 ≤ counted_of (length p.pool.memory.table)
    within = omega (arith, all_64 (length t) long)

    itself_alike : Alike 64 p.pool.memory.table p.pool.memory.table
    itself_alike = record { first = refl; counted = refl; within = within }

    longer : Alike 64 p.pool.memory.table (p.pool.memory.table ++ u)
    longer =
        record {
          first = take_append_le 64 t u long;
          counted = all_64 (length (t ++ u)) (omega (arith, length-append t u)) ∙ sym (all_64 (length t) long);
          within = within;
        }

    -- what is behind the held records stays
    stays : (worked_all bytes p).progress.pool.memory.table
        ≡ over (held_all bytes 64 p) (worked_all bytes p).progress.pool.memory.table p.pool.memory.table
    stays = ap (λ (q : Stopped). q.progress.pool.memory.table) (all_alike bytes p 64 t itself_alike covers)

    tables : over (held_all bytes 64 p) (worked_all bytes p).progress.pool.memory.table (p.pool.memory.table ++ u)
        ≡ (worked_all bytes p).progress.pool.memory.table ++ u
    tables =
        ap (λ (v : List Worker). take h t' ++ v) (drop-append-le h t u (omega (arith, all_within bytes p 64 within, (counted_bound (length t)).0)))
        ∙ sym (append_assoc (take h t') (drop h t) u)
        ∙ ap (λ (v : List Worker). v ++ u) (sym stays)
