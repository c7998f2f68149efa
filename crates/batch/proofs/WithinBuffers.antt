-- A batch stays within its bytes and its buffer. Assumes nothing.
use Rattle.std.specs.Prelude.{◌≡◌, Bool, cond, List, length, Some, None, Ok, Err}
use Rattle.std.proofs.Math.Path.{refl}
use Rattle.std.proofs.Common.{◌∙◌}
use Rattle.std.proofs.Math.Bool.{true, false}
use Prim.Native.Nat.{ℕ, zero, suc, ◌+◌, ◌≤◌}
use Rattle.turn_file.specs.declared.Record.{Record}
use Rattle.turn_file.specs.Reading.{Reading, record_at}
use Rattle.turn_file.proofs.OneReading.{read_on}
use Rattle.turn_file.proofs.Buffer.{after_within, written_length}
use Rattle.batch.specs.declared.Stop.TheVariants.{Full}
use Rattle.batch.specs.Batch.{Progress, Stopped, line_for, has_room, wrote, onward, worked, worked_all}
use Rattle.batch.specs.WithinBuffers.{Within}

module _ (bytes : List ℕ) (size : ℕ) where
  wrote_within : (p : Progress) (r : Record) (next : ℕ) → Within bytes size p → next ≤ length bytes → Within bytes size (wrote p r next)
  wrote_within p r next w h = record {
    at = h;
    to = rw (written_length p.lines p.to (line_for r p.pool)) (after_within p.lines p.to (line_for r p.pool) w.to).1;
    lines = written_length p.lines p.to (line_for r p.pool) ∙ w.lines;
  }

  worked_within : (n : ℕ) (p : Progress) → Within bytes size p → Within bytes size (worked n bytes p).progress
  unfolding worked
  worked_within zero p w = w
  worked_within (suc n) p w = go (λ q v. worked_within n q v) (has_room p.lines p.to) (record_at bytes p.at) refl
    where
      go : ((q : Progress) → Within bytes size q → Within bytes size (worked n bytes q).progress) → (b : Bool) (r : Reading) → record_at bytes p.at ≡ r
          → Within bytes size (cond b (onward (worked n bytes) p r) (record { progress = p; stop = Full })).progress
      go rest false r e = w
      go rest true (Ok (Some (r, next))) e = rest (wrote p r next) (wrote_within p r next w (read_on bytes p.at r next e).1)
      go rest true (Ok None) e = w
      go rest true (Err why) e = w

-- what a caller has of it
pub within : (bytes : List ℕ) (p : Progress) (q : Stopped) → q ≡ worked_all bytes p → p.at ≤ length bytes → p.to ≤ length p.lines
    → Within bytes (length p.lines) q.progress
within bytes p q e h k = rw e (worked_within bytes (length p.lines) (length bytes + 1) p (record { at = h; to = k; lines = refl }))
