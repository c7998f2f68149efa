-- How a round ends: a last line that is none leaves the buffer as it was, and what follows by each way out of a batch. Assumes nothing.
use Rattle.std.specs.Prelude.{◌≡◌, refl, Bool, true, false, cond, List, [], ◌++◌, ℕ, ◌+◌, leb, length, take, drop}
use Rattle.std.proofs.Common.{sym, ap, ◌∙◌, append-nil, add-zero, take-append-drop}
use Rattle.turn_file.specs.Buffer.{written, after}
use Rattle.turn_file.specs.declared.Unreadable.{Unreadable}
use Rattle.turn_file.specs.declared.Unreadable.TheVariants.{UnknownMark, CutRecord}
use Rattle.batch.specs.declared.Stop.{Stop}
use Rattle.batch.specs.declared.Stop.TheVariants.{Halted}
use Rattle.turns.specs.declared.Next.{Next}
use Rattle.turns.specs.declared.Next.TheVariants.{Last}
use Rattle.turns.specs.TurnsRun.{follows, last_line}

pub nothing_written : (lines : List ℕ) (to : ℕ) → (after lines to [] ≡ to) × (written lines to [] ≡ lines)
unfolding after written
nothing_written lines to = go (leb (to + 0) (length lines))
  where
    go : (b : Bool) → (cond b (to + 0) to ≡ to) × (cond b (take to lines ++ [] ++ drop (to + 0) lines) lines ≡ lines)
    go true = (
      add-zero to,
      ap (λ (l : List ℕ). l ++ drop (to + 0) lines) (append-nil (take to lines))
          ∙ ap (λ (n : ℕ). take to lines ++ drop n lines) (add-zero to)
          ∙ take-append-drop to lines,
    )
    go false = (refl, refl)

pub unclosed : (lines : List ℕ) (to : ℕ) (next : Next) → last_line next ≡ []
    → (to ≡ after lines to (last_line next)) × (lines ≡ written lines to (last_line next))
unclosed lines to next e = (sym (ap (after lines to) e ∙ (nothing_written lines to).0), sym (ap (written lines to) e ∙ (nothing_written lines to).1))

pub last_at_end : (ended : Bool) (stop : Stop) (why : Unreadable) → stop ≡ Halted why → ended ≡ true → Last why ≡ follows ended stop
last_at_end ended stop UnknownMark e f = rw e
last_at_end ended stop CutRecord e f = rw (e, f)

pub last_by_7 : (ended : Bool) (stop : Stop) → stop ≡ Halted UnknownMark → Last UnknownMark ≡ follows ended stop
last_by_7 ended stop e = rw e
