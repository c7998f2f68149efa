-- A line in a lent buffer: where it fits it replaces as many bytes, else the buffer is as it was.
-- Assumes nothing.
use Rattle.std.specs.Prelude.{◌≡◌, refl, List, ◌++◌, ℕ, ◌+◌, ◌<◌, ◌≤◌, leb, take, drop}
use Rattle.std.proofs.Common.{ap, ◌∙◌, sym, arith, length-append, leb-true, le-leb}
use Rattle.std.proofs.Math.ListN.{length}
use Rattle.std.proofs.lemmas.List.Edits.{sets, sets-eq}
use Rattle.std.proofs.Math.Seq.{length-sets}
use Rattle.std.proofs.lemmas.Bool.{lt-leb}
use Rattle.laws.specs.Tests.{by_test, by_size}
use Rattle.laws.specs.Storing.{behind}
use Rattle.turn_file.specs.Buffer.{written, after}

-- Where the line does not fit nothing is stored; where it fits, its bytes one by one.
module _ (s : List ℕ) (at : ℕ) (line : List ℕ) where
  pub cut : length s < at + length line → (at ≡ after s at line) × (s ≡ written s at line)
  unfolding after written
  cut h = (rw (lt-leb (at + length line) (length s)), rw (lt-leb (at + length line) (length s)))

  pub stored : at + length line ≤ length s → (at + length line ≡ after s at line) × (sets s at line ≡ written s at line)
  unfolding after written
  stored h = (rw (le-leb (at + length line) (length s)), rw (le-leb (at + length line) (length s)) (sets-eq line s at h))

-- The buffer keeps its length, and the position never leaves it.
pub written_length : (s : List ℕ) (at : ℕ) (line : List ℕ) → length (written s at line) ≡ length s
unfolding written
written_length s at line =
    by_test (λ (t : List ℕ). length t ≡ length s) (leb (at + length line) (length s))
    (λ e. ap length (sym (sets-eq line s at (leb-true (at + length line) (length s) e))) ∙ length-sets s at line)
    (λ _. refl)

pub after_within : (s : List ℕ) (at : ℕ) (line : List ℕ) → at ≤ length s → (at ≤ after s at line) × (after s at line ≤ length s)
unfolding after
after_within s at line h =
    by_test (λ n. (at ≤ n) × (n ≤ length s)) (leb (at + length line) (length s))
    (λ e. omega (arith, leb-true (at + length line) (length s) e))
    (λ _. omega arith)

-- A line of at most `most` bytes fits where there is room for as many.
pub roomy : (s : List ℕ) (at : ℕ) (line : List ℕ) (most : ℕ) → length line ≤ most → at + most ≤ length s
    → (after s at line ≡ at + length line) × (written s at line ≡ take at s ++ line ++ drop (at + length line) s)
roomy s at line most h room =
    let fits : at + length line ≤ length s = omega arith in
    let done = stored s at line fits in
    (sym done.0, sym done.1 ∙ sets-eq line s at fits)

-- A line is never empty: where the position is the same, the line did not fit.
pub not_moved : (s : List ℕ) (at : ℕ) (line : List ℕ) → 0 < length line → after s at line ≡ at → length s < at + length line
not_moved s at line h e =
    by_size (length s) (at + length line)
    (λ cut. cut)
    (λ fits. absurd (let done = stored s at line fits in omega (arith, done.0)))

-- Two lines, one behind the other, are one run of bytes.
pub written_behind : (s : List ℕ) (at : ℕ) (l m : List ℕ) → at + length l + length m ≤ length s
    → (after (written s at l) (after s at l) m ≡ after s at (l ++ m)) × (written (written s at l) (after s at l) m ≡ written s at (l ++ m))
written_behind s at l m h =
    let size : length (l ++ m) ≡ length l + length m = length-append l m in
    let one = stored s at l (omega arith) in
    let two = stored (sets s at l) (at + length l) m (omega (arith, length-sets s at l)) in
    let both = stored s at (l ++ m) (omega arith) in (
      ap (λ t. after t (after s at l) m) (sym one.1) ∙ ap (λ k. after (sets s at l) k m) (sym one.0)
          ∙ sym two.0 ∙ omega arith ∙ both.0,
      ap (λ t. written t (after s at l) m) (sym one.1) ∙ ap (λ k. written (sets s at l) k m) (sym one.0)
          ∙ sym two.1 ∙ behind l m s at ∙ both.1,
    )
