-- What the code holds between rounds, as the definition of a round has it.
--     further_on, in_hand_length     the bytes in hand further on, and how many
--     read_behind, nothing_read      what a read handed over stands behind what was kept; nothing was
--     round_left                     the code's round is the definition's
-- Assumes nothing.
use Rattle.std.specs.Prelude.{◌≡◌, refl, Bool, true, false, List, [], ◌∷◌, ◌++◌, ◌⊎◌, ℕ, ◌+◌, ◌-◌, ◌≤◌, ◌<◌, eqb, length, take, drop}
use Rattle.std.proofs.Common.{sym, ◌∙◌, inl, inr, arith, length-drop, take-append-drop, drop-drop, take-take, take_at, length-take-le, eqb-true, eq-eqb, ne_eqb}
use Rattle.std.proofs.Math.Path.{ap, subst⁻¹}
use Rattle.std.proofs.lemmas.Bool.{eqb-false}
use Rattle.laws.specs.Lists.{drop_take}
use Rattle.laws.specs.Storing.{moved}
use Rattle.turn_file.specs.declared.Unreadable.TheVariants.{UnknownMark, CutRecord}
use Rattle.turn_file.specs.MoreBytes.{Unknown, Cut}
use Rattle.turn_file.proofs.MoreBytes.{at_end, why_refused, cut_short}
use Rattle.turn_file.specs.Buffer.{written, after}
use Rattle.turn_file.proofs.Buffer.{written_length, after_within}
use Rattle.batch.specs.declared.HeldPool.{HeldPool}
use Rattle.batch.specs.declared.Progress as code
use Rattle.batch.specs.declared.Stop.{Stop}
use Rattle.batch.specs.declared.Stop.TheVariants.{Drained, Full, Halted}
use Rattle.batch.specs.Batch.{Progress, Stopped, worked_all}
use Rattle.batch.specs.CodeView.{begins, ends}
use Rattle.batch.specs.WithinBuffers.{Within}
use Rattle.batch.proofs.WithinBuffers.{within}
use Rattle.batch.proofs.PartOfFile.{Reason}
use Rattle.batch.proofs.PartOfFile.{part_of_file}
use Rattle.turns.specs.declared.Next.{Next}
use Rattle.turns.specs.declared.Next.TheVariants.{Read}
use Rattle.turns.specs.declared.Round.{Round}
use Rattle.turns.specs.TurnsRun.{follows, last_line, rounded, round_of, is_empty}
use Rattle.turns.specs.BetweenRounds.{in_hand, holding, leaves, Placed}

-- ── bytes in hand ──
pub further_on : (at m have : ℕ) (input : List ℕ) → drop m (in_hand at have input) ≡ in_hand (at + m) have input
further_on at m have input =
    let e : have - at - m ≡ have - (at + m) = omega arith in
    drop_take m (have - at) (drop at input) ∙ ap (λ (k : ℕ). take k (drop m (drop at input))) e ∙ ap (take (have - (at + m))) (drop-drop m at input)

pub in_hand_length : (at have : ℕ) (input : List ℕ) → at ≤ have → have ≤ length input → length (in_hand at have input) ≡ have - at
in_hand_length at have input h k = length-take-le (have - at) (drop at input) (omega (arith, length-drop at input))

-- what was kept, and behind it what a read handed over
pub read_behind : (at have more : ℕ) (input kept read : List ℕ) → at ≤ have → have ≤ length input → kept ≡ moved at (have - at) input
    → take (have - at) read ≡ take (have - at) kept → have - at ≤ more → more ≤ length read
    → in_hand 0 more read ≡ in_hand at have input ++ take (more - (have - at)) (drop (have - at) read)
unfolding moved
read_behind at have more input kept read h k e f l m =
    let n = have - at in
    let zero-less : more - 0 ≡ more = omega arith in
    let front : take n (take more read) ≡ in_hand at have input =
    take-take n more read l ∙ f ∙ ap (take n) e ∙ take_at (take n (drop at input)) (drop n input) n (in_hand_length at have input h k) in
    ap (λ (j : ℕ). take j read) zero-less
    ∙ sym (take-append-drop n (take more read))
    ∙ ap (λ (t : List ℕ). t ++ drop n (take more read)) front
    ∙ ap (λ (t : List ℕ). in_hand at have input ++ t) (drop_take n more read)

empty_by_length : (l : List ℕ) (n : ℕ) → length l ≡ n → is_empty l ≡ eqb n 0
empty_by_length [] n e = sym (eq-eqb n 0 (sym e))
empty_by_length (b ∷ l) n e = sym (ne_eqb n 0 (λ z. omega arith))

-- a read handed over nothing where there are as many bytes as were kept
pub nothing_read : (kept more : ℕ) (read : List ℕ) → kept ≤ more → more ≤ length read → eqb more kept ≡ is_empty (take (more - kept) (drop kept read))
nothing_read kept more read l m =
    sym (empty_by_length (take (more - kept) (drop kept read)) (more - kept) (length-take-le (more - kept) (drop kept read)
    (omega (arith, length-drop kept read)))
    ∙ same (eqb more kept) refl)
  where
    same : (b : Bool) → eqb more kept ≡ b → eqb (more - kept) 0 ≡ eqb more kept
    same true e = eq-eqb (more - kept) 0 (omega (arith, eqb-true more kept e)) ∙ sym e
    same false e = ne_eqb (more - kept) 0 (λ z. eqb-false more kept e (omega arith)) ∙ sym e

-- ── a round ──
few_kept : (b : List ℕ) (ended : Bool) (g : Progress) (stop : Stop) → Reason b g stop → follows ended stop ≡ Read → length b - g.at < 12
few_kept b ended g Full why e = absurd cc
few_kept b ended g Drained why e = omega (arith, at_end b g.at why)
few_kept b ended g (Halted UnknownMark) why e = absurd cc
few_kept b ended g (Halted CutRecord) why e = go (why_refused b g.at CutRecord why.0)
  where
    go : ((CutRecord ≡ UnknownMark) × Unknown b g.at) ⊎ ((CutRecord ≡ CutRecord) × Cut b g.at) → length b - g.at < 12
    go (inl h) = absurd (let z = h.0 in cc)
    go (inr h) = omega (arith, cut_short b g.at h.1)

module _ (d : HeldPool) (s : List ℕ) (ended : Bool) (bytes out : List ℕ) (p : code.Progress) (s' lines out' : List ℕ) (to : ℕ) (next : Next)
    (worked : ends s' lines p ≡ worked_all bytes (begins d s 0 out 0))
    (follow : next ≡ follows ended p.stop) (closed : to ≡ after lines p.to (last_line next)) (holds : out' ≡ written lines p.to (last_line next)) where
  abbrev r : Round
  r = record { pool = p.pool; at = p.at; to = to; next = next }

  is_round : leaves r bytes out' s' ≡ round_of (holding d s ended bytes out)
  unfolding round_of
  is_round = now ∙ ap (rounded (holding d s ended bytes out)) worked
    where
      now : leaves r bytes out' s' ≡ rounded (holding d s ended bytes out) (ends s' lines p)
      now = cc

  stays : Within bytes (length out) (ends s' lines p).progress
  stays = within bytes (begins d s 0 out 0) (ends s' lines p) worked (omega arith) (omega arith)

  placed : Placed r bytes out'
  placed =
      let a = after_within lines p.to (last_line next) stays.to in
      record {
        at = stays.at;
        to = rw (holds, written_length lines p.to (last_line next), closed) a.1;
        few = λ e. let why : Reason bytes (ends s' lines p).progress (ends s' lines p).stop = subst⁻¹ (λ (q : Stopped). Reason bytes q.progress q.stop) worked
            (part_of_file bytes [] (length bytes + 1) (begins d s 0 out 0) (omega arith)).reason in
            few_kept bytes ended (ends s' lines p).progress p.stop why (sym follow ∙ e);
      }

  -- THE CODE'S ROUND
  pub round_left : (leaves r bytes out' s' ≡ round_of (holding d s ended bytes out)) × Placed r bytes out' × (length out' ≡ length out)
  round_left = (is_round, placed, ap length holds ∙ written_length lines p.to (last_line next) ∙ stays.lines)
