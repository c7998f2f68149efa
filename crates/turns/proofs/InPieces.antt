-- Worked through in rounds, cut anywhere, a turn file gives the lines, memory and shape that it gives in one piece.
--     round_step                   what a round does to the file; every round
--     round_room, rest_less        the buffer stays, and no more is left than was held
--     all_rounds_lem                   how much is to come; enough rounds work through it
--     in_pieces                    cut anywhere, the file is the same
-- Assumes nothing.
use Rattle.std.specs.Prelude.{◌≡◌, refl, Bool, true, false, List, [], ◌∷◌, ◌++◌, ◌⊎◌, ℕ, zero, suc, ◌+◌, ◌≤◌, ◌<◌, length, take, drop, Err}
use Rattle.std.proofs.Common.{sym, ap, ◌∙◌, append_assoc, append-nil, inl, inr, arith, length-append, length-drop, drop_of_length-le}
use Rattle.arrival.specs.declared.Response.TheVariants as response
use Rattle.turn_file.specs.declared.Unreadable.{Unreadable}
use Rattle.turn_file.specs.declared.Unreadable.TheVariants.{UnknownMark, CutRecord}
use Rattle.turn_file.specs.Reading.{number_of, record_at}
use Rattle.turn_file.specs.MoreBytes.{Unknown, Cut}
use Rattle.turn_file.proofs.MoreBytes.{at_end, why_refused, unknown_refused, cut_refused, unknown_rest, cut_rest}
use Rattle.turn_file.specs.Lines.{line_of}
use Rattle.turn_file.proofs.LineLaws.{line_most}
use Rattle.turn_file.specs.Buffer.{written, after}
use Rattle.turn_file.proofs.Buffer.{written_length}
use Rattle.calendar.specs.rules.Operations.{Memory}
use Rattle.batch.specs.declared.Stop.{Stop}
use Rattle.batch.specs.declared.Stop.TheVariants.{Drained, Full, Halted}
use Rattle.batch.specs.Batch.{Pool, Progress, Stopped, worked_all}
use Rattle.batch.proofs.WithinBuffers.{within}
use Rattle.batch.specs.TurnFile.{behind, records, all_records, turn_file}
use Rattle.batch.proofs.PartOfFile.{PartOf}
use Rattle.batch.proofs.PartOfFile.{part_of_file, line_behind}
use Rattle.turns.specs.declared.Next.{Next}
use Rattle.turns.specs.declared.Next.TheVariants.{More, Read, End, Last}
use Rattle.turns.proofs.LastLines.{nothing_written}
use Rattle.turns.specs.TurnsRun.{follows, last_line, Held, Rounded, rounded, round_of, Reads, handed, later, is_empty, worked_on, read_on, next_round, rounds}
use Rattle.turns.specs.TurnsRun.{at_first, input_of}
use Rattle.turns.specs.InPieces.{ahead, Step, load, weight, works, reads_on, ends, refused}

-- ── the ends of a file ──
nothing_left : (x : Pool) → all_records [] x ≡ record { pool = x; lines = [] }
unfolding records record_at
nothing_left x = refl

last_line_lem : (bytes : List ℕ) (why : Unreadable) (x : Pool) → record_at bytes 0 ≡ Err why
    → all_records bytes x ≡ record { pool = x; lines = line_of (response.Refused (number_of why)) }
unfolding records
last_line_lem bytes why x e = rw e

-- a refusal's number is a word
number_small : (why : Unreadable) → number_of why < 9
number_small UnknownMark = omega arith
number_small CutRecord = omega arith

input_split : (reads : Reads) → input_of reads ≡ handed reads ++ ahead (is_empty (handed reads)) (later reads)
input_split [] = refl
input_split ([] ∷ reads) = refl
input_split ((b ∷ bytes) ∷ reads) = refl

-- a last line that is none changes nothing
no_line : (lines : List ℕ) (to : ℕ) → take (after lines to []) (written lines to []) ≡ take to lines
no_line lines to = ap (λ (n : ℕ). take n (written lines to [])) (nothing_written lines to).0 ∙ ap (take to) (nothing_written lines to).1

module _ (x : Pool) (b out : List ℕ) (big : 89 ≤ length out) (reads : Reads) where
  abbrev p : Progress
  p = record { pool = x; at = 0; lines = out; to = 0 }

  abbrev held : Bool → Held
  held ended = record { pool = x; bytes = b; ended = ended; out = out }

  abbrev stopped : Progress → Stop → Stopped
  stopped g stop = record { progress = g; stop = stop }

  -- the batch as the round has it, where no last line is written
  plain : (more : List ℕ) (g : Progress) (stop : Stop) → PartOf b more p (stopped g stop)
      → all_records (b ++ more) x ≡ behind (take (after g.lines g.to []) (written g.lines g.to [])) (all_records (drop g.at b ++ more) g.pool)
  plain more g stop S = S.file ∙ ap (λ (t : List ℕ). behind t (all_records (drop g.at b ++ more) g.pool)) (sym (no_line g.lines g.to ∙ S.holds))

  -- and where one is
  lined : (more : List ℕ) (g : Progress) (why : Unreadable) → g.to + 89 ≤ length g.lines → PartOf b more p (stopped g (Halted why))
      → record_at (drop g.at b ++ more) 0 ≡ Err why
      → all_records (b ++ more) x ≡ behind (take (after g.lines g.to (last_line (Last why))) (written g.lines g.to (last_line (Last why))))
      (record { pool = g.pool; lines = [] })
  lined more g why room S e =
      let line = last_line (Last why) in
      let held-now : take (after g.lines g.to line) (written g.lines g.to line) ≡ S.new ++ line =
      line_behind g.lines line g.to (line_most (response.Refused (number_of why)) (omega (arith, number_small why))) room
      ∙ ap (λ (t : List ℕ). t ++ line) S.holds in
      S.file
      ∙ ap (behind S.new) (last_line_lem (drop g.at b ++ more) why g.pool e)
      ∙ ap (λ (t : List ℕ). record { pool = g.pool; lines = t }) (sym (append-nil (S.new ++ line)) ∙ ap (λ (t : List ℕ). t ++ []) (sym held-now))

  shorter : (more : List ℕ) (g : Progress) → PartOf b more p (stopped g Full) → g.at ≤ length b → length (drop g.at b) < length b
  shorter more g S w = go S.on
    where
      go : (g ≡ p) ⊎ (0 < g.at) → length (drop g.at b) < length b
      go (inl e) =
          absurd (let l : length g.lines ≡ length out = ap (λ (y : Progress). length y.lines) e in
          let t : g.to ≡ 0 = ap (λ (y : Progress). y.to) e in omega (arith, S.reason))
      go (inr h) = omega (arith, length-drop g.at b)

  step_by : (ended : Bool) (g : Progress) (stop : Stop) → g.at ≤ length b → PartOf b (ahead ended reads) p (stopped g stop)
      → Step (held ended) reads (rounded (held ended) (stopped g stop)) (follows ended stop)
  step_by ended g Full wa S = works (shorter (ahead ended reads) g S wa) (plain (ahead ended reads) g Full S)
  step_by false g Drained wa S = reads_on refl (plain (input_of reads) g Drained S)
  step_by true g Drained wa S =
      ends (plain [] g Drained S ∙ ap (behind (take (after g.lines g.to []) (written g.lines g.to []))) (ap (λ (l : List ℕ). all_records l g.pool)
      (ap (λ (l : List ℕ). l ++ []) (drop_of_length-le b (at_end b g.at S.reason)))
      ∙ nothing_left g.pool))
  step_by ended g (Halted UnknownMark) wa S = refused UnknownMark (go (why_refused b g.at UnknownMark S.reason.0))
    where
      go : ((UnknownMark ≡ UnknownMark) × Unknown b g.at) ⊎ ((UnknownMark ≡ CutRecord) × Cut b g.at)
          → all_records (b ++ ahead ended reads) x ≡ behind (take (after g.lines g.to (last_line (Last UnknownMark)))
          (written g.lines g.to (last_line (Last UnknownMark)))) (record { pool = g.pool; lines = [] })
      go (inl h) =
          lined (ahead ended reads) g UnknownMark S.reason.1 S
          (unknown_refused (drop g.at b ++ ahead ended reads) 0 (unknown_rest b g.at (ahead ended reads) h.1))
      go (inr h) = absurd (let z = h.0 in cc)
  step_by true g (Halted CutRecord) wa S = refused CutRecord (go (why_refused b g.at CutRecord S.reason.0))
    where
      go : ((CutRecord ≡ UnknownMark) × Unknown b g.at) ⊎ ((CutRecord ≡ CutRecord) × Cut b g.at)
          → all_records (b ++ []) x ≡ behind (take (after g.lines g.to (last_line (Last CutRecord))) (written g.lines g.to (last_line (Last CutRecord))))
          (record { pool = g.pool; lines = [] })
      go (inl h) = absurd (let z = h.0 in cc)
      go (inr h) =
          lined [] g CutRecord S.reason.1 S
          (ap (λ (l : List ℕ). record_at l 0) (append-nil (drop g.at b)) ∙ cut_refused (drop g.at b) 0 (cut_rest b g.at h.1))
  step_by false g (Halted CutRecord) wa S = reads_on refl (plain (input_of reads) g (Halted CutRecord) S)

-- EVERY ROUND
pub round_step : (h : Held) (reads : Reads) → 89 ≤ length h.out → Step h reads (round_of h) (round_of h).next
unfolding round_of
round_step h reads big =
    let p : Progress = record { pool = h.pool; at = 0; lines = h.out; to = 0 } in
    let q : Stopped = worked_all h.bytes p in
    let w = within h.bytes p q refl (omega arith) (omega arith) in
    step_by h.pool h.bytes h.out big reads h.ended q.progress q.stop w.at
    (part_of_file h.bytes (ahead h.ended reads) (length h.bytes + 1) p (omega arith))

pub round_room : (h : Held) → length (round_of h).out ≡ length h.out
unfolding round_of
round_room h =
    let p : Progress = record { pool = h.pool; at = 0; lines = h.out; to = 0 } in
    let q : Stopped = worked_all h.bytes p in
    written_length q.progress.lines q.progress.to _ ∙ (within h.bytes p q refl (omega arith) (omega arith)).lines

pub rest_less : (h : Held) → length (round_of h).rest ≤ length h.bytes
unfolding round_of
rest_less h = omega (arith, length-drop (worked_all h.bytes (record { pool = h.pool; at = 0; lines = h.out; to = 0 })).progress.at h.bytes)

lighter : (reads : Reads) → length (handed reads) + weight (is_empty (handed reads)) (later reads) < suc (load reads)
lighter [] = omega arith
lighter ([] ∷ reads) = omega arith
lighter ((c ∷ bytes) ∷ reads) = omega arith

pub all_rounds_lem : (n : ℕ) (reads : Reads) (h : Held) → 89 ≤ length h.out → length h.bytes + weight h.ended reads < n
    → rounds n reads h ≡ all_records (h.bytes ++ ahead h.ended reads) h.pool
unfolding rounds
all_rounds_lem zero reads h big enough = absurd (omega arith)
all_rounds_lem (suc n) reads h big enough = go (λ rs g. all_rounds_lem n rs g) (round_of h) (round_room h) (rest_less h) (round_of h).next
    (round_step h reads big)
  where
    go : ((rs : Reads) (g : Held) → 89 ≤ length g.out → length g.bytes + weight g.ended rs < n
        → rounds n rs g ≡ all_records (g.bytes ++ ahead g.ended rs) g.pool)
        → (r : Rounded) → length r.out ≡ length h.out → length r.rest ≤ length h.bytes → (next : Next) → Step h reads r next
        → behind (take r.to r.out) (next_round (rounds n) reads h.ended r next) ≡ all_records (h.bytes ++ ahead h.ended reads) h.pool
    go rest r room less More (works l e) = ap (behind (take r.to r.out)) (rest reads (worked_on h.ended r) (omega arith) (omega arith)) ∙ sym e
    go rest r room less Read (reads_on f e) =
        let old : weight h.ended reads ≡ suc (load reads) = ap (λ (t : Bool). weight t reads) f in
        ap (behind (take r.to r.out))
        (rest (later reads) (read_on (handed reads) r) (omega arith) (omega (arith, length-append r.rest (handed reads), lighter reads))
        ∙ ap (λ (l : List ℕ). all_records l r.pool) (append_assoc r.rest (handed reads) (ahead (is_empty (handed reads)) (later reads))
        ∙ ap (λ (l : List ℕ). r.rest ++ l) (sym (input_split reads))))
        ∙ sym e
    go rest r room less End (ends e) = sym e
    go rest r room less (Last why) (refused j e) = sym e

-- CUT ANYWHERE, THE FILE IS THE SAME
pub in_pieces : (reads : Reads) (m : Memory) (out : List ℕ) → 89 ≤ length out → (n : ℕ) → suc (load reads) < n
    → rounds n reads (at_first m out) ≡ turn_file (input_of reads) m
in_pieces reads m out big n enough = all_rounds_lem n reads (at_first m out) big (omega arith)
