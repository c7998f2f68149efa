-- A batch is a part of its turn file: its text, and then what the file says from where the batch stopped, whatever bytes follow.
--     same_records, behind_behind     more records than bytes make no difference; lines behind lines
--     file_from                        what the file says from a position on
--     text, line_behind               the lines that a buffer holds; a line that fits is what it holds more
--     Reason, PartOf                  why a batch stopped; what a part of the file is: its lines, where it stopped, and that it got on
--     part_of_file                    a batch is a part of its file
-- Assumes nothing.
use Rattle.std.specs.Prelude.{◌≡◌, Bool, false, cond, List, [], ◌++◌, ◌⊎◌, take, drop, Some, None, Ok, Err}
use Rattle.std.proofs.Math.Path.{refl, ap}
use Rattle.std.proofs.Common.{sym, ◌∙◌, append_assoc, append-nil, inl, inr, arith, length-append, length-drop, drop-drop, take_at, length-take-le}
use Rattle.std.proofs.Common.{leb-true, leb-false}
use Rattle.std.proofs.Math.Bool.{true}
use Prim.Native.Nat.{ℕ, zero, suc, ◌+◌, ◌-◌, ◌≤◌, ◌<◌}
use Rattle.std.proofs.Math.ListN.{length}
use Rattle.std.proofs.lemmas.List.{drop-append-le}
use Rattle.turn_file.specs.declared.Record.{Record}
use Rattle.turn_file.specs.declared.Record.TheVariants.{Open, Act}
use Rattle.turn_file.specs.Reading.{Reading, record_at, whole}
use Rattle.turn_file.proofs.OneReading.{read_on}
use Rattle.turn_file.proofs.MoreBytes.{read_rest}
use Rattle.turn_file.specs.Buffer.{written, after}
use Rattle.turn_file.proofs.Buffer.{roomy}
use Rattle.batch.specs.declared.Stop.{Stop}
use Rattle.batch.specs.declared.Stop.TheVariants.{Drained, Full, Halted}
use Rattle.batch.specs.Batch.{Pool, pool_after, line_for, Progress, Stopped, has_room, wrote, onward, worked}
use Rattle.batch.specs.TurnFile.{Ran, behind, from_first, records, all_records}
use Rattle.batch.proofs.LinesFit.{line_fits}

-- ── the file, record by record ──
-- more records than bytes make no difference
pub same_records : (n m : ℕ) (bytes : List ℕ) (x : Pool) → length bytes < n → length bytes < m → records n bytes x ≡ records m bytes x
unfolding records
same_records zero m bytes x h k = absurd (omega arith)
same_records (suc n) zero bytes x h k = absurd (omega arith)
same_records (suc n) (suc m) bytes x h k = go (λ b y. same_records n m b y) (record_at bytes 0) refl
  where
    one : ((b : List ℕ) (y : Pool) → length b < n → length b < m → records n b y ≡ records m b y) → (r : Record) (next : ℕ) → record_at bytes 0 ≡ whole r next
        → behind (line_for r x) (records n (drop next bytes) (pool_after r x)) ≡ behind (line_for r x) (records m (drop next bytes) (pool_after r x))
    one same r next e =
        let on = read_on bytes 0 r next e in
        ap (behind (line_for r x)) (same (drop next bytes) (pool_after r x) (omega (arith, on.0, on.1, length-drop next bytes))
        (omega (arith, on.0, on.1, length-drop next bytes)))

    go : ((b : List ℕ) (y : Pool) → length b < n → length b < m → records n b y ≡ records m b y)
        → (r : Reading) → record_at bytes 0 ≡ r → from_first (λ next. records n (drop next bytes)) x r ≡ from_first (λ next. records m (drop next bytes)) x r
    go same (Ok (Some (r, next))) e = one same r next e
    go same (Ok None) e = refl
    go same (Err why) e = refl

pub behind_behind : (l m : List ℕ) (r : Ran) → behind (l ++ m) r ≡ behind l (behind m r)
behind_behind l m r = ap (λ (t : List ℕ). record { pool = r.pool; lines = t }) (append_assoc l m r.lines)

module _ (bytes more : List ℕ) where
  -- what the file says from a position on
  abbrev pub file_from : ℕ → Pool → Ran
  file_from at x = all_records (drop at bytes ++ more) x

  rest_of_rest : (at next : ℕ) → at < next → next ≤ length bytes → drop (next - at) (drop at bytes ++ more) ≡ drop next bytes ++ more
  rest_of_rest at next h k =
      let sum : at + (next - at) ≡ next = omega arith in
      drop-append-le (next - at) (drop at bytes) more (omega (arith, length-drop at bytes))
      ∙ ap (λ (l : List ℕ). l ++ more) (drop-drop (next - at) at bytes ∙ ap (λ (n : ℕ). drop n bytes) sum)

  fewer : (at next : ℕ) (x : Pool) → at < next → next ≤ length bytes
      → records (length (drop at bytes ++ more)) (drop (next - at) (drop at bytes ++ more)) x ≡ file_from next x
  fewer at next x h k =
      ap (λ (b : List ℕ). records (length (drop at bytes ++ more)) b x) (rest_of_rest at next h k)
      ∙ same_records _ _ (drop next bytes ++ more) x
      (omega (arith, length-append (drop at bytes) more, length-append (drop next bytes) more, length-drop at bytes, length-drop next bytes)) (omega arith)

  record_first : (at : ℕ) (x : Pool) (r : Record) (next : ℕ) → record_at bytes at ≡ whole r next
      → file_from at x ≡ behind (line_for r x) (file_from next (pool_after r x))
  unfolding records
  record_first at x r next e =
      let on = read_on bytes at r next e in
      rw (read_rest bytes at more r next e) (first r ∙ ap (behind (line_for r x)) (fewer at next (pool_after r x) on.0 on.1))
    where
      rest : ℕ → Pool → Ran
      rest k = records (length (drop at bytes ++ more)) (drop k (drop at bytes ++ more))

      first : (r : Record) → from_first rest x (whole r (next - at)) ≡ behind (line_for r x) (rest (next - at) (pool_after r x))
      first (Open sh) = refl
      first (Act a) = refl

-- ── the batch ──
-- the lines that a buffer holds
abbrev pub text : Progress → List ℕ
text p = take p.to p.lines

-- a line that fits is what a buffer holds more
pub line_behind : (lines line : List ℕ) (to : ℕ) → length line ≤ 89 → to + 89 ≤ length lines
    → take (after lines to line) (written lines to line) ≡ take to lines ++ line
line_behind lines line to fits room =
    let r = roomy lines to line 89 fits room in
    let size : length (take to lines ++ line) ≡ to + length line = length-append (take to lines) line
    ∙ ap (λ (n : ℕ). n + length line) (length-take-le to lines (omega arith)) in
    ap (λ (n : ℕ). take n (written lines to line)) r.0
    ∙ ap (take (to + length line)) r.1
    ∙ take_at (take to lines ++ line) (drop (to + length line) lines) (to + length line) size

-- why it stopped there; where a reading is refused there is still room for a line
abbrev pub Reason : List ℕ → Progress → Stop → Type 0
Reason bytes p Drained = record_at bytes p.at ≡ Ok None
Reason bytes p Full = length p.lines < p.to + 89
Reason bytes p (Halted why) = (record_at bytes p.at ≡ Err why) × (p.to + 89 ≤ length p.lines)

pub record PartOf (bytes more : List ℕ) (p : Progress) (q : Stopped) : Type 0 where
  pub new : List ℕ
  pub holds : text q.progress ≡ text p ++ new
  pub file : file_from bytes more p.at p.pool ≡ behind new (file_from bytes more q.progress.at q.progress.pool)
  pub reason : Reason bytes q.progress q.stop
  pub on : (q.progress ≡ p) ⊎ (p.at < q.progress.at)

module _ (bytes more : List ℕ) where
  stays : (p : Progress) (stop : Stop) → Reason bytes p stop → PartOf bytes more p (record { progress = p; stop = stop })
  stays p stop why = record { new = []; holds = sym (append-nil (text p)); file = refl; reason = why; on = inl refl }

  -- one record, and then the rest of the batch
  after_one : (p : Progress) (r : Record) (next : ℕ) (q : Stopped) → p.at < next → text (wrote p r next) ≡ text p ++ line_for r p.pool
      → file_from bytes more p.at p.pool ≡ behind (line_for r p.pool) (file_from bytes more next (pool_after r p.pool))
      → PartOf bytes more (wrote p r next) q
      → PartOf bytes more p q
  after_one p r next q h held first S = record {
    new = line_for r p.pool ++ S.new;
    holds = S.holds ∙ ap (λ (l : List ℕ). l ++ S.new) held ∙ append_assoc (text p) (line_for r p.pool) S.new;
    file = first ∙ ap (behind (line_for r p.pool)) S.file ∙ sym (behind_behind (line_for r p.pool) S.new _);
    reason = S.reason;
    on = inr (further S.on);
  }
    where
      further : (q.progress ≡ wrote p r next) ⊎ (next < q.progress.at) → p.at < q.progress.at
      further (inl e) = rw e h
      further (inr k) = omega arith

  pub part_of_file : (n : ℕ) (p : Progress) → length bytes - p.at < n → PartOf bytes more p (worked n bytes p)
  unfolding worked
  part_of_file zero p h = absurd (omega arith)
  part_of_file (suc n) p h = go (λ q. part_of_file n q) (has_room p.lines p.to) refl (record_at bytes p.at) refl
    where
      past : ((q : Progress) → length bytes - q.at < n → PartOf bytes more q (worked n bytes q)) → has_room p.lines p.to ≡ true
          → (r : Record) (next : ℕ) → record_at bytes p.at ≡ whole r next → PartOf bytes more p (worked n bytes (wrote p r next))
      past rest room r next e =
          let on = read_on bytes p.at r next e in
          after_one p r next _ on.0 (line_behind p.lines (line_for r p.pool) p.to (line_fits r p.pool)
          (leb-true (p.to + 89) (length p.lines) room))
          (record_first bytes more p.at p.pool r next e) (rest (wrote p r next) (omega (arith, on.0, on.1)))

      go : ((q : Progress) → length bytes - q.at < n → PartOf bytes more q (worked n bytes q)) → (b : Bool) → has_room p.lines p.to ≡ b → (r : Reading)
          → record_at bytes p.at ≡ r
          → PartOf bytes more p (cond b (onward (worked n bytes) p r) (record { progress = p; stop = Full }))
      go rest false full r e = stays p Full (leb-false (p.to + 89) (length p.lines) full)
      go rest true room (Ok (Some (r, next))) e = past rest room r next e
      go rest true room (Ok None) e = stays p Drained e
      go rest true room (Err why) e = stays p (Halted why) (e, leb-true (p.to + 89) (length p.lines) room)
