-- Records behind those that a batch holds are neither read nor changed: on any other table with the same held records it does the same, and keeps the rest.
--     all_within                     no more records are held than count
--     all_alike                      on two tables that are alike a batch does the same, and each keeps what is behind the held records
-- Assumes nothing.
use Rattle.std.specs.Prelude.{◌≡◌, Bool, ◌≢◌, ltb, length, take, Some, None, Ok, Err}
use Rattle.std.proofs.Math.Path.{refl, ap, subst}
use Rattle.std.proofs.Common.{sym, ◌∙◌, length-append, length-drop, take-append-drop, length-take-le, take_at}
use Rattle.std.proofs.Math.Bool.{true, false, cond}
use mathlib.Core.List.{List, [], ◌∷◌, ◌++◌, append_assoc}
use Prim.Native.Nat.{ℕ, zero, suc, ◌+◌, ◌≤◌}
use native.Mathlib.Omega.{arith}
use Rattle.std.proofs.Math.Dec.{eqb}
use Rattle.std.proofs.Math.ListN.{drop, replicate}
use Rattle.std.proofs.lemmas.List.{length-replicate, drop-append-le}
use borrow.Author.Tests.{eqb-true, eqb-false, ne_eqb, ltb-true, ltb-false}
use Rattle.arrival.specs.declared.Shape.{Shape}
use Rattle.arrival.specs.declared.Worker.{Worker}
use Rattle.arrival.specs.declared.Action.{Action}
use Rattle.arrival.specs.declared.Response.TheVariants as response
use Rattle.calendar.specs.rules.Ranges.{shape_in_range, blank}
use Rattle.calendar.proofs.facts.RangeFacts.{limits}
use Rattle.calendar.specs.rules.Refusals.{open_refusal}
use Rattle.calendar.proofs.facts.Accepted.{open_accepted}
use Rattle.calendar.proofs.facts.RefusalParts.{refused_first}
use Rattle.calendar.specs.rules.Opening.{open_store, open_table}
use Rattle.calendar.specs.rules.Operations.{Result, act, open_pool}
use Rattle.calendar.proofs.facts.Untouched.{act_same_size, open_same_size}
use Rattle.calendar.specs.facts.RecordsBeyond.{keeping}
use Rattle.calendar.proofs.facts.RecordsBeyond.{act_same}
use Rattle.admission.proofs.GateLaws.{shape_tests}
use Rattle.turn_file.specs.declared.Record.{Record}
use Rattle.turn_file.specs.declared.Record.TheVariants.{Open, Act}
use Rattle.turn_file.specs.Reading.{Reading, record_at}
use Rattle.turn_file.specs.Lines.{line_of}
use Rattle.turn_file.specs.Buffer.{written, after}
use Rattle.batch.specs.declared.Stop.{Stop}
use Rattle.batch.specs.declared.Stop.TheVariants.{Drained, Full, Halted}
use Rattle.batch.specs.Batch.{Pool, result_of, shape_after, Progress, Stopped, has_room, wrote, onward, worked, worked_all}
use Rattle.batch.specs.RecordsCounted.{counted_of}
use Rattle.batch.proofs.RecordsCounted.{counted_bound, count_tells, counts}
use Rattle.batch.specs.Held.{greater, held_after, held, held_all}
use Rattle.batch.specs.Held as holding
use Rattle.laws.specs.Storing.{over_taken}
use Rattle.batch.specs.RecordsNotHeld.{Alike, Covers, over, on_table, keeping_from}

-- ── tables that are alike ──
module _ {k : ℕ} {t u : List Worker} (A : Alike k t u) where
  in_t : k ≤ length t
  in_t = omega (arith, A.within, (counted_bound (length t)).0)

  in_u : k ≤ length u
  in_u = omega (arith, A.within, A.counted, (counted_bound (length u)).0)

  itself : u ≡ over k t u
  itself = sym (take-append-drop k u) ∙ ap (λ (x : List Worker). x ++ drop k u) A.first

  as_many : (w : ℕ) → w ≤ 64 → ltb (length u) w ≡ ltb (length t) w
  as_many w small = count_tells (length u) w small ∙ ap (λ n. ltb n w) A.counted ∙ sym (count_tells (length t) w small)

  open_refusal_alike : (sh : Shape) (s : List ℕ) → open_refusal sh s u ≡ open_refusal sh s t
  unfolding open_refusal
  open_refusal_alike sh s = go (shape_in_range sh) refl
    where
      go : (b : Bool) → shape_in_range sh ≡ b → open_refusal sh s u ≡ open_refusal sh s t
      go true e = rw (as_many sh.workers (limits sh e).workers)
      go false e = rw e

-- what is put together is alike
put_together : (k : ℕ) (t u : List Worker) → k ≤ counted_of (length t) → counted_of (length u) ≡ counted_of (length t) → Alike k t (over k t u)
put_together k t u h same = record {
  first = take_at (take k t) (drop k u) k long;
  counted = ap counted_of as_long ∙ same;
  within = h;
}
  where
    long : length (take k t) ≡ k
    long = length-take-le k t (omega (arith, h, (counted_bound (length t)).0))

    as_long : length (over k t u) ≡ length u
    as_long = length-append (take k t) (drop k u) ∙ omega (arith, long, length-drop k u, h, same, (counted_bound (length u)).0)

drop_over : (k h : ℕ) (t u : List Worker) → k ≤ length t → k ≤ length u → k ≤ h → drop h (over k t u) ≡ drop h u
drop_over zero h t u i j l = refl
drop_over (suc k) zero t u i j l = absurd (omega arith)
drop_over (suc k) (suc h) [] u i j l = absurd (omega arith)
drop_over (suc k) (suc h) (x ∷ t) [] i j l = absurd (omega arith)
drop_over (suc k) (suc h) (x ∷ t) (y ∷ u) i j l = drop_over k h t u (omega arith) (omega arith) (omega arith)

-- ── one record of the file ──
module _ {k : ℕ} {t u : List Worker} (A : Alike k t u) (sh : Shape) (s : List ℕ) where
  abbrev keeps : ℕ → Result → Result
  keeps h r = record { memory = record { store = r.memory.store; table = over h r.memory.table u }; response = r.response }

  -- refused: nothing is changed
  unchanged : (n : ℕ) → record {
    memory = record { store = s; table = u };
    response = response.Refused n;
  } ≡ keeps k (record { memory = record { store = s; table = t }; response = response.Refused n })
  unchanged n = ap (λ (x : List Worker). record { memory = record { store = s; table = x }; response = response.Refused n }) (itself A)

  module _ (a : Action) where
    refuses : (v : List Worker) → open_refusal sh s v ≡ open_refusal sh s t → open_refusal sh s t ≢ 0
        → act sh (record { store = s; table = v }) a ≡ record { memory = record { store = s; table = v }; response = response.Refused (open_refusal sh s t) }
    unfolding act
    refuses v same n = rw (refused_first sh s v (λ z. n (sym same ∙ z)) a ∙ same, ne_eqb (open_refusal sh s t) 0 n)

    -- what is done on the records in common
    abbrev common : Result
    common = act sh (record { store = s; table = take k t }) a

    on_common : sh.workers ≤ k → (x : List Worker) → take k x ≡ take k t
        → act sh (record { store = s; table = x }) a ≡ keeping (act sh (record { store = s; table = take k t }) a) (drop k x)
    on_common w x e =
        ap (λ (z : List Worker). act sh (record { store = s; table = z }) a) (sym (take-append-drop k x) ∙ ap (λ (z : List Worker). z ++ drop k x) e)
        ∙ act_same sh s (take k t) (drop k x) (omega (arith, length-take-le k t (in_t A), w)) a

    act_alike : Covers sh (length t) k → act sh (record { store = s; table = u }) a ≡ keeps k (act sh (record { store = s; table = t }) a)
    act_alike covers = go (eqb (open_refusal sh s t) 0) refl
      where
        long : length common.memory.table ≡ k
        long = (act_same_size sh (record { store = s; table = take k t }) a).table ∙ length-take-le k t (in_t A)

        go : (b : Bool) → eqb (open_refusal sh s t) 0 ≡ b → act sh (record { store = s; table = u }) a ≡ keeps k (act sh (record { store = s; table = t }) a)
        go true e =
            let L = open_accepted sh s t (eqb-true (open_refusal sh s t) 0 e) in
            let w = covers (shape_tests sh L.limits) L.table in
            on_common w u A.first
            ∙ ap (λ (z : List Worker). record { memory = record { store = common.memory.store; table = z ++ drop k u }; response = common.response })
            (sym (take_at common.memory.table (drop k t) k long))
            ∙ ap (keeps k) (sym (on_common w t refl))
        go false e =
            let n = eqb-false (open_refusal sh s t) 0 e in
            refuses u (open_refusal_alike A sh s) n ∙ unchanged (open_refusal sh s t) ∙ ap (keeps k) (sym (refuses t refl n))

  -- an opening clears its workers' records
  cleared_alike : (w : ℕ) → w ≤ length t → replicate w blank ++ drop w u ≡ over (greater k w) (replicate w blank ++ drop w t) u
  cleared_alike w h = go (ltb k w) refl
    where
      go : (b : Bool) → ltb k w ≡ b → replicate w blank ++ drop w u ≡ over (cond b w k) (replicate w blank ++ drop w t) u
      go true e = ap (λ (x : List Worker). x ++ drop w u) (sym (take_at (replicate w blank) (drop w t) w (length-replicate w blank)))
      go false e =
          let few = ltb-false k w e in
          ap (λ (x : List Worker). replicate w blank ++ drop w x) (itself A)
          ∙ ap (λ (x : List Worker). replicate w blank ++ x) (drop-append-le w (take k t) (drop k u) (omega (arith, few, length-take-le k t (in_t A))))
          ∙ sym (append_assoc (replicate w blank) (drop w (take k t)) (drop k u))
          ∙ ap (λ (x : List Worker). x ++ drop k u) (sym (over_taken blank k t w few (in_t A)))

  open_alike : open_pool sh (record { store = s; table = u })
      ≡ keeps (cond (eqb (open_refusal sh s t) 0) (greater k sh.workers) k) (open_pool sh (record { store = s; table = t }))
  unfolding open_pool open_table
  open_alike = rw (open_refusal_alike A sh s) (go (eqb (open_refusal sh s t) 0) refl)
    where
      go : (b : Bool) → eqb (open_refusal sh s t) 0 ≡ b
          → cond b (record {
            memory = record { store = open_store sh s; table = replicate sh.workers blank ++ drop sh.workers u };
            response = response.Opened;
          }) (record { memory = record { store = s; table = u }; response = response.Refused (open_refusal sh s t) })
          ≡ keeps (cond b (greater k sh.workers) k)
          (cond b (record {
            memory = record { store = open_store sh s; table = replicate sh.workers blank ++ drop sh.workers t };
            response = response.Opened;
          }) (record { memory = record { store = s; table = t }; response = response.Refused (open_refusal sh s t) }))
      go true e =
          ap (λ (x : List Worker). record { memory = record { store = open_store sh s; table = x }; response = response.Opened })
          (cleared_alike sh.workers (open_accepted sh s t (eqb-true (open_refusal sh s t) 0 e)).table)
      go false e = unchanged (open_refusal sh s t)

-- ── how many are held ──
same_long : (x : Pool) (r : Record) → length (result_of r x).memory.table ≡ length x.memory.table
same_long x (Open sh) = (open_same_size sh x.memory).table
same_long x (Act a) = (act_same_size x.shape x.memory a).table

greater_left : (a b : ℕ) → a ≤ greater a b
greater_left a b = go (ltb a b) refl
  where
    go : (c : Bool) → ltb a b ≡ c → a ≤ cond c b a
    go true e = omega (arith, ltb-true a b e)
    go false e = omega arith

greater_right : (a b : ℕ) → b ≤ greater a b
greater_right a b = go (ltb a b) refl
  where
    go : (c : Bool) → ltb a b ≡ c → b ≤ cond c b a
    go true e = omega arith
    go false e = ltb-false a b e

greater_within : (a b c : ℕ) → a ≤ c → b ≤ c → greater a b ≤ c
greater_within a b c h k = go (ltb a b)
  where
    go : (d : Bool) → cond d b a ≤ c
    go true = k
    go false = h

after_more : (x : Pool) (k : ℕ) (r : Record) → k ≤ held_after r x k
after_more x k (Open sh) = go (eqb (open_refusal sh x.memory.store x.memory.table) 0)
  where
    go : (b : Bool) → k ≤ cond b (greater k sh.workers) k
    go true = greater_left k sh.workers
    go false = omega arith
after_more x k (Act a) = omega arith

after_within : (x : Pool) (k : ℕ) (r : Record) → k ≤ counted_of (length x.memory.table) → held_after r x k ≤ counted_of (length x.memory.table)
after_within x k (Open sh) h = go (eqb (open_refusal sh x.memory.store x.memory.table) 0) refl
  where
    go : (b : Bool) → eqb (open_refusal sh x.memory.store x.memory.table) 0 ≡ b
        → cond b (greater k sh.workers) k ≤ counted_of (length x.memory.table)
    go true e =
        let L = open_accepted sh x.memory.store x.memory.table (eqb-true _ 0 e) in
        greater_within k sh.workers (counted_of (length x.memory.table)) h
        (counts (length x.memory.table) sh.workers L.table L.limits.workers)
    go false e = h
after_within x k (Act a) h = h

module _ (bytes : List ℕ) where
  held_more : (n : ℕ) (p : Progress) (k : ℕ) → k ≤ held n bytes k p
  unfolding held
  held_more zero p k = omega arith
  held_more (suc n) p k = go (λ q h. held_more n q h) (has_room p.lines p.to) (record_at bytes p.at)
    where
      go : ((q : Progress) (h : ℕ) → h ≤ held n bytes h q) → (b : Bool) (r : Reading) → k ≤ cond b (holding.onward (held n bytes) k p r) k
      go rest false r = omega arith
      go rest true (Ok (Some (r, next))) = omega (arith, after_more p.pool k r, rest (wrote p r next) (held_after r p.pool k))
      go rest true (Ok None) = omega arith
      go rest true (Err why) = omega arith

  held_within : (n : ℕ) (p : Progress) (k : ℕ) → k ≤ counted_of (length p.pool.memory.table)
      → held n bytes k p ≤ counted_of (length p.pool.memory.table)
  unfolding held
  held_within zero p k h = h
  held_within (suc n) p k h = go (λ q i l. held_within n q i l) (has_room p.lines p.to) (record_at bytes p.at)
    where
      past : ((q : Progress) (i : ℕ) → i ≤ counted_of (length q.pool.memory.table) → held n bytes i q ≤ counted_of (length q.pool.memory.table))
          → (r : Record) (next : ℕ) → held n bytes (held_after r p.pool k) (wrote p r next) ≤ counted_of (length p.pool.memory.table)
      past rest r next =
          subst (λ m. held_after r p.pool k ≤ counted_of m → held n bytes (held_after r p.pool k) (wrote p r next) ≤ counted_of m)
          (same_long p.pool r) (rest (wrote p r next) (held_after r p.pool k)) (after_within p.pool k r h)

      go : ((q : Progress) (i : ℕ) → i ≤ counted_of (length q.pool.memory.table) → held n bytes i q ≤ counted_of (length q.pool.memory.table))
          → (b : Bool) (r : Reading)
          → cond b (holding.onward (held n bytes) k p r) k ≤ counted_of (length p.pool.memory.table)
      go rest false r = h
      go rest true (Ok (Some (r, next))) = past rest r next
      go rest true (Ok None) = h
      go rest true (Err why) = h

  -- no more than there are
  pub all_within : (p : Progress) (k : ℕ) → k ≤ counted_of (length p.pool.memory.table) → held_all bytes k p ≤ counted_of (length p.pool.memory.table)
  all_within p k h = held_within (length bytes + 1) p k h

-- ── a batch ──
abbrev on : Pool → List Worker → Pool
on x u = record { shape = x.shape; memory = record { store = x.memory.store; table = u } }

module _ {k : ℕ} {u : List Worker} (x : Pool) (A : Alike k x.memory.table u) (covers : Covers x.shape (length x.memory.table) k) where
  next_alike : (h : ℕ) (t : List Worker) → length t ≡ length x.memory.table → h ≤ counted_of (length x.memory.table) → Alike h t (over h t u)
  next_alike h t same within = put_together h t u (subst (λ n. h ≤ counted_of n) (sym same) within) (A.counted ∙ ap counted_of (sym same))

  result_alike : (r : Record) → result_of r (on x u) ≡ keeps A x.shape x.memory.store (held_after r x k) (result_of r x)
  result_alike (Open sh) = open_alike A sh x.memory.store
  result_alike (Act a) = act_alike A x.shape x.memory.store a covers

  shape_alike : (r : Record) → shape_after r (on x u) ≡ shape_after r x
  shape_alike (Open sh) = ap (λ (n : ℕ). cond (eqb n 0) sh x.shape) (open_refusal_alike A sh x.memory.store)
  shape_alike (Act a) = refl

  after_covers : (r : Record) → Covers (shape_after r x) (length (result_of r x).memory.table) (held_after r x k)
  after_covers r = subst (λ n. Covers (shape_after r x) n (held_after r x k)) (sym (same_long x r)) (still r)
    where
      go : (sh : Shape) (b : Bool) → Covers (cond b sh x.shape) (length x.memory.table) (cond b (greater k sh.workers) k)
      go sh true = λ i h. greater_right k sh.workers
      go sh false = covers

      still : (r : Record) → Covers (shape_after r x) (length x.memory.table) (held_after r x k)
      still (Open sh) = go sh (eqb (open_refusal sh x.memory.store x.memory.table) 0)
      still (Act a) = covers

-- what was kept by a record of the file is what was there before
kept_through : (h : ℕ) (q : Stopped) (k : ℕ) (t u : List Worker) → k ≤ length t → k ≤ length u → k ≤ h → keeping_from h q (over k t u) ≡ keeping_from h q u
kept_through h q k t u i j l =
    ap (λ (x : List Worker). record { progress = on_table q.progress (take h q.progress.pool.memory.table ++ x); stop = q.stop })
    (drop_over k h t u i j l)

module _ (bytes : List ℕ) where
  worked_alike : (n : ℕ) (p : Progress) (k : ℕ) (u : List Worker) → Alike k p.pool.memory.table u
      → Covers p.pool.shape (length p.pool.memory.table) k
      → worked n bytes (on_table p u) ≡ keeping_from (held n bytes k p) (worked n bytes p) u
  unfolding worked held
  worked_alike zero p k u A covers = ap (λ (x : List Worker). record { progress = on_table p x; stop = Drained }) (itself A)
  worked_alike (suc n) p k u A covers = go (λ q h v B c. worked_alike n q h v B c) (has_room p.lines p.to) (record_at bytes p.at)
    where
      there : (stop : Stop) → record { progress = on_table p u; stop = stop } ≡ keeping_from k (record { progress = p; stop = stop }) u
      there stop = ap (λ (v : List Worker). record { progress = on_table p v; stop = stop }) (itself A)

      -- past a record of the file, with h held
      on_from : ((q : Progress) (h : ℕ) (v : List Worker) → Alike h q.pool.memory.table v → Covers q.pool.shape (length q.pool.memory.table) h
          → worked n bytes (on_table q v) ≡ keeping_from (held n bytes h q) (worked n bytes q) v)
          → (q : Progress) (h : ℕ) → length q.pool.memory.table ≡ length p.pool.memory.table → h ≤ counted_of (length p.pool.memory.table)
          → Covers q.pool.shape (length q.pool.memory.table) h
          → worked n bytes (on_table q (over h q.pool.memory.table u)) ≡ keeping_from (held n bytes h q) (worked n bytes q) u
      on_from rest q h long within c =
          rest q h (over h q.pool.memory.table u) (next_alike p.pool A covers h q.pool.memory.table long within) c
          ∙ kept_through (held n bytes h q) (worked n bytes q) h q.pool.memory.table u
          (omega (arith, within, long, (counted_bound (length p.pool.memory.table)).0)) (omega (arith, within, A.counted, (counted_bound (length u)).0))
          (held_more bytes n q h)

      past : ((q : Progress) (h : ℕ) (v : List Worker) → Alike h q.pool.memory.table v → Covers q.pool.shape (length q.pool.memory.table) h
          → worked n bytes (on_table q v) ≡ keeping_from (held n bytes h q) (worked n bytes q) v)
          → (r : Record) (next : ℕ)
          → worked n bytes (wrote (on_table p u) r next)
          ≡ keeping_from (held n bytes (held_after r p.pool k) (wrote p r next)) (worked n bytes (wrote p r next)) u
      past rest r next =
          ap (worked n bytes) same
          ∙ on_from rest (wrote p r next) (held_after r p.pool k) (same_long p.pool r) (after_within p.pool k r A.within)
          (after_covers p.pool A covers r)
        where
          same : wrote (on_table p u) r next ≡ on_table (wrote p r next) (over (held_after r p.pool k) (result_of r p.pool).memory.table u)
          same = λ j. record {
            pool = record { shape = shape_alike p.pool A covers r j; memory = (result_alike p.pool A covers r j).memory };
            at = next;
            lines = written p.lines p.to (line_of (result_alike p.pool A covers r j).response);
            to = after p.lines p.to (line_of (result_alike p.pool A covers r j).response);
          }

      go : ((q : Progress) (h : ℕ) (v : List Worker) → Alike h q.pool.memory.table v → Covers q.pool.shape (length q.pool.memory.table) h
          → worked n bytes (on_table q v) ≡ keeping_from (held n bytes h q) (worked n bytes q) v)
          → (b : Bool) (r : Reading)
          → cond b (onward (worked n bytes) (on_table p u) r) (record { progress = on_table p u; stop = Full })
          ≡ keeping_from (cond b (holding.onward (held n bytes) k p r) k) (cond b (onward (worked n bytes) p r) (record { progress = p; stop = Full })) u
      go rest false r = there Full
      go rest true (Ok (Some (r, next))) = past rest r next
      go rest true (Ok None) = there Drained
      go rest true (Err why) = there (Halted why)

  -- A batch on two tables that are alike: the same store, lines, shape and stop, the same held records, and each table's own behind them.
  -- (With u the table itself: what is behind the held records stays.)
  pub all_alike : (p : Progress) (k : ℕ) (u : List Worker) → Alike k p.pool.memory.table u → Covers p.pool.shape (length p.pool.memory.table) k
      → worked_all bytes (on_table p u) ≡ keeping_from (held_all bytes k p) (worked_all bytes p) u
  all_alike p k u A covers = worked_alike (length bytes + 1) p k u A covers
