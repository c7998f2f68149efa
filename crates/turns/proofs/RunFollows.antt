-- The loop follows the rounds: what has been done, and what is done from here on, is what the rounds do on what was read; where a round
-- ends the run, that is what the turn file does.
--     at_start, spent                        nothing has been done; the rounds are spent
--     working, reading                       the loop goes on; reads on
--     closed, finished                       it is closed; the file has ended
--     interrupted                            the output is closed
--     first_held, after_round, after_read    before the first round; past a round; after a read
-- Assumes nothing.
use Rattle.std.specs.Prelude.{◌≡◌, List, [], ◌∷◌, ◌++◌, false, ℕ, suc, ◌+◌, ◌-◌, ◌≤◌, eqb, length, take, drop, Bool, Result, Ok, Err}
use Rattle.std.proofs.Math.Path.{refl, sym, ap, subst⁻¹}
use Rattle.std.proofs.Common.{◌∙◌, subst, arith}
use Rattle.std.proofs.Math.Seq.{append_snoc}
use Rattle.laws.specs.Storing.{moved}
use Rattle.batch.specs.declared.HeldPool.{HeldPool}
use Rattle.batch.specs.Batch.{Pool}
use Rattle.batch.specs.CodeView.{lent_to}
use Rattle.batch.specs.TurnFile.{Ran, behind, zeros}
use Rattle.batch.proofs.PartOfFile.{behind_behind}
use Rattle.std.specs.declared.io.Error.{Error}
use Rattle.std.specs.Result.{IsErr}
use Rattle.turns.specs.declared.Ended.{Ended}
use Rattle.turns.specs.declared.Next.{Next}
use Rattle.turns.specs.declared.Next.TheVariants.{More, Read, End, Last}
use Rattle.turns.specs.TurnsRun.{lent, Held, Rounded, round_of, Reads, worked_on, read_on, next_round, rounds, at_first}
use Rattle.turns.specs.InPieces.{load}
use Rattle.turns.proofs.InPieces.{in_pieces}
use Rattle.turns.specs.BetweenRounds.{in_hand, holding}
use Rattle.turns.proofs.BetweenRounds.{further_on, read_behind, nothing_read}
use Rattle.turns.specs.RunFollows.{all_rounds, Followed, Whole, After, Interrupted, Outcome, Ends}

pub at_start : (start : Held) → Followed start start all_rounds
at_start start =
    record { count = 0; reads = []; lines = []; all = refl; same = λ n future. let e : 0 + n ≡ n = omega arith in ap (λ (k : ℕ). rounds k future start) e }

module _ (start h : Held) (left : ℕ) (F : Followed start h left) where
  one_more : (n : ℕ) (future : Reads) → rounds (F.count + 1 + n) (F.reads ++ future) start ≡ behind F.lines (rounds (suc n) future h)
  one_more n future =
      let e : F.count + 1 + n ≡ F.count + suc n = omega arith in ap (λ (k : ℕ). rounds k (F.reads ++ future) start) e ∙ F.same (suc n) future

  -- all rounds are used up
  pub spent : left ≡ 0 → (store : List ℕ) → store ≡ h.pool.memory.store → After all_rounds start store
  unfolding rounds
  spent none store e =
      let all : F.count + 0 ≡ all_rounds = omega (arith, F.all, none) in
      record {
        reads = F.reads ++ [];
        same = e ∙ sym (ap (λ (q : Ran). q.pool.memory.store) (F.same 0 [])) ∙ ap (λ (k : ℕ). (rounds k (F.reads ++ []) start).pool.memory.store) all;
      }

  module _ (r : Rounded) (is : r ≡ round_of h) where
    -- what the rounds do by what follows this one
    by_next : (m : Next) → r.next ≡ m → (n : ℕ) (future : Reads)
        → rounds (F.count + 1 + n) (F.reads ++ future) start ≡ behind F.lines (behind (take r.to r.out) (next_round (rounds n) future h.ended r m))
    unfolding rounds
    by_next m e n future =
        one_more n future
        ∙ ap (λ (q : Rounded). behind F.lines (behind (take q.to q.out) (next_round (rounds n) future h.ended q q.next))) (sym is)
        ∙ ap (λ (m : Next). behind F.lines (behind (take r.to r.out) (next_round (rounds n) future h.ended r m))) e

    pub working : (less : ℕ) → less + 1 ≡ left → r.next ≡ More → Followed start (worked_on h.ended r) less
    working less one e = record {
      count = F.count + 1;
      reads = F.reads;
      lines = F.lines ++ take r.to r.out;
      all = omega (arith, F.all, one);
      same = λ n future. by_next More e n future ∙ sym (behind_behind F.lines (take r.to r.out) _);
    }

    pub reading : (less : ℕ) → less + 1 ≡ left → r.next ≡ Read → (piece : List ℕ) → Followed start (read_on piece r) less
    reading less one e piece = record {
      count = F.count + 1;
      reads = F.reads ++ (piece ∷ []);
      lines = F.lines ++ take r.to r.out;
      all = omega (arith, F.all, one);
      same = λ n future. ap (λ (l : Reads). rounds (F.count + 1 + n) l start) (append_snoc F.reads piece future)
          ∙ by_next Read e n (piece ∷ future)
          ∙ sym (behind_behind F.lines (take r.to r.out) _);
    }

    stops : (m : Next) → (next_round (rounds 0) [] h.ended r m).pool ≡ r.pool
    unfolding rounds
    stops More = refl
    stops Read = refl
    stops End = refl
    stops (Last why) = refl

    -- left behind this round, whatever would follow
    pub closed : (store : List ℕ) → store ≡ r.pool.memory.store → Interrupted start store
    closed store e = record {
      count = F.count + 1 + 0;
      some = omega arith;
      after = record {
        reads = F.reads ++ [];
        same = e ∙ sym (ap (λ (q : Ran). q.pool.memory.store) (by_next r.next refl 0 []) ∙ ap (λ (x : Pool). x.memory.store) (stops r.next));
      };
    }

module _ (out : List ℕ) (big : 89 ≤ length out) (h : Held) (left : ℕ) (F : Followed (at_first lent out) h left) where
  nothing_more : (r : Rounded) (m : Next) → Ends m → (n : ℕ) (future : Reads) → (next_round (rounds n) future h.ended r m).pool ≡ r.pool
  nothing_more r More e n future = absurd e
  nothing_more r Read e n future = absurd e
  nothing_more r End e n future = refl
  nothing_more r (Last why) e n future = refl

  -- With any number of rounds to come the pool stays, and with enough of them it is the file's.
  pub finished : (r : Rounded) → r ≡ round_of h → Ends r.next → (store : List ℕ) → store ≡ r.pool.memory.store → Whole store
  finished r is ends store e =
      let reads : Reads = F.reads ++ [] in
      let n : ℕ = suc (suc (load reads)) in
      record {
        reads = reads;
        same =
            e ∙ ap (λ (x : Pool). x.memory.store) (sym (ap (λ (q : Ran). q.pool) (by_next (at_first lent out) h left F r is r.next refl n [])
            ∙ nothing_more r r.next ends n []))
            ∙ ap (λ (q : Ran). q.pool.memory.store) (in_pieces reads lent out big (F.count + 1 + n) (omega arith));
      }

-- ── as the code holds it ──
-- the output is closed
pub interrupted : (start : Held) (store : List ℕ) (end : Result Ended Error) → IsErr end → Interrupted start store → Outcome start store end
interrupted start store (Ok ended) e i = absurd cc
interrupted start store (Err why) e i = i

-- before the first round
pub first_held : (d : HeldPool) (s input out : List ℕ) → d.shape ≡ zeros → d.records ≡ 64 → d.table ≡ lent.table → s ≡ lent.store
    → at_first lent out ≡ holding d s false (in_hand 0 0 input) out
unfolding lent
first_held d s input out shape records table store = cc (shape, ap (λ (n : ℕ). take n d.table) records ∙ ap (take 64) table, store)

-- past a round the bytes in hand begin further on
pub after_round : (start : Held) (d : HeldPool) (at done have : ℕ) (input out s : List ℕ) (ended : Bool) (left : ℕ)
    → Followed start (holding d s ended (drop done (in_hand at have input)) out) left
    → Followed start (holding d s ended (in_hand (at + done) have input) out) left
after_round start d at done have input out s ended left F =
    subst (λ (b : List ℕ). Followed start (holding d s ended b out) left) (further_on at done have input) F

-- behind the kept rest stands what was read
pub after_read : (start : Held) (g : Rounded) (d : HeldPool) (at have kept more : ℕ) (input front read s : List ℕ) → at ≤ have → have ≤ length input
    → kept ≡ have - at → front ≡ moved at (have - at) input
    → take kept read ≡ take kept front → kept ≤ more → more ≤ length read → (left : ℕ)
    → g.pool ≡ record { shape = d.shape; memory = lent_to d s } → g.rest ≡ in_hand at have input
    → ((piece : List ℕ) → Followed start (read_on piece g) left)
    → Followed start (holding d s (eqb more kept) (in_hand 0 more read) g.out) left
after_read start g d at have kept more input front read s h k is e f l m left pool rest F =
    subst (λ (g : Held). Followed start g left) (sym same) (F (take (more - kept) (drop kept read)))
  where
    bytes : in_hand 0 more read ≡ in_hand at have input ++ take (more - kept) (drop kept read)
    bytes =
        subst⁻¹ (λ (n : ℕ). take n read ≡ take n front → n ≤ more → in_hand 0 more read ≡ in_hand at have input ++ take (more - n) (drop n read)) is
        (λ f l. read_behind at have more input front read h k e f l m) f l

    same : holding d s (eqb more kept) (in_hand 0 more read) g.out ≡ read_on (take (more - kept) (drop kept read)) g
    same = cc (bytes, nothing_read kept more read l m)
