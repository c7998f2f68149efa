-- The loop follows the rounds: what has been done, and what is done from here on, is what the rounds do on what was read; where a round
-- ends the run, that is what the turn file does.
--     all_rounds                              as many as a run may take
--     Followed                               what has been done, and what is to come
--     Whole, After, Interrupted, Outcome     what a run left, by why it ended
--     Ends                                   it is closed; the file has ended
-- Assumes nothing.
use Rattle.std.specs.Prelude.{◌≡◌, List, ◌++◌, ℕ, ◌+◌, ◌<◌, Result, Ok, Err}
use Rattle.batch.specs.TurnFile.{behind, turn_file}
use Rattle.std.specs.declared.io.Error.{Error}
use Rattle.turns.specs.declared.Ended.{Ended}
use Rattle.turns.specs.declared.Ended.TheVariants.{Finished, Spent}
use Rattle.turns.specs.declared.Next.{Next}
use Rattle.turns.specs.declared.Next.TheVariants.{More, Read, End, Last}
use Rattle.turns.specs.TurnsRun.{lent, Held, Reads, rounds, input_of}

-- as many rounds as a run may take
abbrev pub all_rounds : ℕ
all_rounds = 18446744073709551615

-- up to h, with so many rounds left
pub record Followed (start h : Held) (left : ℕ) : Type 0 where
  pub count : ℕ
  pub reads : Reads
  pub lines : List ℕ
  pub all : count + left ≡ all_rounds
  pub same : (n : ℕ) (future : Reads) → rounds (count + n) (reads ++ future) start ≡ behind lines (rounds n future h)

-- The store is what the whole file leaves that was read.
pub record Whole (store : List ℕ) : Type 0 where
  pub reads : Reads
  pub same : store ≡ (turn_file (input_of reads) lent).pool.memory.store

-- The store is what so many rounds leave, on some reads.
pub record After (count : ℕ) (start : Held) (store : List ℕ) : Type 0 where
  pub reads : Reads
  pub same : store ≡ (rounds count reads start).pool.memory.store

-- after some rounds, at least one
pub record Interrupted (start : Held) (store : List ℕ) : Type 0 where
  pub count : ℕ
  pub some : 0 < count
  pub after : After count start store

-- by why the rounds ended
abbrev pub Outcome : Held → List ℕ → Result Ended Error → Type 0
Outcome start store (Ok Finished) = Whole store
Outcome start store (Ok Spent) = After all_rounds start store
Outcome start store (Err why) = Interrupted start store

-- no round follows
abbrev pub Ends : Next → Type 0
Ends More = ⊥
Ends Read = ⊥
Ends End = Unit {0}
Ends (Last why) = Unit {0}
