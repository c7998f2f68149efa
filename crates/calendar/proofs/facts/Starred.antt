-- The starred cases (docs/RULES.md, cases by hand), as one table under one theorem: computed, entry by entry.
--     Case                                       a history after an opening, its responses, and current and worker 0's bucket at its end
--     two_workers, arrival, turns, put, take     what the cases are made of
--     table                                      the thirteen cases
--     lent                                       the memory they are run on
--     Holds, All, starred_cases                  every case holds
--     words_after                                every word after a put and a take
-- Assumes nothing.
use Rattle.std.specs.Prelude.{◌≡◌, refl, List, [], ◌∷◌, ◌++◌, ℕ, replicate}
use Rattle.arrival.specs.declared.Shape.{Shape}
use Rattle.arrival.specs.declared.Arrival.{Arrival}
use Rattle.arrival.specs.declared.Action.{Action}
use Rattle.arrival.specs.declared.Action.TheVariants.{Enqueue, Dequeue, Step}
use Rattle.arrival.specs.declared.Response.{Response}
use Rattle.arrival.specs.declared.Response.TheVariants.{Opened, Begun, On, Stored, Took, Empty, Refused}
use Rattle.arrival.specs.Keys.{lower, bucket_of}
use Rattle.arrival.specs.Energy.{energy_of}
use Rattle.laws.specs.Counting.{every}
use Rattle.laws.specs.Lists.{words_from}
use Rattle.calendar.specs.rules.Layout.{address, read, write, current, current_word}
use Rattle.calendar.specs.rules.Ranges.{blank, worker, store_in_range, table_in_range}
use Rattle.calendar.specs.rules.Reclaim.{is_free, first_free_of, first_free}
use Rattle.calendar.specs.rules.Opening.{open_store, open_table}
use Rattle.calendar.specs.rules.Starts.{enqueue_start, dequeue_start}
use Rattle.calendar.specs.rules.SearchSteps.{found, settle, step_1, step_2, step_3}
use Rattle.calendar.specs.rules.EnqueueSteps.{step_4, step_5, step_6, step_7}
use Rattle.calendar.specs.rules.DequeueSteps.{walk, step_8, step_9, step_10, step_11, step_12, step_13}
use Rattle.calendar.specs.rules.Steps.{no_step, step}
use Rattle.calendar.specs.rules.Refusals.{open_refusal, enqueue_refusal, dequeue_refusal, step_refusal}
use Rattle.calendar.specs.rules.Operations.{Memory, open_pool, act, run, responses}

-- A case: a history after an opening, the responses that it gets, and at its end current's bucket and epoch, and the bucket in
-- worker 0's record, in which its call works or last worked.
pub record Case : Type 0 where
  pub shape : Shape
  pub history : List Action
  pub gives : List Response
  pub bucket : ℕ
  pub epoch : ℕ
  pub works_in : ℕ

unfoldable pub two_workers : Shape
two_workers = record { workers = 2; nodes = 4; buckets = 2; width = 10 }

four_workers : Shape
four_workers = record { workers = 4; nodes = 4; buckets = 2; width = 10 }

-- an arrival by time and distance
unfoldable pub arrival : ℕ → ℕ → Arrival
arrival time distance = record { time = time; path = 7; order = 1; distance = distance }

unfoldable pub turns : ℕ → ℕ → List Action
turns i k = replicate k (Step i)

ons : ℕ → List Response
ons k = replicate k On

-- a put of worker i and k turns; the responses of a put that is call c: begun, k times on, stored; a take and k turns
unfoldable pub put : ℕ → Arrival → ℕ → List Action
put i a k = Enqueue i a ∷ turns i k

ends : ℕ → ℕ → List Response
ends c k = ons k ++ (Stored c ∷ [])

stored : ℕ → ℕ → List Response
stored c k = Begun c ∷ ends c k

unfoldable pub take : ℕ → ℕ → List Action
take i k = Dequeue i ∷ turns i k

-- four puts begin, no two at one time, and one start more
four_begin : List Action
four_begin = Enqueue 0 (arrival 5 3) ∷ Enqueue 1 (arrival 6 3) ∷ Enqueue 2 (arrival 7 3) ∷ Enqueue 3 (arrival 8 3) ∷ Dequeue 2 ∷ []

four_begun : List Response
four_begun = Begun 1 ∷ Begun 2 ∷ Begun 3 ∷ Begun 4 ∷ Refused 9 ∷ []

pub table : List Case
table =
    -- fresh, take: 5 turns, empty, current (1, 0)
    record { shape = two_workers; history = take 0 5; gives = Begun 1 ∷ (ons 4 ++ (Empty ∷ [])); bucket = 1; epoch = 0; works_in = 1 }
    -- then put at 5: 5 turns, current (0, 1)
    ∷ record {
      shape = two_workers;
      history = take 0 5 ++ put 1 (arrival 5 3) 5;
      gives = (Begun 1 ∷ (ons 4 ++ (Empty ∷ []))) ++ stored 2 4;
      bucket = 0;
      epoch = 1;
      works_in = 1;
    }
    -- fresh, put at 15: 4 turns
    ∷ record { shape = two_workers; history = put 0 (arrival 15 3) 4; gives = stored 1 3; bucket = 0; epoch = 0; works_in = 1 }
    -- fresh, put at 5: 5 turns
    ∷ record { shape = two_workers; history = put 0 (arrival 5 3) 5; gives = stored 1 4; bucket = 0; epoch = 1; works_in = 0 }
    -- then take: 7 turns, gives 5
    ∷ record {
      shape = two_workers;
      history = put 0 (arrival 5 3) 5 ++ take 0 7;
      gives = stored 1 4 ++ (Begun 2 ∷ (ons 6 ++ (Took 5 7 1 3 1864135 ∷ [])));
      bucket = 0;
      epoch = 1;
      works_in = 0;
    }
    -- time 19 begins, and so does 20, in bucket 1 both
    ∷ record { shape = two_workers; history = Enqueue 0 (arrival 19 3) ∷ []; gives = Begun 1 ∷ []; bucket = 0; epoch = 0; works_in = 1 }
    ∷ record { shape = two_workers; history = Enqueue 0 (arrival 20 3) ∷ []; gives = Begun 1 ∷ []; bucket = 0; epoch = 0; works_in = 1 }
    -- four puts begin on four workers, a start on one of them is 9
    ∷ record {
      shape = four_workers;
      history = four_begin;
      gives = four_begun;
      bucket = 0;
      epoch = 0;
      works_in = 0;
    }
    -- then all turns of each worker: stored after 5, 6, 7 and 8; a put is 12
    ∷ record {
      shape = four_workers;
      history = four_begin ++ turns 0 5 ++ turns 1 6 ++ turns 2 7 ++ turns 3 8 ++ (Enqueue 0 (arrival 5 3) ∷ []);
      gives = four_begun ++ ends 1 4 ++ ends 2 5 ++ ends 3 6 ++ ends 4 7 ++ (Refused 12 ∷ []);
      bucket = 0;
      epoch = 4;
      works_in = 0;
    }
    -- and so with two workers, one put after the other
    ∷ record {
      shape = two_workers;
      history = put 0 (arrival 15 3) 4 ++ put 1 (arrival 14 3) 5 ++ put 0 (arrival 13 3) 5 ++ put 1 (arrival 12 3) 5 ++ (Enqueue 0 (arrival 11 3) ∷ []);
      gives = stored 1 3 ++ stored 2 4 ++ stored 3 4 ++ stored 4 4 ++ (Refused 12 ∷ []);
      bucket = 0;
      epoch = 0;
      works_in = 1;
    }
    -- distance 1 gives 16,777,216, 5 gives 671,088, 1,024 gives 16
    ∷ record {
      shape = two_workers;
      history = put 0 (arrival 5 1) 5 ++ take 0 7;
      gives = stored 1 4 ++ (Begun 2 ∷ (ons 6 ++ (Took 5 7 1 1 16777216 ∷ [])));
      bucket = 0;
      epoch = 1;
      works_in = 0;
    }
    ∷ record {
      shape = two_workers;
      history = put 0 (arrival 5 5) 5 ++ take 0 7;
      gives = stored 1 4 ++ (Begun 2 ∷ (ons 6 ++ (Took 5 7 1 5 671088 ∷ [])));
      bucket = 0;
      epoch = 1;
      works_in = 0;
    }
    ∷ record {
      shape = two_workers;
      history = put 0 (arrival 5 1024) 5 ++ take 0 7;
      gives = stored 1 4 ++ (Begun 2 ∷ (ons 6 ++ (Took 5 7 1 1024 16 ∷ [])));
      bucket = 0;
      epoch = 1;
      works_in = 0;
    }
    ∷ []

-- memory as it is lent, with something in it and more of it than the shape needs
unfoldable pub lent : Memory
lent =
    record {
      store = replicate 40 9;
      table = replicate 5 (record { stage = 3; kind = 1; own = 9; bucket = 9; left = 9; right = 9; seen = 9; current = 9; ticket = 9 });
    }

pub Holds : Case → Type 0
Holds c = let m = (open_pool c.shape lent).memory in
    ((open_pool c.shape lent).response ≡ Opened)
    × (responses c.shape m c.history ≡ c.gives)
    × (current c.shape (run c.shape m c.history).store ≡ current_word c.bucket c.epoch)
    × ((worker (run c.shape m c.history).table 0).bucket ≡ c.works_in)

pub All : List Case → Type 0
All [] = Unit {0}
All (c ∷ cs) = Holds c × All cs

pub starred_cases : All table
unfolding All Holds table lent two_workers four_workers arrival turns ons put ends stored take four_begin four_begun address read write every blank
    store_in_range table_in_range is_free first_free_of first_free words_from open_store open_table enqueue_start dequeue_start found settle step_1
    step_2 step_3 step_4
    step_5 step_6 step_7 walk step_8 step_9 step_10 step_11 step_12 step_13 no_step step open_refusal enqueue_refusal dequeue_refusal step_refusal open_pool act
    run responses lower bucket_of energy_of
starred_cases = (
  (refl, refl, refl, refl),
  (
    (refl, refl, refl, refl),
    (
      (refl, refl, refl, refl),
      (
        (refl, refl, refl, refl),
        (
          (refl, refl, refl, refl),
          (
            (refl, refl, refl, refl),
            (
              (refl, refl, refl, refl),
              (
                (refl, refl, refl, refl),
                (
                  (refl, refl, refl, refl),
                  ((refl, refl, refl, refl), ((refl, refl, refl, refl), ((refl, refl, refl, refl), ((refl, refl, refl, refl), tt)))),
                ),
              ),
            ),
          ),
        ),
      ),
    ),
  ),
)

-- Every word after an arrival was put and taken: current (0, 1), two calls, node 0 handed out and retired when two calls had
-- started, its item and its marked link as they were.
pub words_after : (run two_workers (open_pool two_workers lent).memory (put 0 (arrival 5 3) 5 ++ take 0 7)).store
    ≡ 1 ∷ 2 ∷ 0 ∷ 8 ∷ 8 ∷ 9 ∷ 5 ∷ 1 ∷ 7 ∷ 1 ∷ 3 ∷ 0 ∷ 4 ∷ (replicate 24 0 ++ (9 ∷ 9 ∷ 9 ∷ []))
unfolding lent two_workers arrival turns put take address read write every blank store_in_range table_in_range is_free first_free_of first_free
    words_from open_store
    open_table enqueue_start dequeue_start found settle step_1 step_2 step_3 step_4 step_5 step_6 step_7 walk step_8 step_9 step_10 step_11 step_12
    step_13 no_step
    step open_refusal enqueue_refusal dequeue_refusal step_refusal open_pool act run lower bucket_of energy_of
words_after = refl
