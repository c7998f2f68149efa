-- What an opened store and table hold, place by place. Assumes nothing.
use Rattle.std.specs.Prelude.{◌≡◌, List, ℕ, ◌+◌, ◌*◌, ◌-◌, ◌≤◌, ◌<◌, drop, replicate}
use Rattle.std.proofs.Math.Path.{ap}
use Rattle.std.proofs.Common.{◌∙◌, inr, lit<}
use native.Mathlib.Omega.{arith}
use Rattle.std.proofs.lemmas.List.{get_or-replicate, length-replicate}
use Rattle.std.proofs.Math.ListN.{get_or-append}
use borrow.Author.Tests.{ne_eqb, le-leb, lt-ltb, le-ltb}
use Rattle.arrival.specs.declared.Shape.{Shape}
use Rattle.arrival.specs.declared.Worker.{Worker}
use Rattle.laws.specs.Lists.{words_from, words_at, length_words}
use Rattle.calendar.specs.rules.Layout.{Place, word, cell, field, address, layout, read}
use Rattle.calendar.specs.rules.Ranges.{blank, worker}
use Rattle.calendar.specs.rules.Opening.{open_word, open_store, open_table}
use Rattle.calendar.proofs.facts.Places.{word_inside, cell_inside, field_inside}
use Rattle.calendar.specs.facts.Views.{view}
use Rattle.calendar.specs.facts.RangeFacts.{StoreRanges, RecordRanges, Limits}

module _ (sh : Shape) (s : List ℕ) where
  at_place : (p : Place) → address sh p < layout sh → read sh (open_store sh s) p ≡ open_word sh (address sh p)
  unfolding open_store read
  at_place p h =
      let e : 0 + address sh p ≡ address sh p = omega arith in
      get_or-append (words_from (open_word sh) 0 (layout sh)) (drop (layout sh) s) 0 (address sh p) (rw (length_words (open_word sh) 0 (layout sh)) h)
      ∙ words_at (open_word sh) 0 (layout sh) (address sh p) h
      ∙ ap (open_word sh) e

  pub open_current : read sh (open_store sh s) (word 0) ≡ 0
  unfolding address
  open_current = at_place (word 0) (word_inside sh 0 (lit< tt))

  pub open_started : read sh (open_store sh s) (word 1) ≡ 0
  unfolding address
  open_started = at_place (word 1) (word_inside sh 1 (lit< tt))

  pub open_last : read sh (open_store sh s) (word 2) ≡ sh.nodes - 1
  unfolding address
  open_last = at_place (word 2) (word_inside sh 2 (lit< tt))

  pub open_head : (b : ℕ) → b < sh.buckets → read sh (open_store sh s) (cell b) ≡ 2 * sh.nodes
  unfolding address
  open_head b h =
      let e : 3 + b + 7 * (b - sh.buckets) ≡ 3 + b = omega arith in
      at_place (cell b) (cell_inside sh b (omega arith)) ∙ ap (open_word sh) e
      ∙ rw (ne_eqb (3 + b) 2 (λ q. omega arith), le-leb 3 (3 + b) (omega arith), lt-ltb (3 + b) (3 + sh.buckets) (omega arith))

  -- every word of a node
  zero_beyond : (k : ℕ) → 3 + sh.buckets ≤ k → open_word sh k ≡ 0
  zero_beyond k h = rw (ne_eqb k 2 (λ q. omega arith), le-leb 3 k (omega arith), le-ltb k (3 + sh.buckets) h)

  pub open_link : (n : ℕ) → n < sh.nodes → read sh (open_store sh s) (cell (sh.buckets + n)) ≡ 0
  unfolding address
  open_link n h =
      at_place (cell (sh.buckets + n)) (cell_inside sh (sh.buckets + n) (omega arith))
      ∙ zero_beyond (3 + (sh.buckets + n) + 7 * (sh.buckets + n - sh.buckets)) (omega arith)

  pub open_field : (f n : ℕ) → f < 8 → n < sh.nodes → read sh (open_store sh s) (field f n) ≡ 0
  unfolding address
  open_field f n l h = at_place (field f n) (field_inside sh f n l h) ∙ zero_beyond (3 + sh.buckets + 8 * n + f) (omega arith)

pub open_worker : (sh : Shape) (t : List Worker) (i : ℕ) → i < sh.workers → worker (open_table sh t) i ≡ blank
unfolding open_table
open_worker sh t i h =
    get_or-append (replicate sh.workers blank) (drop sh.workers t) blank i (rw (length-replicate sh.workers blank) h)
    ∙ get_or-replicate sh.workers i blank blank h

-- so every field is in its range
pub open_store_ranged : (sh : Shape) (s : List ℕ) → Limits sh → StoreRanges sh (view sh (open_store sh s))
open_store_ranged sh s L = record {
  current = rw (open_current sh s) (omega (arith, L.some_bucket));
  started = rw (open_started sh s) (omega arith);
  last = rw (open_last sh s) (omega (arith, L.some_node));
  heads = λ b h. rw (open_head sh s b h) (omega arith, omega arith);
  nodes = λ n h. record {
    next = rw (open_link sh s n h) (omega arith);
    time = rw (open_field sh s 1 n (lit< tt) h) (omega arith);
    ticket = rw (open_field sh s 2 n (lit< tt) h) (omega arith);
    path = rw (open_field sh s 3 n (lit< tt) h) (omega arith);
    order = rw (open_field sh s 4 n (lit< tt) h) (omega arith);
    far = inr (open_field sh s 7 n (lit< tt) h);
    distance = rw (open_field sh s 5 n (lit< tt) h) (omega arith);
    epoch = rw (open_field sh s 6 n (lit< tt) h) (omega arith);
    standing = rw (open_field sh s 7 n (lit< tt) h) (omega arith);
  };
}

blank_ranged : (sh : Shape) → Limits sh → RecordRanges sh blank
unfolding blank
blank_ranged sh L = record {
  stage = omega arith;
  kind = omega arith;
  enqueues = λ p q. absurd (omega arith);
  dequeues = λ p q. absurd (omega arith);
  own = omega (arith, L.some_node);
  bucket = omega (arith, L.some_bucket);
  further = λ p. absurd (omega arith);
  left = omega (arith, L.some_bucket);
  right = omega arith;
  searches = λ p q. absurd (omega arith);
  walks = λ p q. absurd (omega arith);
  seen = omega arith;
  current = omega (arith, L.some_bucket);
  ticket = omega arith;
}

pub open_table_ranged : (sh : Shape) (t : List Worker) → Limits sh → (i : ℕ) → i < sh.workers → RecordRanges sh (worker (open_table sh t) i)
open_table_ranged sh t L i h = rw (open_worker sh t i h) (blank_ranged sh L)
