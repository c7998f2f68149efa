-- The range tests as facts on numbers, in both directions.
--     Limits                                             the shape
--     NodeWords, NodeRanges, HeadRanges, StoreRanges     the store
--     WordRanges                                         the three first words alone, both ways
--     RecordRanges                                           a record, both ways
-- Assumes nothing.
use Rattle.std.specs.Prelude.{◌≡◌, List, ◌⊎◌, ◌≢◌, ℕ, ◌+◌, ◌-◌, ◌/◌, ◌%◌, ◌<◌, ◌≤◌}
use Rattle.arrival.specs.declared.Shape.{Shape}
use Rattle.arrival.specs.declared.Worker.{Worker}
use Rattle.calendar.specs.rules.Layout.{current, started, last_node, link, standing}
use Rattle.calendar.specs.rules.Layout.{bucket_in}
use Rattle.calendar.specs.facts.Views.{View}

-- ── the shape ──
pub record Limits (sh : Shape) : Type 0 where
  pub some_worker : 1 ≤ sh.workers
  pub workers : sh.workers ≤ 64
  pub some_node : 1 ≤ sh.nodes
  pub nodes : sh.nodes ≤ 4096
  pub some_bucket : 1 ≤ sh.buckets
  pub buckets : sh.buckets ≤ 256
  pub some_width : 1 ≤ sh.width
  pub width : sh.width ≤ 65535

-- ── the store, by its view ──
-- a node's words: link, time, ticket, path, order, distance, epoch, standing
abbrev pub NodeWords : Shape → ℕ → ℕ → ℕ → ℕ → ℕ → ℕ → ℕ → ℕ → Type 0
NodeWords sh link time ticket path order distance epoch standing = record {
  next : link / 2 ≤ sh.nodes;
  time : time < 4294967296;
  ticket : ticket < 4294967296;
  path : path ≤ 65535;
  order : order ≤ 63;
  far : (1 ≤ distance) ⊎ (standing ≡ 0);
  distance : distance ≤ 1024;
  epoch : epoch < 4294967296;
  standing : standing < 4294967298;
}

abbrev pub NodeRanges : Shape → View → ℕ → Type 0
NodeRanges sh m n = NodeWords sh (m.cells (sh.buckets + n)) (m.time n) (m.ticket n) (m.path n) (m.order n) (m.distance n) (m.epoch n) (m.standing n)

abbrev pub HeadRanges : Shape → View → ℕ → Type 0
HeadRanges sh m b = (m.cells b % 2 ≡ 0) × (m.cells b / 2 ≤ sh.nodes)

abbrev pub StoreRanges : Shape → View → Type 0
StoreRanges sh m = record {
  current : m.current / 4294967296 < sh.buckets;
  started : m.started < 4294967296;
  last : m.last < sh.nodes;
  heads : (b : ℕ) → b < sh.buckets → HeadRanges sh m b;
  nodes : (n : ℕ) → n < sh.nodes → NodeRanges sh m n;
}

-- ── the three first words ──
pub record WordRanges (sh : Shape) (s : List ℕ) : Type 0 where
  pub current : bucket_in (current sh s) < sh.buckets
  pub started : started sh s < 4294967296
  pub last : last_node sh s < sh.nodes

-- ── a record ──
pub record RecordRanges (sh : Shape) (w : Worker) : Type 0 where
  pub stage : w.stage ≤ 13
  pub kind : w.kind ≤ 1
  pub enqueues : 4 ≤ w.stage → w.stage ≤ 7 → w.kind ≡ 0
  pub dequeues : 8 ≤ w.stage → w.stage ≤ 13 → w.kind ≡ 1
  pub own : w.own < sh.nodes
  pub bucket : w.bucket < sh.buckets
  pub further : w.stage ≡ 12 → w.bucket ≢ sh.buckets - 1
  pub left : w.left < sh.buckets + sh.nodes
  pub right : w.right ≤ sh.nodes
  pub searches : 2 ≤ w.stage → w.stage ≤ 3 → w.right ≢ sh.nodes
  pub walks : 10 ≤ w.stage → w.stage ≤ 11 → w.right ≢ sh.nodes
  pub seen : w.seen / 2 ≤ sh.nodes
  pub current : bucket_in w.current < sh.buckets
  pub ticket : w.ticket < 4294967296
