-- What a call's record knows at each stage of its search, put together from its parts. Assumes nothing.
use Rattle.std.specs.Prelude.{◌≡◌, ◌≢◌, ◌⊎◌, ℕ, ◌+◌, ◌*◌, ◌%◌, ◌≤◌, ◌<◌}
use Rattle.std.proofs.Common.{arith}
use Rattle.arrival.specs.declared.Shape.{Shape}
use Rattle.arrival.specs.declared.Worker.{Worker}
use Rattle.calendar.specs.rules.Outcome.{with_stage}
use Rattle.calendar.specs.facts.Views.{View, Lt}
use Rattle.lists.specs.LinkInvariant.{Chains, home}
use Rattle.lists.specs.Knowledge.{Private, Stands}
use Rattle.lists.specs.AllCalls.{Knows}

abbrev pub Left : Shape → View → Chains → Worker → Type 0
Left sh m ch w = (w.left ≡ w.bucket) ⊎ ((k : ℕ) × (w.left ≡ sh.buckets + k) × Stands sh m ch w.ticket w.bucket k × Lt m k w.own)

abbrev pub Right : Shape → View → Chains → Worker → Type 0
Right sh m ch w = (w.right ≡ sh.nodes) ⊎ Stands sh m ch w.ticket w.bucket w.right

-- what a search knows at every stage of it
abbrev pub Base : Shape → View → Chains → Worker → Type 0
Base sh m ch w = record {
  range : w.bucket < sh.buckets;
  kinds : (w.kind ≡ 0) ⊎ (w.kind ≡ 1);
  enqueue_own : w.kind ≡ 0 → Private sh m ch w.ticket w.own;
  dequeue_own : w.kind ≡ 1 → record { stands : Stands sh m ch w.ticket w.bucket w.own; marked : m.cells (sh.buckets + w.own) % 2 ≡ 1 };
  own_home : home sh m w.own ≡ w.bucket;
}

-- the record at a stage k of the search, from what that stage asks
pub at_stage : (sh : Shape) (m : View) (ch : Chains) (w : Worker) (k : ℕ) → 1 ≤ k → k ≤ 5 → (w.kind ≡ 1 → k ≤ 3) → Base sh m ch w
    → (2 ≤ k → Left sh m ch w) → (2 ≤ k → Right sh m ch w) → (2 ≤ k → k ≤ 3 → w.right ≢ sh.nodes) → (4 ≤ k → w.right ≢ sh.nodes → Lt m w.own w.right)
    → (k ≡ 3 → record { is_node : w.right < sh.nodes; link : m.cells (sh.buckets + w.right) ≡ w.seen; marked : w.seen % 2 ≡ 1 })
    → (k ≡ 5 → m.cells (sh.buckets + w.own) ≡ 2 * w.right) → Knows sh m ch (with_stage k w)
at_stage sh m ch w k lo hi dequeues base left right not_end above three five = record {
  kinds = base.kinds;
  dequeues = λ e l. dequeues e;
  enqueues = λ e. omega arith;
  search = λ a b. record {
    range = base.range;
    enqueue_own = λ e l. base.enqueue_own e;
    dequeue_own = λ e l. base.dequeue_own e;
    own_home = λ l. base.own_home;
    left = λ l l'. left l;
    right = λ l l'. right l;
    not_end = not_end;
    above = λ l l'. above l;
    at_three = three;
    at_five = five;
  };
  linked = λ a b. absurd (omega arith);
  walk = λ a. absurd (omega arith);
  stand = λ a b. absurd (omega arith);
  old = λ a. absurd (omega arith);
  more = λ a. absurd (omega arith);
}

pub at_rest : (sh : Shape) (m : View) (ch : Chains) (w : Worker) → (w.kind ≡ 0) ⊎ (w.kind ≡ 1) → Knows sh m ch (with_stage 0 w)
at_rest sh m ch w k = record {
  kinds = k;
  dequeues = λ e l. omega arith;
  enqueues = λ e. omega arith;
  search = λ a b. absurd (omega arith);
  linked = λ a b. absurd (omega arith);
  walk = λ a. absurd (omega arith);
  stand = λ a b. absurd (omega arith);
  old = λ a. absurd (omega arith);
  more = λ a. absurd (omega arith);
}
