-- The invariants of the lists, over views, and that linking a node in and taking one out keep them.
--     Chains, set_chain, set_cases, home                          the chains by bucket, one changed; the bucket of a node
--     Member, Safe, Follows                                      a node of a chain; safe for a call; what follows a safe node
--     Lists                                                      the invariant of the lists
--     safe_next                                                  what is safe is followed by the end or something safe
--     Linking                                                    what a put at 5 knows whose swap succeeds
--     out_not_left, chain_distinct                               what is no spot of a chain; a chain has each node once
--     own_not_left, link_in, link_safe, link_keeps               the node is linked in
--     Unlinking, unlinked, edge                                  what a search at 3 knows whose swap succeeds
--     marked_cell, un_standing, un_in, un_safe, unlink_keeps     the node is taken out
-- Assumes nothing.
use Rattle.std.specs.Prelude.{◌≡◌, refl, List, Bool, true, false, cond, ◌≢◌, ◌⊎◌, ℕ, ◌+◌, ◌*◌, ◌/◌, ◌%◌, ◌≤◌, ◌<◌, eqb}
use Rattle.std.proofs.Common.{sym, ap, ◌∙◌, inl, inr, arith, eqb-true}
use mathlib.Core.List.Memᴰ
use Rattle.std.proofs.lemmas.Bool.{eqb-false}
use Rattle.arrival.specs.declared.Shape.{Shape}
use Rattle.arrival.specs.Keys.{item_bucket}
use Rattle.arrival.proofs.Keys.{lower_trans, lower_irr}
use Rattle.laws.specs.Tests.{upd_same, upd_other, upd_cases}
use Rattle.laws.specs.Lists.{Once}
use Rattle.calendar.specs.rules.Layout.{cell, field}
use Rattle.calendar.specs.facts.Views.{View, update, item_in, Lt}
use Rattle.lists.specs.Chain.{In, Runs, Spot, Edge, Apart, insert_at, remove_at, runs_frame, spot_not, insert_runs, edge_of, edge_in, remove_runs}
use Rattle.lists.specs.Chain.{in_insert, insert_in, in_remove, remove_in, removed_ne, in_next, Ascends, distinct, insert_ascends, remove_ascends}

-- The chains, as the proof carries them.
abbrev pub Chains : Type 0
Chains = ℕ → List ℕ

abbrev pub set_chain : Chains → ℕ → List ℕ → Chains
set_chain f b x = λ q. cond (eqb b q) x (f q)

pub set_cases : (P : ℕ → List ℕ → Type 0) (f : Chains) (b : ℕ) (x : List ℕ) → P b x → ((q : ℕ) → q ≢ b → P q (f q)) → (q : ℕ) → P q (set_chain f b x q)
set_cases P f b x h k q = upd_cases P f b x h k q

abbrev pub home : Shape → View → ℕ → ℕ
home sh m n = item_bucket sh (item_in m n)

-- Types of records without a name, so that an update to a view that they do not read leaves them the same type by computation.
abbrev pub Member : Shape → View → ℕ → ℕ → Type 0
Member sh m b n = record { in_range : b < sh.buckets; is_node : n < sh.nodes; used : m.standing n ≡ 1; at_home : home sh m n ≡ b }

-- n is safe for the call c
abbrev pub Safe : Shape → View → Chains → ℕ → ℕ → Type 0
Safe sh m ch c n = In n (ch (home sh m n)) ⊎ ((k : ℕ) × (m.standing n ≡ 2 + k) × (c ≤ k))

abbrev pub Follows : Shape → View → Chains → ℕ → ℕ → ℕ → Type 0
Follows sh m ch c n q = record { is_node : q < sh.nodes; safe : Safe sh m ch c q; at_home : home sh m q ≡ home sh m n; above : Lt m n q }

abbrev pub Lists : Shape → View → Chains → (ℕ → Type 0) → Type 0
Lists sh m ch Live = record {
  runs : (b : ℕ) → b < sh.buckets → Runs sh m.cells b (ch b);
  member : (b n : ℕ) → In n (ch b) → Member sh m b n;
  ascends : (b : ℕ) → Ascends (Lt m) (ch b);
  live : (c : ℕ) → Live c → c ≤ m.started;
  retired : (n k : ℕ) → n < sh.nodes → m.standing n ≡ 2 + k → (m.cells (sh.buckets + n) % 2 ≡ 1) × (k ≤ m.started);
  frozen : (c n k : ℕ) → Live c → n < sh.nodes → m.standing n ≡ 2 + k → c ≤ k
      → (m.cells (sh.buckets + n) / 2 ≡ sh.nodes) ⊎ Follows sh m ch c n (m.cells (sh.buckets + n) / 2);
}

-- Consequence (b): what is safe is followed by the end or by something safe, of the same bucket and above it.
pub safe_next : (sh : Shape) (m : View) (ch : Chains) (Live : ℕ → Type 0) → Lists sh m ch Live → (c n : ℕ) → Live c → n < sh.nodes → Safe sh m ch c n
    → (m.cells (sh.buckets + n) / 2 ≡ sh.nodes) ⊎ Follows sh m ch c n (m.cells (sh.buckets + n) / 2)
safe_next sh m ch Live I c n v l (inr (k, s, h)) = I.frozen c n k v l s h
safe_next sh m ch Live I c n v l (inl i) =
    go (m.cells (sh.buckets + n) / 2)
    (in_next sh (Lt m) (λ x y z. lower_trans (item_in m x) (item_in m y) (item_in m z)) (λ a. lower_irr (item_in m a)) m.cells (home sh m n) i
    (I.runs (home sh m n) (I.member (home sh m n) n i).in_range) (I.ascends (home sh m n)))
  where
    go : (q : ℕ) → (q ≡ sh.nodes) ⊎ (In q (ch (home sh m n)) × Lt m n q) → (q ≡ sh.nodes) ⊎ Follows sh m ch c n q
    go q (inl e) = inl e
    go q (inr (j, lt)) =
        let x = I.member (home sh m n) q j in inr (record { is_node = x.is_node; safe = inl (rw x.at_home j); at_home = x.at_home; above = lt })

-- What a put at 5 whose swap succeeds knows: own is private, left lies in the chain, own's key lies between.
pub record Linking (sh : Shape) (m : View) (ch : Chains) (b left right own : ℕ) : Type 0 where
  pub in_range : b < sh.buckets
  pub spot : Spot sh left b (ch b)
  pub was : m.cells left ≡ 2 * right
  pub link : m.cells (sh.buckets + own) ≡ 2 * right
  pub is_node : own < sh.nodes
  pub used : m.standing own ≡ 1
  pub at_home : home sh m own ≡ b
  pub private : (q : ℕ) → In own (ch q) → ⊥
  pub low : (k : ℕ) → left ≡ sh.buckets + k → Lt m k own
  pub high : (k : ℕ) → right ≡ k → k ≢ sh.nodes → Lt m own k

-- a head is apart from all links
head_apart : (sh : Shape) (b : ℕ) (ns : List ℕ) → b < sh.buckets → Apart sh b ns
head_apart sh b ns h n i e = omega arith

-- the link of a node outside the chain is not a spot of it
pub out_not_left : (sh : Shape) (b : ℕ) (ns : List ℕ) (left n : ℕ) → b < sh.buckets → Spot sh left b ns → (In n ns → ⊥) → left ≢ sh.buckets + n
out_not_left sh b ns left n l sp out e = spot_not sh (sh.buckets + n) sp (λ q. omega arith) (λ j i q. out (Memᴰ.cast (omega arith) i)) (sym e)

pub chain_distinct : (sh : Shape) (m : View) (ns : List ℕ) → Ascends (Lt m) ns → Once ns
chain_distinct sh m ns = distinct sh (Lt m) (λ a b c. lower_trans (item_in m a) (item_in m b) (item_in m c)) (λ a. lower_irr (item_in m a)) ns

module _ (sh : Shape) (m : View) (ch : Chains) (Live : ℕ → Type 0) (I : Lists sh m ch Live) (b left right own : ℕ) (k : Linking sh m ch b left right own) where
  -- the cells of own, of other heads and of other chains are not left
  pub own_not_left : left ≢ sh.buckets + own
  own_not_left = out_not_left sh b (ch b) left own k.in_range k.spot (k.private b)

  other_head : (q : ℕ) → q ≢ b → q < sh.buckets → left ≢ q
  other_head q h l e = spot_not sh q k.spot h (head_apart sh q (ch b) l) (sym e)

  other_link : (q n : ℕ) → q ≢ b → In n (ch q) → left ≢ sh.buckets + n
  other_link q n h i e = spot_not sh (sh.buckets + n) k.spot (λ r. omega (arith, k.in_range))
      (λ j ij r. h (sym (I.member q n i).at_home ∙ ap (home sh m) (omega arith) ∙ (I.member b j ij).at_home)) (sym e)

  link_runs : (q : ℕ) → q < sh.buckets → Runs sh (update (cell left) (2 * own) m).cells q (set_chain ch b (insert_at sh own k.spot) q)
  link_runs =
      set_cases (λ q ns. q < sh.buckets → Runs sh (update (cell left) (2 * own) m).cells q ns) ch b (insert_at sh own k.spot)
      (λ l. insert_runs sh m.cells _ left own
      (rw (upd_same left left (2 * own) (m.cells left) refl) (omega arith))
      (rw (upd_other left (sh.buckets + own) (2 * own) (m.cells (sh.buckets + own)) own_not_left) (cc (k.was, k.link)))
      (λ x u v. upd_other left x (2 * own) (m.cells x) (λ e. u (sym e)))
      k.spot (I.runs b l) (head_apart sh b (ch b) l) (λ e. omega arith) (λ n i e. k.private b (Memᴰ.cast (sym e) i))
      (chain_distinct sh m (ch b) (I.ascends b)))
      (λ q h l. runs_frame sh m.cells _ (ch q) q q (I.runs q l)
      (ap (λ x. x / 2) (upd_other left q (2 * own) (m.cells q) (other_head q h l)))
      (λ n i. upd_other left (sh.buckets + n) (2 * own) (m.cells (sh.buckets + n)) (other_link q n h i)))

  -- a retired node is marked, so it is not left, and keeps its link
  retired_link : (n j : ℕ) → n < sh.nodes → m.standing n ≡ 2 + j → (update (cell left) (2 * own) m).cells (sh.buckets + n) ≡ m.cells (sh.buckets + n)
  retired_link n j l s =
      upd_other left (sh.buckets + n) (2 * own) (m.cells (sh.buckets + n))
      (λ e. let z : 2 * right ≡ m.cells (sh.buckets + n) = sym k.was ∙ ap m.cells e in omega (arith, (I.retired n j l s).0))

  pub link_in : (n q : ℕ) → In n (ch q) → In n (set_chain ch b (insert_at sh own k.spot) q)
  link_in n q = set_cases (λ q ns. In n (ch q) → In n ns) ch b (insert_at sh own k.spot) (insert_in sh own k.spot) (λ q h i. i) q

  pub link_safe : (c n : ℕ) → Safe sh m ch c n → Safe sh m (set_chain ch b (insert_at sh own k.spot)) c n
  link_safe c n (inl i) = inl (link_in n (home sh m n) i)
  link_safe c n (inr r) = inr r

  pub link_keeps : Lists sh (update (cell left) (2 * own) m) (set_chain ch b (insert_at sh own k.spot)) Live
  link_keeps = record {
    runs = link_runs;
    member = λ q n. set_cases (λ q ns. In n ns → Member sh m q n) ch b (insert_at sh own k.spot) (λ i. old n (in_insert sh k.spot i))
        (λ q h. I.member q n) q;
    ascends = set_cases (λ q ns. Ascends (Lt m) ns) ch b (insert_at sh own k.spot)
        (insert_ascends sh (Lt m) (λ x y z. lower_trans (item_in m x) (item_in m y) (item_in m z)) (λ a. lower_irr (item_in m a))
        m.cells k.spot (I.runs b k.in_range) (I.ascends b) (λ n i e. omega (arith, (I.member b n i).is_node)) k.low
        (λ j e h. k.high j (omega (arith, k.was)) h))
        (λ q h. I.ascends q);
    live = I.live;
    retired = λ n j l s. rw (retired_link n j l s) (I.retired n j l s);
    frozen = λ c n j v l s h. rw (retired_link n j l s) (ahead c n (m.cells (sh.buckets + n) / 2) (I.frozen c n j v l s h));
  }
    where
      old : (n : ℕ) → (n ≡ own) ⊎ In n (ch b) → Member sh m b n
      old n (inl e) = rw e (record { in_range = k.in_range; is_node = k.is_node; used = k.used; at_home = k.at_home })
      old n (inr i) = I.member b n i

      ahead : (c n q : ℕ) → (q ≡ sh.nodes) ⊎ Follows sh m ch c n q → (q ≡ sh.nodes) ⊎ Follows sh m (set_chain ch b (insert_at sh own k.spot)) c n q
      ahead c n q (inl e) = inl e
      ahead c n q (inr f) = inr (record { is_node = f.is_node; safe = link_safe c q f.safe; at_home = f.at_home; above = f.above })

-- UNLINK. What a search at 3 whose swap succeeds knows.
pub record Unlinking (sh : Shape) (m : View) (ch : Chains) (b left right seen : ℕ) : Type 0 where
  pub in_range : b < sh.buckets
  pub spot : Spot sh left b (ch b)
  pub was : m.cells left ≡ 2 * right
  pub is_node : right < sh.nodes
  pub link : m.cells (sh.buckets + right) ≡ seen
  pub marked : seen % 2 ≡ 1

abbrev pub unlinked : Shape → View → ℕ → ℕ → ℕ → View
unlinked sh m left right seen = update (field 7 right) (2 + m.started) (update (cell left) (2 * (seen / 2)) m)

module _ (sh : Shape) (m : View) (ch : Chains) (Live : ℕ → Type 0) (I : Lists sh m ch Live) (b left right seen : ℕ)
    (k : Unlinking sh m ch b left right seen) where
  pub edge : Edge sh left right b (ch b)
  edge = edge_of sh m.cells k.spot (I.runs b k.in_range) (omega (arith, k.was)) (λ e. omega (arith, k.is_node))

  ds : Once (ch b)
  ds = chain_distinct sh m (ch b) (I.ascends b)

  -- left was unmarked: a marked cell is not left
  pub marked_cell : (x : ℕ) → m.cells x % 2 ≡ 1 → (unlinked sh m left right seen).cells x ≡ m.cells x
  marked_cell x h =
      upd_other left x (2 * (seen / 2)) (m.cells x) (λ e. let z : 2 * right ≡ m.cells x = sym k.was ∙ ap m.cells e in omega arith)

  un_runs : (q : ℕ) → q < sh.buckets → Runs sh (unlinked sh m left right seen).cells q (set_chain ch b (remove_at sh edge) q)
  un_runs =
      set_cases (λ q ns. q < sh.buckets → Runs sh (unlinked sh m left right seen).cells q ns) ch b (remove_at sh edge)
      (λ l. remove_runs sh m.cells _ left right
      (rw (upd_same left left (2 * (seen / 2)) (m.cells left) refl, k.link) (omega arith))
      (λ x u. upd_other left x (2 * (seen / 2)) (m.cells x) (λ e. u (sym e)))
      edge (I.runs b l) (head_apart sh b (ch b) l) ds)
      (λ q h l. runs_frame sh m.cells _ (ch q) q q (I.runs q l)
      (ap (λ x. x / 2) (upd_other left q (2 * (seen / 2)) (m.cells q) (λ e. spot_not sh q k.spot h (head_apart sh q (ch b) l) (sym e))))
      (λ n i. upd_other left (sh.buckets + n) (2 * (seen / 2)) (m.cells (sh.buckets + n)) (λ e. spot_not sh (sh.buckets + n) k.spot
      (λ r. omega (arith, k.in_range))
      (λ j ij r. h (sym (I.member q n i).at_home ∙ ap (home sh m) (omega arith) ∙ (I.member b j ij).at_home)) (sym e))))

  -- a node that is not right keeps its standing
  pub un_standing : (n : ℕ) → n ≢ right → (unlinked sh m left right seen).standing n ≡ m.standing n
  un_standing n h = upd_other right n (2 + m.started) (m.standing n) (λ e. h (sym e))

  un_member : (q n : ℕ) → In n (set_chain ch b (remove_at sh edge) q) → Member sh (unlinked sh m left right seen) q n
  un_member q n = set_cases (λ q ns. In n ns → Member sh (unlinked sh m left right seen) q n) ch b (remove_at sh edge)
      (λ i. old b (removed_ne sh edge ds i) (I.member b n (in_remove sh edge i)))
      (λ q h i. old q (λ e. h (sym (I.member q n i).at_home ∙ ap (home sh m) e ∙ (I.member b right (edge_in sh edge)).at_home)) (I.member q n i)) q
    where
      old : (q : ℕ) → n ≢ right → Member sh m q n → Member sh (unlinked sh m left right seen) q n
      old q h x = record { in_range = x.in_range; is_node = x.is_node; used = un_standing n h ∙ x.used; at_home = x.at_home }

  right_marked : m.cells (sh.buckets + right) % 2 ≡ 1
  right_marked = rw k.link k.marked

  un_retired : (n j : ℕ) → n < sh.nodes → (unlinked sh m left right seen).standing n ≡ 2 + j
      → ((unlinked sh m left right seen).cells (sh.buckets + n) % 2 ≡ 1) × (j ≤ m.started)
  un_retired n j =
      upd_cases (λ n x. n < sh.nodes → x ≡ 2 + j → ((unlinked sh m left right seen).cells (sh.buckets + n) % 2 ≡ 1) × (j ≤ m.started)) m.standing right
      (2 + m.started)
      (λ l s. (rw (marked_cell (sh.buckets + right) right_marked) right_marked, omega arith))
      (λ n h l s. let x = I.retired n j l s in (rw (marked_cell (sh.buckets + n) x.0) x.0, x.1)) n

  pub un_in : (n q : ℕ) → In n (ch q) → n ≢ right → In n (set_chain ch b (remove_at sh edge) q)
  un_in n q = set_cases (λ q ns. In n (ch q) → n ≢ right → In n ns) ch b (remove_at sh edge) (remove_in sh edge) (λ q h i u. i) q

  right_used : m.standing right ≡ 1
  right_used = (I.member b right (edge_in sh edge)).used

  pub un_safe : (c n : ℕ) → c ≤ m.started → Safe sh m ch c n → Safe sh (unlinked sh m left right seen) (set_chain ch b (remove_at sh edge)) c n
  un_safe c n h (inl i) = go (eqb n right) refl
    where
      go : (t : Bool) → eqb n right ≡ t → Safe sh (unlinked sh m left right seen) (set_chain ch b (remove_at sh edge)) c n
      go true e = inr (m.started, upd_same right n (2 + m.started) (m.standing n) (sym (eqb-true n right e)), h)
      go false e = inl (un_in n (home sh m n) i (eqb-false n right e))
  un_safe c n h (inr (j, s, l)) = inr (j, un_standing n (λ e. let z : m.standing n ≡ 1 = ap m.standing e ∙ right_used in omega arith) ∙ s, l)

  -- before the step, of a node that is retired after it: it was marked, and its successor was as FROZEN says
  before_step : (c n j : ℕ) → Live c → n < sh.nodes → (unlinked sh m left right seen).standing n ≡ 2 + j → c ≤ j
      → (m.cells (sh.buckets + n) % 2 ≡ 1) × ((m.cells (sh.buckets + n) / 2 ≡ sh.nodes) ⊎ Follows sh m ch c n (m.cells (sh.buckets + n) / 2))
  before_step c n j v l s h =
      upd_cases (λ n x. n < sh.nodes → x ≡ 2 + j → (m.cells (sh.buckets + n) % 2 ≡ 1) × ((m.cells (sh.buckets + n) / 2 ≡ sh.nodes)
      ⊎ Follows sh m ch c n (m.cells (sh.buckets + n) / 2)))
      m.standing right (2 + m.started)
      (λ l s. (right_marked, safe_next sh m ch Live I c right v l (inl (rw (I.member b right (edge_in sh edge)).at_home (edge_in sh edge)))))
      (λ n u l s. ((I.retired n j l s).0, I.frozen c n j v l s h)) n l s

  un_frozen : (c n j : ℕ) → Live c → n < sh.nodes → (unlinked sh m left right seen).standing n ≡ 2 + j → c ≤ j
      → ((unlinked sh m left right seen).cells (sh.buckets + n) / 2 ≡ sh.nodes)
      ⊎ Follows sh (unlinked sh m left right seen) (set_chain ch b (remove_at sh edge)) c n ((unlinked sh m left right seen).cells (sh.buckets + n) / 2)
  un_frozen c n j v l s h =
      let x = before_step c n j v l s h in
      rw (marked_cell (sh.buckets + n) x.0) (go (m.cells (sh.buckets + n) / 2) x.1)
    where
      go : (q : ℕ) → (q ≡ sh.nodes) ⊎ Follows sh m ch c n q
          → (q ≡ sh.nodes) ⊎ Follows sh (unlinked sh m left right seen) (set_chain ch b (remove_at sh edge)) c n q
      go q (inl e) = inl e
      go q (inr f) = inr (record { is_node = f.is_node; safe = un_safe c q (I.live c v) f.safe; at_home = f.at_home; above = f.above })

  pub unlink_keeps : Lists sh (unlinked sh m left right seen) (set_chain ch b (remove_at sh edge)) Live
  unlink_keeps = record {
    runs = un_runs;
    member = un_member;
    ascends = set_cases (λ q ns. Ascends (Lt m) ns) ch b (remove_at sh edge)
        (remove_ascends sh (Lt m) (λ x y z. lower_trans (item_in m x) (item_in m y) (item_in m z)) (λ a. lower_irr (item_in m a)) edge (I.ascends b))
        (λ q h. I.ascends q);
    live = I.live;
    retired = un_retired;
    frozen = un_frozen;
  }
