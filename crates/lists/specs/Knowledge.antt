-- What a call's record knows of the lists while it searches, that it is kept by any change that is `Stable` for the call,
-- and that linking and unlinking by another call are.
--     Private, Stands                             a put's own node before it is linked; a node that a call may stand on
--     Searches                                    what a search knows
--     spot_left, linking_at_5                     a swap of the left word acts inside the chain; at 5 it may link
--     Stable                                      what a change leaves to a call
--     link_stable, unlink_stable, mark_stable     other calls' links, unlinks and marks are stable
--     not_private, private_stable                 what is safe is nobody's private node; writing to one is stable
-- Assumes nothing.
use Rattle.std.specs.Prelude.{◌≡◌, refl, ◌≢◌, ◌⊎◌, ℕ, ◌+◌, ◌*◌, ◌/◌, ◌%◌, ◌≤◌, ◌<◌}
use Rattle.std.proofs.Common.{sym, ap, ◌∙◌, inl, inr, arith}
use mathlib.Core.List.Memᴰ
use Rattle.arrival.specs.declared.Shape.{Shape}
use Rattle.arrival.specs.declared.Worker.{Worker}
use Rattle.arrival.specs.Keys.{item_bucket}
use Rattle.laws.specs.Tests.{upd_other}
use Rattle.calendar.specs.rules.Layout.{cell, field}
use Rattle.calendar.specs.facts.Views.{View, update, item_in, Lt}
use Rattle.lists.specs.Chain.{In, Spot, here, spot_of, insert_at, remove_at, in_insert, in_remove, edge_in}
use Rattle.lists.specs.LinkInvariant.{Chains, set_chain, set_cases, home, Safe, Lists, Linking, Unlinking, unlinked, edge, link_safe, un_safe, un_standing}
use Rattle.lists.specs.LinkInvariant.{out_not_left, marked_cell}

-- n is a put's own before it is linked
abbrev pub Private : Shape → View → Chains → ℕ → ℕ → Type 0
Private sh m ch c n = record { is_node : n < sh.nodes; used : m.standing n ≡ 1; out : (q : ℕ) → In n (ch q) → ⊥; ticketed : m.ticket n ≡ c }

-- n is a node on which the call c may stand, of bucket b
abbrev pub Stands : Shape → View → Chains → ℕ → ℕ → ℕ → Type 0
Stands sh m ch c b n = record { is_node : n < sh.nodes; safe : Safe sh m ch c n; at_home : home sh m n ≡ b }

abbrev pub Searches : Shape → View → Chains → Worker → Type 0
Searches sh m ch w = record {
  range : w.bucket < sh.buckets;
  enqueue_own : w.kind ≡ 0 → w.stage ≤ 5 → Private sh m ch w.ticket w.own;
  dequeue_own : w.kind ≡ 1 → w.stage ≤ 3 → record {
    stands : Stands sh m ch w.ticket w.bucket w.own;
    marked : m.cells (sh.buckets + w.own) % 2 ≡ 1;
  };
  own_home : w.stage ≤ 5 → home sh m w.own ≡ w.bucket;
  left : 2 ≤ w.stage → w.stage ≤ 5
      → (w.left ≡ w.bucket) ⊎ ((k : ℕ) × (w.left ≡ sh.buckets + k) × Stands sh m ch w.ticket w.bucket k × Lt m k w.own);
  right : 2 ≤ w.stage → w.stage ≤ 5 → (w.right ≡ sh.nodes) ⊎ Stands sh m ch w.ticket w.bucket w.right;
  not_end : 2 ≤ w.stage → w.stage ≤ 3 → w.right ≢ sh.nodes;
  above : 4 ≤ w.stage → w.stage ≤ 5 → w.right ≢ sh.nodes → Lt m w.own w.right;
  at_three : w.stage ≡ 3 → record { is_node : w.right < sh.nodes; link : m.cells (sh.buckets + w.right) ≡ w.seen; marked : w.seen % 2 ≡ 1 };
  at_five : w.stage ≡ 5 → m.cells (sh.buckets + w.own) ≡ 2 * w.right;
}

-- A swap of the left word that succeeds acts inside the chain.
pub spot_left : (sh : Shape) (m : View) (ch : Chains) (Live : ℕ → Type 0) (w : Worker) (x : ℕ) → Lists sh m ch Live → Searches sh m ch w
    → 2 ≤ w.stage → w.stage ≤ 5 → m.cells w.left ≡ 2 * x → Spot sh w.left w.bucket (ch w.bucket)
spot_left sh m ch Live w x I k lo hi was = go (k.left lo hi)
  where
    inside : (j : ℕ) → w.left ≡ sh.buckets + j → Stands sh m ch w.ticket w.bucket j
        → In j (ch (home sh m j)) ⊎ ((i : ℕ) × (m.standing j ≡ 2 + i) × (w.ticket ≤ i)) → Spot sh w.left w.bucket (ch w.bucket)
    inside j e st (inl i) = rw e (spot_of sh (rw st.at_home at i))
    inside j e st (inr (i, s, h)) = absurd (omega (arith, (I.retired j i st.is_node s).0, ap m.cells e))

    go : (w.left ≡ w.bucket) ⊎ ((k : ℕ) × (w.left ≡ sh.buckets + k) × Stands sh m ch w.ticket w.bucket k × Lt m k w.own)
        → Spot sh w.left w.bucket (ch w.bucket)
    go (inl e) = here (sym e)
    go (inr (j, e, st, l)) = inside j e st st.safe

-- A put at 5 whose swap succeeds: what `link_keeps` asks.
pub linking_at_5 : (sh : Shape) (m : View) (ch : Chains) (Live : ℕ → Type 0) (w : Worker) → Lists sh m ch Live → Searches sh m ch w
    → w.stage ≡ 5 → w.kind ≡ 0 → m.cells w.left ≡ 2 * w.right → Linking sh m ch w.bucket w.left w.right w.own
linking_at_5 sh m ch Live w I k five put was =
    let p = k.enqueue_own put (omega arith) in
    record {
      in_range = k.range;
      spot = spot_left sh m ch Live w w.right I k (omega arith) (omega arith) was;
      was = was;
      link = k.at_five five;
      is_node = p.is_node;
      used = p.used;
      at_home = k.own_home (omega arith);
      private = p.out;
      low = low (k.left (omega arith) (omega arith));
      high = λ j e h. rw (← e) (k.above (omega arith) (omega arith) (λ q. h (sym e ∙ q)));
    }
  where
    low : (w.left ≡ w.bucket) ⊎ ((k : ℕ) × (w.left ≡ sh.buckets + k) × Stands sh m ch w.ticket w.bucket k × Lt m k w.own) → (j : ℕ)
        → w.left ≡ sh.buckets + j → Lt m j w.own
    low (inl e) j q = absurd (omega (arith, k.range))
    low (inr (i, e, st, l)) j q = let z : j ≡ i = omega arith in rw z l

-- STABLE: what a change by another call leaves to the call c.
abbrev pub Stable : Shape → View → Chains → View → Chains → ℕ → Type 0
Stable sh m ch m' ch' c = record {
  safe : (n : ℕ) → n < sh.nodes → Safe sh m ch c n
      → record {
        still : Safe sh m' ch' c n;
        key : item_in m' n ≡ item_in m n;
        epoch : m'.epoch n ≡ m.epoch n;
        marked : m.cells (sh.buckets + n) % 2 ≡ 1 → m'.cells (sh.buckets + n) ≡ m.cells (sh.buckets + n);
      };
  private : (n : ℕ) → Private sh m ch c n
      → record { still : Private sh m' ch' c n; key : item_in m' n ≡ item_in m n; link : m'.cells (sh.buckets + n) ≡ m.cells (sh.buckets + n) };
}

module _ (sh : Shape) (m : View) (ch : Chains) (m' : View) (ch' : Chains) (w : Worker) (h : Stable sh m ch m' ch' w.ticket) where
  pub stands : (b n : ℕ) → Stands sh m ch w.ticket b n → Stands sh m' ch' w.ticket b n
  stands b n x = let y = h.safe n x.is_node x.safe in record { is_node = x.is_node; safe = y.still; at_home = ap (item_bucket sh) y.key ∙ x.at_home }

  module _ (k : Searches sh m ch w) (kind : (w.kind ≡ 0) ⊎ (w.kind ≡ 1)) (stages : w.kind ≡ 1 → w.stage ≤ 3) where
    own_key : w.stage ≤ 5 → item_in m' w.own ≡ item_in m w.own
    own_key l = go kind
      where
        go : (w.kind ≡ 0) ⊎ (w.kind ≡ 1) → item_in m' w.own ≡ item_in m w.own
        go (inl e) = (h.private w.own (k.enqueue_own e l)).key
        go (inr e) = let x = (k.dequeue_own e (stages e)).stands in (h.safe w.own x.is_node x.safe).key

    right_stands : 2 ≤ w.stage → w.stage ≤ 5 → w.right ≢ sh.nodes → Stands sh m ch w.ticket w.bucket w.right
    right_stands l l' u = go (k.right l l')
      where
        go : (w.right ≡ sh.nodes) ⊎ Stands sh m ch w.ticket w.bucket w.right → Stands sh m ch w.ticket w.bucket w.right
        go (inl e) = absurd (u e)
        go (inr x) = x

    five : w.stage ≡ 5 → (w.kind ≡ 0) ⊎ (w.kind ≡ 1) → m'.cells (sh.buckets + w.own) ≡ 2 * w.right
    five e (inl z) = (h.private w.own (k.enqueue_own z (omega arith))).link ∙ k.at_five e
    five e (inr z) = absurd (omega (arith, stages z))

    pub searches_stable : Searches sh m' ch' w
    searches_stable = record {
      range = k.range;
      enqueue_own = λ e l. (h.private w.own (k.enqueue_own e l)).still;
      dequeue_own = λ e l. let x = k.dequeue_own e l in let y = h.safe w.own x.stands.is_node x.stands.safe in
          record { stands = stands w.bucket w.own x.stands; marked = rw (y.marked x.marked) x.marked };
      own_home = λ l. ap (item_bucket sh) (own_key l) ∙ k.own_home l;
      left = λ l l'. left' l' (k.left l l');
      right = λ l l'. right' (k.right l l');
      not_end = k.not_end;
      above = λ l l' u. let x = right_stands (omega arith) l' u in rw (own_key l', (h.safe w.right x.is_node x.safe).key) (k.above l l' u);
      at_three = λ e. let x = k.at_three e in let y = right_stands (omega arith) (omega arith) (λ q. omega (arith, x.is_node)) in
          record { is_node = x.is_node; link = (h.safe w.right y.is_node y.safe).marked (rw x.link x.marked) ∙ x.link; marked = x.marked };
      at_five = λ e. five e kind;
    }
      where
        left' : w.stage ≤ 5 → (w.left ≡ w.bucket) ⊎ ((k : ℕ) × (w.left ≡ sh.buckets + k) × Stands sh m ch w.ticket w.bucket k × Lt m k w.own)
            → (w.left ≡ w.bucket) ⊎ ((k : ℕ) × (w.left ≡ sh.buckets + k) × Stands sh m' ch' w.ticket w.bucket k × Lt m' k w.own)
        left' l (inl e) = inl e
        left' l (inr (j, e, st, lt)) = inr (j, e, stands w.bucket j st, rw ((h.safe j st.is_node st.safe).key, own_key l) lt)

        right' : (w.right ≡ sh.nodes) ⊎ Stands sh m ch w.ticket w.bucket w.right
            → (w.right ≡ sh.nodes) ⊎ Stands sh m' ch' w.ticket w.bucket w.right
        right' (inl e) = inl e
        right' (inr st) = inr (stands w.bucket w.right st)

-- LINK by another call is stable.
module _ (sh : Shape) (m : View) (ch : Chains) (Live : ℕ → Type 0) (I : Lists sh m ch Live) (b left right own : ℕ) (k : Linking sh m ch b left right own)
    (c : ℕ) (other : m.ticket own ≢ c) where
  pub link_stable : Stable sh m ch (update (cell left) (2 * own) m) (set_chain ch b (insert_at sh own k.spot)) c
  link_stable = record {
    safe = λ n l s. record {
      still = link_safe sh m ch Live I b left right own k c n s;
      key = refl;
      epoch = refl;
      marked = λ e. upd_other left (sh.buckets + n) (2 * own) (m.cells (sh.buckets + n)) (λ q. omega (arith, k.was, ap m.cells q));
    };
    private = λ n p. record {
      still = record {
        is_node = p.is_node;
        used = p.used;
        out = λ q. set_cases (λ q ns. In n ns → ⊥) ch b (insert_at sh own k.spot) (λ i. out' n p (in_insert sh k.spot i)) (λ q u. p.out q) q;
        ticketed = p.ticketed;
      };
      key = refl;
      link = upd_other left (sh.buckets + n) (2 * own) (m.cells (sh.buckets + n)) (out_not_left sh b (ch b) left n k.in_range k.spot (p.out b));
    };
  }
    where
      out' : (n : ℕ) → Private sh m ch c n → (n ≡ own) ⊎ In n (ch b) → ⊥
      out' n p (inl e) = other (ap m.ticket (sym e) ∙ p.ticketed)
      out' n p (inr i) = p.out b i

-- UNLINK by another call is stable.
module _ (sh : Shape) (m : View) (ch : Chains) (Live : ℕ → Type 0) (I : Lists sh m ch Live) (b left right seen : ℕ) (k : Unlinking sh m ch b left right seen)
    (c : ℕ) (live : Live c) where
  pub unlink_stable : Stable sh m ch (unlinked sh m left right seen) (set_chain ch b (remove_at sh (edge sh m ch Live I b left right seen k))) c
  unlink_stable = record {
    safe = λ n l s. record {
      still = un_safe sh m ch Live I b left right seen k c n (I.live c live) s;
      key = refl;
      epoch = refl;
      marked = marked_cell sh m ch Live I b left right seen k (sh.buckets + n);
    };
    private = λ n p. record {
      still = record {
        is_node = p.is_node;
        used = un_standing sh m ch Live I b left right seen k n (λ e. p.out b (Memᴰ.cast e (edge_in sh (edge sh m ch Live I b left right seen k)))) ∙ p.used;
        out = λ q. set_cases (λ q ns. In n ns → ⊥) ch b (remove_at sh (edge sh m ch Live I b left right seen k))
            (λ i. p.out b (in_remove sh (edge sh m ch Live I b left right seen k) i)) (λ q u. p.out q) q;
        ticketed = p.ticketed;
      };
      key = refl;
      link = upd_other left (sh.buckets + n) (2 * (seen / 2)) (m.cells (sh.buckets + n)) (out_not_left sh b (ch b) left n k.in_range k.spot (p.out b));
    };
  }

-- A MARK by another call is stable: it changes an unmarked link of a chain.
pub mark_stable : (sh : Shape) (m : View) (ch : Chains) (x seen c b : ℕ) → m.cells (sh.buckets + x) ≡ seen → seen % 2 ≡ 0 → In x (ch b)
    → Stable sh m ch (update (cell (sh.buckets + x)) (2 * (seen / 2) + 1) m) ch c
mark_stable sh m ch x seen c b was clean i = record {
  safe = λ n l s. record { still = s; key = refl; epoch = refl; marked = λ e. same n (λ q. omega (arith, ap (λ y. m.cells (sh.buckets + y)) q)) };
  private = λ n p. record { still = p; key = refl; link = same n (λ q. p.out b (Memᴰ.cast (sym q) i)) };
}
  where
    same : (n : ℕ) → x ≢ n → (update (cell (sh.buckets + x)) (2 * (seen / 2) + 1) m).cells (sh.buckets + n) ≡ m.cells (sh.buckets + n)
    same n h = upd_other (sh.buckets + x) (sh.buckets + n) (2 * (seen / 2) + 1) (m.cells (sh.buckets + n)) (λ e. h (omega arith))

-- what is safe for a call is nobody's private node
pub not_private : (sh : Shape) (m : View) (ch : Chains) (c d x : ℕ) → Private sh m ch d x → (n : ℕ) → Safe sh m ch c n → x ≢ n
not_private sh m ch c d x p n (inl i) e = p.out (home sh m n) (Memᴰ.cast e i)
not_private sh m ch c d x p n (inr (k, s, l)) e = omega (arith, ap m.standing e, p.used)

-- A PRIVATE NODE'S link and epoch (4), written by the call d, for another call c.
pub private_stable : (sh : Shape) (m : View) (ch : Chains) (c d x e v : ℕ) → c ≢ d → Private sh m ch d x
    → Stable sh m ch (update (cell (sh.buckets + x)) v (update (field 6 x) e m)) ch c
private_stable sh m ch c d x e v cd p = record {
  safe = λ n l s. record {
    still = s;
    key = refl;
    epoch = upd_other x n e (m.epoch n) (not_private sh m ch c d x p n s);
    marked = λ q. same n (not_private sh m ch c d x p n s);
  };
  private = λ n q. record { still = q; key = refl; link = same n (λ r. cd (sym q.ticketed ∙ ap m.ticket (sym r) ∙ p.ticketed)) };
}
  where
    same : (n : ℕ) → x ≢ n → (update (cell (sh.buckets + x)) v (update (field 6 x) e m)).cells (sh.buckets + n) ≡ m.cells (sh.buckets + n)
    same n h = upd_other (sh.buckets + x) (sh.buckets + n) v (m.cells (sh.buckets + n)) (λ r. h (omega arith))
