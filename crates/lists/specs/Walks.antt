-- The walk from a bucket's head meets its chain and comes to the end; what a chain holds unmarked. Assumes nothing.
use Rattle.std.specs.Prelude.{◌≡◌, Bool, not, ◌&&◌, ◌≢◌, length}
use Rattle.std.proofs.Math.Path.{refl, sym, subst}
use Rattle.std.proofs.Common.{ap, ◌∙◌}
use Rattle.std.proofs.Math.Bool.{true, false, cond}
use Rattle.std.proofs.Math.Option.{some}
use mathlib.Core.List.Memᴰ
use mathlib.Core.List.{List, [], ◌∷◌}
use Prim.Native.Nat.{ℕ, zero, suc, ◌+◌, ◌/◌, ◌%◌, ◌<◌}
use native.Mathlib.Omega.{arith}
use Rattle.std.proofs.Math.Dec.{eqb}
use borrow.Author.Tests.{eqb-true, eqb-false, eq-eqb, ne_eqb}
use Rattle.arrival.specs.declared.Shape.{Shape}
use Rattle.arrival.specs.declared.Item.{Item}
use Rattle.laws.specs.Tests.{never, parts}
use Rattle.laws.specs.Lists.{Once, once_below}
use Rattle.calendar.specs.rules.Layout.{link, item_at, is_marked}
use Rattle.calendar.specs.rules.Snapshot.{onto, nodes_from, bucket_list, same_item, unmarked_of}
use Rattle.calendar.specs.facts.Views.{view}
use Rattle.lists.specs.Chain.{In, Runs}
use Rattle.lists.specs.LinkInvariant.{Chains, chain_distinct, Lists}

-- ── the walk ──
module _ (sh : Shape) (s : List ℕ) where
  walk_runs : (fuel p : ℕ) (ns : List ℕ) → length ns < fuel → Runs sh (view sh s).cells p ns → ((n : ℕ) → In n ns → n < sh.nodes)
      → nodes_from sh s fuel p ≡ some ns
  unfolding nodes_from
  walk_runs zero p ns l r h = absurd (omega arith)
  walk_runs (suc fuel) p [] l r h = rw (eq-eqb ((view sh s).cells p / 2) sh.nodes r)
  walk_runs (suc fuel) p (n ∷ ns) l r h =
      let e : eqb ((view sh s).cells p / 2) sh.nodes
      ≡ false = ne_eqb ((view sh s).cells p / 2) sh.nodes (λ q. omega (arith, r.0, h n (Memᴰ.head refl))) in
      rw (e, r.0) (ap (onto n) (walk_runs fuel (sh.buckets + n) ns (omega arith) r.1 (λ m i. h m (Memᴰ.tail i))))

  -- A BUCKET'S LIST IS ITS CHAIN
  pub walk_meets : (ch : Chains) (Live : ℕ → Type 0) → Lists sh (view sh s) ch Live → (b : ℕ) → b < sh.buckets → bucket_list sh s b ≡ some (ch b)
  walk_meets ch Live I b l =
      let short = once_below sh.nodes (ch b) (chain_distinct sh (view sh s) (ch b) (I.ascends b)) (λ n i. (I.member b n i).is_node) in
      walk_runs (sh.nodes + 1) b (ch b) (omega arith) (I.runs b l) (λ n i. (I.member b n i).is_node)

  -- ── unmarked nodes that hold x ──
  pub same_item_lem : (x y : Item) → same_item x y ≡ true → x ≡ y
  same_item_lem x y e =
      let (e, ticket) = parts _ _ e in
      let (e, distance) = parts _ _ e in
      let (e, order) = parts _ _ e in
      let (time, path) = parts _ _ e in
      λ i. record {
        time = eqb-true x.time y.time time i;
        path = eqb-true x.path y.path path i;
        order = eqb-true x.order y.order order i;
        distance = eqb-true x.distance y.distance distance i;
        ticket = eqb-true x.ticket y.ticket ticket i;
      }

  item_same : (x : Item) → same_item x x ≡ true
  item_same x =
      rw (
        eq-eqb x.time x.time refl,
        eq-eqb x.path x.path refl,
        eq-eqb x.order x.order refl,
        eq-eqb x.distance x.distance refl,
        eq-eqb x.ticket x.ticket refl,
      )

  -- the test at one node
  holds_not : (x : Item) (n : ℕ) → ((view sh s).cells (sh.buckets + n) % 2 ≡ 0 → item_at sh s n ≢ x)
      → (not (is_marked (link sh s n)) && same_item (item_at sh s n) x) ≡ false
  holds_not x n h = go (is_marked (link sh s n)) refl (same_item (item_at sh s n) x) refl
    where
      clean : is_marked (link sh s n) ≡ false → (view sh s).cells (sh.buckets + n) % 2 ≡ 0
      clean e = omega (arith, eqb-false (link sh s n % 2) 1 e)

      go : (a : Bool) → is_marked (link sh s n) ≡ a → (b : Bool) → same_item (item_at sh s n) x ≡ b → (not a && b) ≡ false
      go true e b f = refl
      go false e false f = refl
      go false e true f = absurd (h (clean e) (same_item_lem (item_at sh s n) x f))

  holds_is : (x : Item) (n : ℕ) → (view sh s).cells (sh.buckets + n) % 2 ≡ 0 → item_at sh s n ≡ x
      → (not (is_marked (link sh s n)) && same_item (item_at sh s n) x) ≡ true
  holds_is x n c e = rw (ne_eqb (link sh s n % 2) 1 (λ q. omega arith)) (subst (λ y. same_item (item_at sh s n) y ≡ true) e (item_same (item_at sh s n)))

  pub unmarked_none : (x : Item) (ns : List ℕ) → ((n : ℕ) → In n ns → (view sh s).cells (sh.buckets + n) % 2 ≡ 0 → item_at sh s n ≢ x)
      → unmarked_of sh s x ns ≡ 0
  unfolding unmarked_of
  unmarked_none x [] h = refl
  unmarked_none x (n ∷ ns) h = rw (holds_not x n (h n (Memᴰ.head refl)), unmarked_none x ns (λ m i. h m (Memᴰ.tail i)))

  pub unmarked_once : (x : Item) (k : ℕ) (ns : List ℕ) → Once ns → In k ns → (view sh s).cells (sh.buckets + k) % 2 ≡ 0 → item_at sh s k ≡ x
      → ((n : ℕ) → In n ns → n ≢ k → item_at sh s n ≢ x) → unmarked_of sh s x ns ≡ 1
  unfolding unmarked_of
  unmarked_once x k [] d m c q h = elim m [ ]
  unmarked_once x k (n ∷ ns) d (Memᴰ.head e) c q h =
      let p : (not (is_marked (link sh s n)) && same_item (item_at sh s n) x)
      ≡ true = subst (λ y. (not (is_marked (link sh s y)) && same_item (item_at sh s y) x) ≡ true) e (holds_is x k c q) in
      rw (p, unmarked_none x ns (λ m i y. h m (Memᴰ.tail i) (λ z. d.0 m i (sym e ∙ sym z))))
  unmarked_once x k (n ∷ ns) d (Memᴰ.tail i) c q h =
      rw (holds_not x n (λ y. h n (Memᴰ.head refl) (d.0 k i)), unmarked_once x k ns d.1 i c q (λ m j. h m (Memᴰ.tail j)))

  -- some unmarked node of a list holds x where their count is not 0
  pub unmarked_there : (x : Item) (ns : List ℕ) → unmarked_of sh s x ns ≢ 0 → (n : ℕ) × In n ns × (is_marked (link sh s n) ≡ false) × (item_at sh s n ≡ x)
  unfolding unmarked_of
  unmarked_there x [] h = absurd (h refl)
  unmarked_there x (n ∷ ns) h = go (is_marked (link sh s n)) refl (same_item (item_at sh s n) x) refl h (unmarked_there x ns)
    where
      further : (k : ℕ) × In k ns × (is_marked (link sh s k) ≡ false) × (item_at sh s k ≡ x)
          → (k : ℕ) × In k (n ∷ ns) × (is_marked (link sh s k) ≡ false) × (item_at sh s k ≡ x)
      further (k, i, c, e) = (k, Memᴰ.tail i, c, e)

      go : (a : Bool) → is_marked (link sh s n) ≡ a → (b : Bool) → same_item (item_at sh s n) x ≡ b → cond (not a && b) 1 0 + unmarked_of sh s x ns ≢ 0
          → (unmarked_of sh s x ns ≢ 0 → (k : ℕ) × In k ns × (is_marked (link sh s k) ≡ false) × (item_at sh s k ≡ x))
          → (k : ℕ) × In k (n ∷ ns) × (is_marked (link sh s k) ≡ false) × (item_at sh s k ≡ x)
      go true e b f u rec = further (rec (λ q. u (omega arith)))
      go false e false f u rec = further (rec (λ q. u (omega arith)))
      go false e true f u rec = (n, Memᴰ.head refl, e, same_item_lem (item_at sh s n) x f)

  pub there_unmarked : (x : Item) (n : ℕ) (ns : List ℕ) → In n ns → is_marked (link sh s n) ≡ false → item_at sh s n ≡ x → unmarked_of sh s x ns ≢ 0
  unfolding unmarked_of
  there_unmarked x n [] m c q z = elim m [ ]
  there_unmarked x n (k ∷ ns) (Memᴰ.head e) c q z =
      let p : (not (is_marked (link sh s n)) && same_item (item_at sh s n) x) ≡ true = holds_is x n (omega (arith, eqb-false (link sh s n % 2) 1 c)) q in
      counted _ (subst (λ y. (not (is_marked (link sh s y)) && same_item (item_at sh s y) x) ≡ true) e p) z
    where
      counted : (b : Bool) → b ≡ true → cond b 1 0 + unmarked_of sh s x ns ≡ 0 → ⊥
      counted true f z = omega arith
      counted false f z = never f
  there_unmarked x n (k ∷ ns) (Memᴰ.tail i) c q z = there_unmarked x n ns i c q (omega arith)
