-- The unmarked nodes of the chains, counted.
--     unmarked_count, total                    of one chain; of the first b chains
--     unmarked_frame, total_frame          the same where no mark changes
--     unmarked_insert, unmarked_remove     one node more, or less
--     total_set                            another chain for one bucket
--     total_mark                           a node that is marked is one less
-- Assumes nothing.
use Rattle.std.specs.Prelude.{◌≡◌, List, [], ◌∷◌, ◌≢◌, ℕ, zero, suc, ◌+◌, ◌-◌, ◌%◌, ◌<◌}
use Rattle.std.proofs.Math.Path.{refl, ap}
use Rattle.std.proofs.Common.{sym, ◌∙◌, subst, arith}
use mathlib.Core.List.Memᴰ
use Rattle.std.proofs.Math.Decide.{ℕ_discrete}
use Rattle.arrival.specs.declared.Shape.{Shape}
use Rattle.laws.specs.Counting.{tally}
use Rattle.laws.proofs.Counting.{tally_with}
use Rattle.laws.specs.Lists.{Once}
use Rattle.lists.specs.Chain.{In, Spot, Edge, insert_at, remove_at}
use Rattle.lists.specs.LinkInvariant.{Chains, set_chain}

module _ (sh : Shape) where
  abbrev pub unmarked_count : (ℕ → ℕ) → List ℕ → ℕ
  unmarked_count c [] = 0
  unmarked_count c (n ∷ ns) = (1 - (c (sh.buckets + n) % 2)) + unmarked_count c ns

  abbrev pub total : (ℕ → ℕ) → Chains → ℕ → ℕ
  total c ch n = tally (unmarked_count c) ch n

  pub unmarked_frame : (c d : ℕ → ℕ) (ns : List ℕ) → ((n : ℕ) → In n ns → d (sh.buckets + n) % 2 ≡ c (sh.buckets + n) % 2)
      → unmarked_count d ns ≡ unmarked_count c ns
  unmarked_frame c d [] h = refl
  unmarked_frame c d (n ∷ ns) h = omega (arith, h n (Memᴰ.head refl), unmarked_frame c d ns (λ k j. h k (Memᴰ.tail j)))

  pub total_frame : (c d : ℕ → ℕ) (ch : Chains) (b : ℕ) → ((q n : ℕ) → q < b → In n (ch q) → d (sh.buckets + n) % 2 ≡ c (sh.buckets + n) % 2)
      → total d ch b ≡ total c ch b
  total_frame c d ch zero h = refl
  total_frame c d ch (suc b) h = omega (arith, unmarked_frame c d (ch b) (λ n. h b n (omega arith)), total_frame c d ch b (λ q n l. h q n (omega arith)))

  pub unmarked_insert : (c : ℕ → ℕ) {ℓ p : ℕ} {ns : List ℕ} (o : ℕ) (sp : Spot sh ℓ p ns)
      → unmarked_count c (insert_at sh o sp) ≡ (1 - (c (sh.buckets + o) % 2)) + unmarked_count c ns
  unfolding insert_at
  unmarked_insert c o (Spot.here e) = refl
  unmarked_insert c o (Spot.there sp) = omega (arith, unmarked_insert c o sp)

  pub unmarked_remove : (c : ℕ → ℕ) {ℓ r p : ℕ} {ns : List ℕ} (g : Edge sh ℓ r p ns)
      → unmarked_count c ns ≡ (1 - (c (sh.buckets + r) % 2)) + unmarked_count c (remove_at sh g)
  unfolding remove_at
  unmarked_remove c (Edge.here {ns = ns} e f) = ap (λ y. (1 - (c (sh.buckets + y) % 2)) + unmarked_count c ns) f
  unmarked_remove c (Edge.there g) = omega (arith, unmarked_remove c g)

  pub total_set : (c : ℕ → ℕ) (ch : Chains) (b : ℕ) (xs : List ℕ) (n : ℕ) → b < n
      → total c (set_chain ch b xs) n + unmarked_count c (ch b) ≡ total c ch n + unmarked_count c xs
  total_set c ch b xs n h = tally_with (unmarked_count c) ch b xs n h

  module _ (c d : ℕ → ℕ) (x : ℕ) (was : c (sh.buckets + x) % 2 ≡ 0) (is : d (sh.buckets + x) % 2 ≡ 1)
      (frame : (n : ℕ) → n ≢ x → d (sh.buckets + n) % 2 ≡ c (sh.buckets + n) % 2) where
    unmarked_mark : (ns : List ℕ) → Once ns → In x ns → unmarked_count c ns ≡ 1 + unmarked_count d ns
    unmarked_mark [] ds m = elim m [ ]
    unmarked_mark (n ∷ ns) ds (Memᴰ.head e) =
        omega (
          arith,
          ap (λ y. c (sh.buckets + y) % 2) e,
          ap (λ y. d (sh.buckets + y) % 2) e,
          unmarked_frame c d ns (λ k j. frame k (λ f. ds.0 k j (sym e ∙ sym f))),
        )
    unmarked_mark (n ∷ ns) ds (Memᴰ.tail j) = omega (arith, frame n (ds.0 x j), unmarked_mark ns ds.1 j)

    pub total_mark : (ch : Chains) (b : ℕ) → ((q : ℕ) → Once (ch q)) → In x (ch b) → ((q : ℕ) → In x (ch q) → q ≡ b) → (n : ℕ) → b < n
        → total c ch n ≡ 1 + total d ch n
    total_mark ch b ds j one zero h = absurd (omega arith)
    total_mark ch b ds j one (suc n) h = go (ℕ_discrete b n) (total_mark ch b ds j one n)
      where
        other : (q k : ℕ) → q ≢ b → In k (ch q) → d (sh.buckets + k) % 2 ≡ c (sh.buckets + k) % 2
        other q k u i = frame k (λ e. u (one q (subst (λ (y : ℕ). In y (ch q)) e i)))

        go : Dec (b ≡ n) → (b < n → total c ch n ≡ 1 + total d ch n) → unmarked_count c (ch n) + total c ch n ≡ 1 + (unmarked_count d (ch n) + total d ch n)
        go (yes e) ih =
            let here = unmarked_mark (ch n) (ds n) (subst (λ q. In x (ch q)) e j) in
            omega (arith, here, total_frame c d ch n (λ q k l i. other q k (λ f. omega arith) i))
        go (no u) ih = omega (arith, unmarked_frame c d (ch n) (λ k i. other n k (λ f. u (sym f)) i), ih (omega arith))
