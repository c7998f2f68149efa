-- A put's start fills in a free node, and the lists keep. Assumes nothing.
use Rattle.std.specs.Prelude.{◌≡◌, refl, ◌≢◌, ◌⊎◌, ℕ, ◌+◌, ◌/◌, ◌%◌, ◌≤◌, ◌<◌}
use Rattle.std.proofs.Common.{sym, ap, ◌∙◌, inl, inr, arith}
use Rattle.arrival.specs.declared.Shape.{Shape}
use Rattle.arrival.specs.declared.Item.{Item}
use Rattle.arrival.specs.Keys.{item_bucket}
use Rattle.laws.specs.Tests.{upd_same, upd_other, upd_cases}
use Rattle.calendar.specs.rules.Layout.{field}
use Rattle.calendar.specs.facts.Views.{View, update, item_in, Lt}
use Rattle.lists.specs.Chain.{In, ascends_map}
use Rattle.lists.specs.Knowledge.{Stable}
use Rattle.lists.specs.LinkInvariant.{Chains, home, Safe, Follows, Lists}

abbrev pub filled : ℕ → Item → View → View
filled x a m =
    update (field 7 x) 1 (update (field 5 x) a.distance (update (field 4 x) a.order (update (field 3 x) a.path (update (field 2 x) a.ticket
    (update (field 1 x) a.time m)))))

abbrev pub Free : View → (ℕ → Type 0) → ℕ → Type 0
Free m Live x = (m.standing x ≡ 0) ⊎ ((k : ℕ) × (m.standing x ≡ 2 + k) × ((c : ℕ) → Live c → k < c))

module _ (sh : Shape) (m : View) (ch : Chains) (Live : ℕ → Type 0) (I : Lists sh m ch Live) (x : ℕ) (a : Item) (free : Free m Live x) where
  pub not_used : m.standing x ≢ 1
  not_used e = go free
    where
      go : Free m Live x → ⊥
      go (inl z) = omega arith
      go (inr (k, z, f)) = omega arith

  pub not_in : (n b : ℕ) → In n (ch b) → x ≢ n
  not_in n b i e = not_used (ap m.standing e ∙ (I.member b n i).used)

  pub not_safe : (c n : ℕ) → Live c → Safe sh m ch c n → x ≢ n
  not_safe c n v (inl i) e = not_in n (home sh m n) i e
  not_safe c n v (inr (k, s, l)) e = go free
    where
      go : Free m Live x → ⊥
      go (inl z) = omega (arith, ap m.standing e)
      go (inr (j, z, f)) = omega (arith, ap m.standing e, f c v)

  pub key_same : (n : ℕ) → x ≢ n → item_in (filled x a m) n ≡ item_in m n
  key_same n h = λ i. record {
    time = upd_other x n a.time (m.time n) h i;
    path = upd_other x n a.path (m.path n) h i;
    order = upd_other x n a.order (m.order n) h i;
    distance = upd_other x n a.distance (m.distance n) h i;
    ticket = upd_other x n a.ticket (m.ticket n) h i;
  }

  standing_same : (n : ℕ) → x ≢ n → (filled x a m).standing n ≡ m.standing n
  standing_same n h = upd_other x n 1 (m.standing n) h

  safe_same : (c n : ℕ) → Live c → Safe sh m ch c n → Safe sh (filled x a m) ch c n
  safe_same c n v (inl i) = inl (rw (key_same n (not_in n (home sh m n) i)) i)
  safe_same c n v (inr (k, s, l)) = inr (k, standing_same n (not_safe c n v (inr (k, s, l))) ∙ s, l)

  pub begin_keeps : Lists sh (filled x a m) ch Live
  begin_keeps = record {
    runs = I.runs;
    member = λ b n i. let y = I.member b n i in let u = not_in n b i in
        record { in_range = y.in_range; is_node = y.is_node; used = standing_same n u ∙ y.used; at_home = ap (item_bucket sh) (key_same n u) ∙ y.at_home };
    ascends = λ b. ascends_map (Lt m) (Lt (filled x a m)) (ch b) (λ p q i j l. rw (key_same p (not_in p b i), key_same q (not_in q b j)) l) (I.ascends b);
    live = I.live;
    retired = λ n k. upd_cases (λ n y. n < sh.nodes → y ≡ 2 + k → (m.cells (sh.buckets + n) % 2 ≡ 1) × (k ≤ m.started)) m.standing x 1
        (λ l e. absurd (omega arith)) (λ n u. I.retired n k) n;
    frozen = λ c n k v l s h. froze c n k v l s h;
  }
    where
      froze : (c n k : ℕ) → Live c → n < sh.nodes → (filled x a m).standing n ≡ 2 + k → c ≤ k
          → (m.cells (sh.buckets + n) / 2 ≡ sh.nodes) ⊎ Follows sh (filled x a m) ch c n (m.cells (sh.buckets + n) / 2)
      froze c n k v l s h = go (m.cells (sh.buckets + n) / 2) (I.frozen c n k v l old h)
        where
          x_not_n : x ≢ n
          x_not_n e = omega (arith, upd_same x n 1 (m.standing n) e)

          old : m.standing n ≡ 2 + k
          old = sym (standing_same n x_not_n) ∙ s

          go : (q : ℕ) → (q ≡ sh.nodes) ⊎ Follows sh m ch c n q → (q ≡ sh.nodes) ⊎ Follows sh (filled x a m) ch c n q
          go q (inl e) = inl e
          go q (inr f) = let u = not_safe c q v f.safe in
              inr (record {
                is_node = f.is_node;
                safe = safe_same c q v f.safe;
                at_home = rw (key_same q u, key_same n x_not_n) f.at_home;
                above = rw (key_same q u, key_same n x_not_n) f.above;
              })

  pub begin_stable : (c : ℕ) → Live c → Stable sh m ch (filled x a m) ch c
  begin_stable c v = record {
    safe = λ n l s. record { still = safe_same c n v s; key = key_same n (not_safe c n v s); epoch = refl; marked = λ e. refl };
    private = λ n p. let u : x ≢ n = λ e. not_used (ap m.standing e ∙ p.used) in
        record {
          still = record {
            is_node = p.is_node;
            used = standing_same n u ∙ p.used;
            out = p.out;
            ticketed = ap (λ (y : Item). y.ticket) (key_same n u) ∙ p.ticketed;
          };
          key = key_same n u;
          link = refl;
        };
  }
