-- The other changes keep the lists: a mark (11), a private node's link (4), starts, and a call's end. Assumes nothing.
use Rattle.std.specs.Prelude.{◌≡◌, refl, ◌≢◌, ◌⊎◌, ℕ, ◌+◌, ◌*◌, ◌/◌, ◌%◌, ◌≤◌, ◌<◌}
use Rattle.std.proofs.Common.{sym, ap, subst, inl, inr, arith}
use mathlib.Core.List.Memᴰ
use Rattle.arrival.specs.declared.Shape.{Shape}
use Rattle.laws.specs.Tests.{upd_other, upd_cases}
use Rattle.calendar.specs.rules.Layout.{word, cell}
use Rattle.calendar.specs.facts.Views.{View, update}
use Rattle.lists.specs.Chain.{In, runs_half, runs_frame}
use Rattle.lists.specs.LinkInvariant.{Chains, Follows, Lists}

-- MARK
module _ (sh : Shape) (m : View) (ch : Chains) (Live : ℕ → Type 0) (I : Lists sh m ch Live) (x seen : ℕ) (was : m.cells (sh.buckets + x) ≡ seen) where
  pub marked_half : (q : ℕ) → (update (cell (sh.buckets + x)) (2 * (seen / 2) + 1) m).cells q / 2 ≡ m.cells q / 2
  marked_half = upd_cases (λ q y. y / 2 ≡ m.cells q / 2) m.cells (sh.buckets + x) (2 * (seen / 2) + 1) (rw was (omega arith)) (λ q h. refl)

  marked_mark : (q : ℕ) → m.cells q % 2 ≡ 1 → (update (cell (sh.buckets + x)) (2 * (seen / 2) + 1) m).cells q % 2 ≡ 1
  marked_mark = upd_cases (λ q y. m.cells q % 2 ≡ 1 → y % 2 ≡ 1) m.cells (sh.buckets + x) (2 * (seen / 2) + 1) (λ h. omega arith) (λ q u h. h)

  pub mark_keeps : Lists sh (update (cell (sh.buckets + x)) (2 * (seen / 2) + 1) m) ch Live
  mark_keeps = record {
    runs = λ b l. runs_half sh m.cells _ (ch b) b b (I.runs b l) (marked_half b) (λ n i. marked_half (sh.buckets + n));
    member = I.member;
    ascends = I.ascends;
    live = I.live;
    retired = λ n k l s. let r = I.retired n k l s in (marked_mark (sh.buckets + n) r.0, r.1);
    frozen = λ c n k v l s h. subst (λ q. (q ≡ sh.nodes) ⊎ Follows sh m ch c n q) (sym (marked_half (sh.buckets + n))) (I.frozen c n k v l s h);
  }

-- A PRIVATE NODE'S LINK
pub private_keeps : (sh : Shape) (m : View) (ch : Chains) (Live : ℕ → Type 0) (x v : ℕ) → Lists sh m ch Live → m.standing x ≡ 1 → ((q : ℕ) → In x (ch q) → ⊥)
    → Lists sh (update (cell (sh.buckets + x)) v m) ch Live
private_keeps sh m ch Live x v I used out = record {
  runs = λ b l. runs_frame sh m.cells _ (ch b) b b (I.runs b l) (ap (λ y. y / 2) (same b (λ e. omega arith)))
      (λ n i. same (sh.buckets + n) (λ e. out b (Memᴰ.cast (omega arith) i)));
  member = I.member;
  ascends = I.ascends;
  live = I.live;
  retired = λ n k l s. rw (same (sh.buckets + n) (not_x n k s)) (I.retired n k l s);
  frozen = λ c n k w l s h. subst (λ q. (q / 2 ≡ sh.nodes) ⊎ Follows sh m ch c n (q / 2)) (sym (same (sh.buckets + n) (not_x n k s)))
      (I.frozen c n k w l s h);
}
  where
    same : (q : ℕ) → sh.buckets + x ≢ q → (update (cell (sh.buckets + x)) v m).cells q ≡ m.cells q
    same q h = upd_other (sh.buckets + x) q v (m.cells q) h

    not_x : (n k : ℕ) → m.standing n ≡ 2 + k → sh.buckets + x ≢ sh.buckets + n
    not_x n k s e = let z : x ≡ n = omega arith in omega (arith, ap m.standing z)

-- FEWER CALLS: a call's end
pub fewer_keeps : (sh : Shape) (m : View) (ch : Chains) (Live Live' : ℕ → Type 0) → ((c : ℕ) → Live' c → Live c) → Lists sh m ch Live → Lists sh m ch Live'
fewer_keeps sh m ch Live Live' h I =
    record {
      runs = I.runs;
      member = I.member;
      ascends = I.ascends;
      live = λ c v. I.live c (h c v);
      retired = I.retired;
      frozen = λ c n k v. I.frozen c n k (h c v);
    }

-- ONE MORE CALL: it has the number after `started`
pub more_keeps : (sh : Shape) (m : View) (ch : Chains) (Live : ℕ → Type 0) → Lists sh m ch Live
    → Lists sh (update (word 1) (m.started + 1) m) ch (λ c. Live c ⊎ (c ≡ m.started + 1))
more_keeps sh m ch Live I = record {
  runs = I.runs;
  member = I.member;
  ascends = I.ascends;
  live = λ c v. old c v;
  retired = λ n k l s. let r = I.retired n k l s in (r.0, omega (arith, r.1));
  frozen = λ c n k v l s h. froze c n k v l s h;
}
  where
    old : (c : ℕ) → Live c ⊎ (c ≡ m.started + 1) → c ≤ m.started + 1
    old c (inl v) = omega (arith, I.live c v)
    old c (inr e) = omega arith

    froze : (c n k : ℕ) → Live c ⊎ (c ≡ m.started + 1) → n < sh.nodes → m.standing n ≡ 2 + k → c ≤ k
        → (m.cells (sh.buckets + n) / 2 ≡ sh.nodes) ⊎ Follows sh m ch c n (m.cells (sh.buckets + n) / 2)
    froze c n k (inl v) l s h = I.frozen c n k v l s h
    froze c n k (inr e) l s h = absurd (omega (arith, (I.retired n k l s).1))
