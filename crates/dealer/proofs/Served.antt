-- Whom the dealer serves: the first worker after it that has a call in progress, and none is passed over on the way round.
--     after_below                the worker after any worker is a worker
--     served_busy                who is served is a worker with a call in progress
--     nth_after_lem                  which number that is
--     none_between               who is served is the first after the dealer: none between the two has a call in progress
--     all_ahead, none_ahead      every worker is among as many as there are, and none among 0
--     served_first               a worker with a call in progress is served, or comes nearer
--     somebody, idle_all         where one has a call in progress somebody is served; where nobody is, all are idle
-- Assumes nothing.
use Rattle.std.specs.Prelude.{◌≡◌, refl, List, Bool, true, false, cond, ◌⊎◌, ◌≢◌, ltb}
use Rattle.std.proofs.Common.{sym, ap, subst, ◌∙◌, inl, inr, arith, ltb-true, ltb-false, eqb-true}
use Prim.Native.Nat.{ℕ, zero, suc, ◌+◌, ◌<◌, ◌≤◌}
use Rattle.std.proofs.Math.Decide.{dec_lt, ℕ_discrete}
use Rattle.std.proofs.lemmas.Bool.{eqb-false}
use Rattle.std.proofs.lemmas.Bool.Decides.{nat_tests}
use Rattle.arrival.specs.declared.Shape.{Shape}
use Rattle.arrival.specs.declared.Worker.{Worker}
use Rattle.laws.specs.Tests.{never, is_false}
use Rattle.calendar.specs.rules.Ranges.{worker}
use Rattle.calendar.specs.rules.Reclaim.{in_progress}
use Rattle.dealer.specs.Dealing.{worker_after, first_busy_of, next_served, all_idle}
use Rattle.dealer.specs.Served.{nth_after, Round, FirstBusy, Ahead}

pub after_below : (sh : Shape) (n : ℕ) → 1 ≤ sh.workers → worker_after sh n < sh.workers
after_below sh n h = grind (arith, nat_tests)

-- ── who is served ──
busy_of : (sh : Shape) (t : List Worker) (k n : ℕ) → 1 ≤ sh.workers → first_busy_of sh t k n ≢ sh.workers
    → (first_busy_of sh t k n < sh.workers) × (in_progress (worker t (first_busy_of sh t k n)) ≡ true)
unfolding first_busy_of
busy_of sh t zero n h e = absurd (e refl)
busy_of sh t (suc k) n h e = go (in_progress (worker t (worker_after sh n))) refl e (busy_of sh t k (worker_after sh n) h)
  where
    go : (u : Bool) → in_progress (worker t (worker_after sh n)) ≡ u → cond u (worker_after sh n) (first_busy_of sh t k (worker_after sh n)) ≢ sh.workers
        → (first_busy_of sh t k (worker_after sh n) ≢ sh.workers
        → (first_busy_of sh t k (worker_after sh n) < sh.workers) × (in_progress (worker t (first_busy_of sh t k (worker_after sh n))) ≡ true))
        → (cond u (worker_after sh n) (first_busy_of sh t k (worker_after sh n)) < sh.workers)
        × (in_progress (worker t (cond u (worker_after sh n) (first_busy_of sh t k (worker_after sh n)))) ≡ true)
    go true f q rest = (after_below sh n h, f)
    go false f q rest = rest q

pub served_busy : (sh : Shape) (t : List Worker) (last : ℕ) → 1 ≤ sh.workers → all_idle sh t last ≡ false
    → (next_served sh t last < sh.workers) × (in_progress (worker t (next_served sh t last)) ≡ true)
served_busy sh t last h e = busy_of sh t sh.workers last h (eqb-false _ _ e)

round_on : (sh : Shape) (k n x : ℕ) → Round sh k (n + 1) x → Round sh (suc k) n x
round_on sh k n x (inl p) = inl (omega arith, omega arith)
round_on sh k n x (inr p) = inr (omega arith, omega arith)

round_over : (sh : Shape) (k n x : ℕ) → suc k ≤ sh.workers → n + 1 ≡ sh.workers → Round sh k 0 x → Round sh (suc k) n x
round_over sh k n x most e (inl p) = inr (omega arith, omega arith)
round_over sh k n x most e (inr p) = absurd (omega arith)

pub nth_after_lem : (sh : Shape) (k n : ℕ) → k ≤ sh.workers → n < sh.workers → Round sh k n (nth_after sh k n)
unfolding nth_after
nth_after_lem sh zero n most l = inl (omega arith, omega arith)
nth_after_lem sh (suc k) n most l =
    go (ltb (n + 1) sh.workers) refl (λ h. nth_after_lem sh k (n + 1) (omega arith) h) (nth_after_lem sh k 0 (omega arith) (omega arith))
  where
    go : (t : Bool) → ltb (n + 1) sh.workers ≡ t → (n + 1 < sh.workers → Round sh k (n + 1) (nth_after sh k (n + 1))) → Round sh k 0 (nth_after sh k 0)
        → Round sh (suc k) n (nth_after sh k (cond t (n + 1) 0))
    go true e on over = round_on sh k n (nth_after sh k (n + 1)) (on (ltb-true _ _ e))
    go false e on over = round_over sh k n (nth_after sh k 0) most (omega (arith, ltb-false (n + 1) sh.workers e)) over

first_of : (sh : Shape) (t : List Worker) (k n : ℕ) → first_busy_of sh t k n ≢ sh.workers → FirstBusy sh t k n (first_busy_of sh t k n)
unfolding first_busy_of nth_after
first_of sh t zero n e = absurd (e refl)
first_of sh t (suc k) n e = go (in_progress (worker t (worker_after sh n))) refl e (first_of sh t k (worker_after sh n))
  where
    go : (u : Bool) → in_progress (worker t (worker_after sh n)) ≡ u → cond u (worker_after sh n) (first_busy_of sh t k (worker_after sh n)) ≢ sh.workers
        → (first_busy_of sh t k (worker_after sh n) ≢ sh.workers → FirstBusy sh t k (worker_after sh n) (first_busy_of sh t k (worker_after sh n)))
        → FirstBusy sh t (suc k) n (cond u (worker_after sh n) (first_busy_of sh t k (worker_after sh n)))
    go true f q rest = record {
      place = 1;
      from_1 = omega arith;
      to_k = omega arith;
      is = refl;
      busy = f;
      idle_between = λ b l h. absurd (omega arith);
    }
    go false f q rest = let F = rest q in record {
      place = suc F.place;
      from_1 = omega arith;
      to_k = omega (arith, F.to_k);
      is = F.is;
      busy = F.busy;
      idle_between = between F;
    }
      where
        between : (F : FirstBusy sh t k (worker_after sh n) (first_busy_of sh t k (worker_after sh n))) (b : ℕ) → 1 ≤ b → b < suc F.place
            → in_progress (worker t (nth_after sh b n)) ≡ false
        between F zero l h = absurd (omega arith)
        between F (suc zero) l h = f
        between F (suc (suc b)) l h = F.idle_between (suc b) (omega arith) (omega arith)

-- NONE BETWEEN: on any table where somebody has a call in progress
pub none_between : (sh : Shape) (t : List Worker) (last : ℕ) → all_idle sh t last ≡ false → FirstBusy sh t sh.workers last (next_served sh t last)
none_between sh t last e = first_of sh t sh.workers last (eqb-false _ _ e)

pub all_ahead : (sh : Shape) (n x : ℕ) → x < sh.workers → Ahead sh sh.workers n x
all_ahead sh n x l = pick (dec_lt n x)
  where
    pick : Dec (n < x) → Ahead sh sh.workers n x
    pick (yes p) = inl (p, omega arith)
    pick (no p) = inr (omega arith)

pub none_ahead : (sh : Shape) (n x : ℕ) → n < sh.workers → Ahead sh 0 n x → ⊥
none_ahead sh n x l (inl p) = omega arith
none_ahead sh n x l (inr p) = omega arith

more_ahead : (sh : Shape) (k n x : ℕ) → Ahead sh k n x → Ahead sh (suc k) n x
more_ahead sh k n x (inl p) = inl (p.0, omega arith)
more_ahead sh k n x (inr p) = inr (omega arith)

-- one step on, x is among one fewer
closer : (sh : Shape) (k n x : ℕ) → n < sh.workers → x < sh.workers → (v : Bool) → ltb (n + 1) sh.workers ≡ v → x ≢ cond v (n + 1) 0
    → Ahead sh (suc k) n x → Ahead sh k (cond v (n + 1) 0) x
closer sh k n x hn hx true g d (inl p) = inl (omega arith, omega arith)
closer sh k n x hn hx true g d (inr p) = inr (omega arith)
closer sh k n x hn hx false g d (inl p) = absurd (omega (arith, ltb-false (n + 1) sh.workers g))
closer sh k n x hn hx false g d (inr p) = inl (omega arith, omega (arith, ltb-false (n + 1) sh.workers g))

nearer : (sh : Shape) (k n x : ℕ) → n < sh.workers → x < sh.workers → x ≢ worker_after sh n → Ahead sh (suc k) n x → Ahead sh k (worker_after sh n) x
nearer sh k n x hn hx d a = closer sh k n x hn hx (ltb (n + 1) sh.workers) refl d a

-- NOBODY IS PASSED OVER: x has a call in progress, and is among the k + 1 workers that follow n; it is served, or is among the k that follow who is.
module _ (sh : Shape) (t : List Worker) (x : ℕ) (isWorker : x < sh.workers) where
  abbrev Nearer : ℕ → ℕ → Type 0
  Nearer k j = (j < sh.workers) × ((j ≡ x) ⊎ Ahead sh k j x)

  wider : (k j : ℕ) → Nearer k j → Nearer (suc k) j
  wider k j (below, inl e) = (below, inl e)
  wider k j (below, inr a) = (below, inr (more_ahead sh k j x a))

  -- the very next is served, or the search goes on behind it, where x is not the very next
  by_next : (k n j : ℕ) → n < sh.workers → in_progress (worker t x) ≡ true → Ahead sh (suc k) n x → (x ≢ worker_after sh n → Nearer k j)
      → Nearer k (cond (in_progress (worker t (worker_after sh n))) (worker_after sh n) j)
  by_next k n j hn b a rest = go (in_progress (worker t (worker_after sh n))) refl (ℕ_discrete x (worker_after sh n))
    where
      go : (u : Bool) → in_progress (worker t (worker_after sh n)) ≡ u → Dec (x ≡ worker_after sh n) → Nearer k (cond u (worker_after sh n) j)
      go true f (yes d) = (after_below sh n (omega arith), inl (sym d))
      go true f (no d) = (after_below sh n (omega arith), inr (nearer sh k n x hn isWorker d a))
      go false f (yes d) = never (sym f ∙ ap (λ i. in_progress (worker t i)) (sym d) ∙ b)
      go false f (no d) = rest d

  nearer_of : (tries k n : ℕ) → k < tries → n < sh.workers → in_progress (worker t x) ≡ true → Ahead sh (suc k) n x → Nearer k (first_busy_of sh t tries n)
  unfolding first_busy_of
  nearer_of zero k n l hn b a = absurd (omega arith)
  nearer_of (suc tries) zero n l hn b a =
      by_next zero n (first_busy_of sh t tries (worker_after sh n)) hn b a
      (λ d. absurd (none_ahead sh (worker_after sh n) x (after_below sh n (omega arith)) (nearer sh zero n x hn isWorker d a)))
  nearer_of (suc tries) (suc k) n l hn b a =
      by_next (suc k) n (first_busy_of sh t tries (worker_after sh n)) hn b a
      (λ d. wider k _ (nearer_of tries k (worker_after sh n) (omega arith) (after_below sh n (omega arith)) b (nearer sh (suc k) n x hn isWorker d a)))

  pub served_first : (k last : ℕ) → k < sh.workers → last < sh.workers → in_progress (worker t x) ≡ true → Ahead sh (suc k) last x
      → (next_served sh t last < sh.workers) × ((next_served sh t last ≡ x) ⊎ Ahead sh k (next_served sh t last) x)
  served_first k last l h b a = nearer_of sh.workers k last l h b a

  -- so somebody is served where x has a call in progress
  pub somebody : (last : ℕ) → last < sh.workers → in_progress (worker t x) ≡ true → all_idle sh t last ≡ false
  somebody last h b = is_false (all_idle sh t last) (λ e. omega (arith, eqb-true (next_served sh t last) sh.workers e, below sh.workers refl))
    where
      below : (w : ℕ) → w ≡ sh.workers → next_served sh t last < sh.workers
      below zero e = absurd (omega arith)
      below (suc k) e = (served_first k last (omega arith) h b (subst (λ w. Ahead sh w last x) (sym e) (all_ahead sh last x isWorker))).0

pub idle_all : (sh : Shape) (t : List Worker) (last : ℕ) → last < sh.workers → all_idle sh t last ≡ true → (i : ℕ) → i < sh.workers
    → in_progress (worker t i) ≡ false
idle_all sh t last h e i l = is_false (in_progress (worker t i)) (λ b. never (sym (somebody sh t i l last h b) ∙ e))
