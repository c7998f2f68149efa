-- The least ticket of a call in progress: one number that tells, for every retired node, whether it is free. Assumes nothing.
use Rattle.std.specs.Prelude.{◌≡◌, List, Bool, cond, not, ◌&&◌, ◌||◌, ℕ, zero, suc, ◌+◌, ◌-◌, ◌<◌, ◌≤◌, eqb, leb}
use Rattle.std.proofs.Math.Path.{refl}
use Rattle.std.proofs.Common.{sym, ap, ◌∙◌, arith}
use Rattle.std.proofs.Math.Bool.{true, false}
use Rattle.std.proofs.Math.Dec.{ltb}
use borrow.Author.Tests.{ltb-true, ltb-false, leb-true, leb-false, eqb-true, eqb-false, lt-ltb, le-ltb, le-leb, ne_eqb}
use Rattle.arrival.specs.declared.Shape.{Shape}
use Rattle.arrival.specs.declared.Worker.{Worker}
use Rattle.laws.specs.Counting.{every}
use Rattle.laws.proofs.Counting.{every_same}
use Rattle.calendar.specs.rules.Ranges.{worker}
use Rattle.calendar.specs.rules.Reclaim.{in_progress, started_by, is_free}

-- one record more
abbrev pub lower : ℕ → Worker → ℕ
lower low w = cond (in_progress w && ltb w.ticket low) w.ticket low

-- of the first n records; 2^32 where none is in progress
unfoldable pub least_ticket : List Worker → ℕ → ℕ
least_ticket t zero = 4294967296
least_ticket t (suc n) = lower (least_ticket t n) (worker t n)

-- a standing that is free if `low` is the least ticket in progress: unlinked before that call started, or no call is in progress
abbrev pub free_below : ℕ → ℕ → Bool
free_below low x = eqb x 0 || (leb 2 x && (ltb x (2 + low) || eqb low 4294967296))

pub lower_at_most : (low : ℕ) (w : Worker) → lower low w ≤ low
lower_at_most low w = go (in_progress w) (ltb w.ticket low) refl
  where
    go : (a b : Bool) → ltb w.ticket low ≡ b → cond (a && b) w.ticket low ≤ low
    go true true e = omega (arith, ltb-true w.ticket low e)
    go true false e = omega arith
    go false b e = omega arith

pub least_bound : (t : List Worker) (n : ℕ) → least_ticket t n ≤ 4294967296
unfolding least_ticket
least_bound t zero = omega arith
least_bound t (suc n) = omega (arith, lower_at_most (least_ticket t n) (worker t n), least_bound t n)

-- a test against the lower of two numbers
below_lower : (b : Bool) (y m l : ℕ) → ltb y (cond (b && ltb m l) m l) ≡ (ltb y l && not (b && leb m y))
below_lower true y m l = go (ltb m l) refl (ltb y l) refl (leb m y) refl
  where
    go : (u : Bool) → ltb m l ≡ u → (v : Bool) → ltb y l ≡ v → (x : Bool) → leb m y ≡ x → ltb y (cond u m l) ≡ (v && not x)
    go true e true f true g = le-ltb y m (leb-true m y g)
    go true e true f false g = lt-ltb y m (leb-false m y g)
    go true e false f x g = le-ltb y m (omega (arith, ltb-true m l e, ltb-false y l f))
    go false e true f true g = absurd (omega (arith, ltb-false m l e, ltb-true y l f, leb-true m y g))
    go false e true f false g = f
    go false e false f x g = f
below_lower false y m l = and_true (ltb y l)
  where
    and_true : (t : Bool) → t ≡ (t && true)
    and_true true = refl
    and_true false = refl

-- y is below the least ticket: no call in progress has a ticket of at most y
below_least : (t : List Worker) (n y : ℕ) → y < 4294967296 → ltb y (least_ticket t n) ≡ every n (λ i. not (started_by y (worker t i)))
unfolding least_ticket every
below_least t zero y h = lt-ltb y 4294967296 h
below_least t (suc n) y h =
    below_lower (in_progress (worker t n)) y (worker t n).ticket (least_ticket t n)
    ∙ ap (λ (u : Bool). u && not (started_by y (worker t n))) (below_least t n y h)

-- Where the tickets of calls in progress are below 2^32 the test by the least one is the test of "free", of any standing.
module _ (sh : Shape) (t : List Worker) (small : (i : ℕ) → i < sh.workers → (worker t i).ticket < 4294967296) where
  abbrev low : ℕ
  low = least_ticket t sh.workers

  abbrev none_by : ℕ → Bool
  none_by y = every sh.workers (λ i. not (started_by y (worker t i)))

  -- a number that all tickets are below is as good as 2^32 − 1
  past_all : (y : ℕ) → 4294967295 ≤ y → none_by 4294967295 ≡ none_by y
  past_all y h =
      every_same _ _ sh.workers (λ i l. ap (λ (b : Bool). not (in_progress (worker t i) && b))
      (le-leb (worker t i).ticket 4294967295 (omega (arith, small i l)) ∙ sym (le-leb (worker t i).ticket y (omega (arith, small i l)))))

  -- the least ticket is 2^32 where it is above 2^32 − 1
  at_most : ltb 4294967295 low ≡ eqb low 4294967296
  at_most = go (eqb low 4294967296) refl
    where
      go : (b : Bool) → eqb low 4294967296 ≡ b → ltb 4294967295 low ≡ b
      go true e = lt-ltb 4294967295 low (omega (arith, eqb-true low 4294967296 e))
      go false e = le-ltb 4294967295 low (omega (arith, eqb-false low 4294967296 e, least_bound t sh.workers))

  tested : (y : ℕ) → (ltb y low || eqb low 4294967296) ≡ none_by y
  tested y = go (ltb y 4294967296) refl
    where
      go : (b : Bool) → ltb y 4294967296 ≡ b → (ltb y low || eqb low 4294967296) ≡ none_by y
      go true e = let l = ltb-true y 4294967296 e in either_is (ltb y low) refl l ∙ below_least t sh.workers y l
        where
          either_is : (u : Bool) → ltb y low ≡ u → y < 4294967296 → (u || eqb low 4294967296) ≡ ltb y low
          either_is true f l = sym f
          either_is false f l = ne_eqb low 4294967296 (λ z. omega (arith, ltb-false y low f)) ∙ sym f
      go false e =
          let h = ltb-false y 4294967296 e in
          rw (le-ltb y low (omega (arith, least_bound t sh.workers))) (sym at_most ∙ below_least t sh.workers 4294967295 (omega arith)
          ∙ past_all y (omega arith))

  pub free_is : (x : ℕ) → free_below (least_ticket t sh.workers) x ≡ is_free sh t x
  unfolding is_free
  free_is x = go (leb 2 x) refl
    where
      less : 2 ≤ x → ltb x (2 + low) ≡ ltb (x - 2) low
      less two = pick (ltb (x - 2) low) refl
        where
          pick : (u : Bool) → ltb (x - 2) low ≡ u → ltb x (2 + low) ≡ u
          pick true e = lt-ltb x (2 + low) (omega (arith, ltb-true (x - 2) low e))
          pick false e = le-ltb x (2 + low) (omega (arith, ltb-false (x - 2) low e))

      go : (u : Bool) → leb 2 x ≡ u → (eqb x 0 || (u && (ltb x (2 + low) || eqb low 4294967296))) ≡ (eqb x 0 || (u && none_by (x - 2)))
      go true e = rw (less (leb-true 2 x e), tested (x - 2))
      go false e = refl
