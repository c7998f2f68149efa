-- A look over the workers' records: whether all are in range, and the least ticket in progress of those before the first that is not. Assumes nothing.
use Rattle.std.specs.Prelude.{◌≡◌, List, Bool, cond, ◌&&◌, ltb, length, is_ok, Ok, Err, ◌-◌}
use Rattle.std.proofs.Math.Path.{refl, sym, ap}
use Rattle.std.proofs.Common.{◌∙◌, add-zero, add-suc, add-one, ltb-true, ltb-false}
use Rattle.std.proofs.Math.Bool.{true, false}
use Prim.Native.Nat.{ℕ, zero, suc, ◌+◌, ◌<◌, ◌≤◌}
use native.Mathlib.Omega.{arith}
use Rattle.arrival.specs.declared.Shape.{Shape}
use Rattle.arrival.specs.declared.Worker.{Worker}
use Rattle.arrival.specs.declared.Request.{Request}
use Rattle.laws.specs.Tests.{never, left_true}
use Rattle.laws.specs.Counting.{every}
use Rattle.laws.proofs.Counting.{every_at}
use Rattle.arrival.specs.Requests.{looks_at_all}
use Rattle.calendar.specs.rules.Ranges.{shape_in_range, record_in_range, table_in_range, worker}
use Rattle.starts.specs.LeastTicket.{lower, lower_at_most, least_ticket}
use Rattle.wubraken.specs.Survey.{Survey, unseen, seen, survey_of, surveyed, looked_at, survey, low_of, Surveyed}

pub surveyed_bound : (sh : Shape) (n : ℕ) → surveyed sh n ≤ n
surveyed_bound sh n = go (shape_in_range sh) (ltb n sh.workers) refl
  where
    go : (a b : Bool) → ltb n sh.workers ≡ b → cond a (cond b n sh.workers) 0 ≤ n
    go true true e = omega arith
    go true false e = ltb-false n sh.workers e
    go false b e = omega arith

-- where a record is looked at the shape is within its limits
pub surveyed_shape : (sh : Shape) (n k : ℕ) → k < surveyed sh n → shape_in_range sh ≡ true
surveyed_shape sh n k = go (shape_in_range sh) refl
  where
    go : (a : Bool) → shape_in_range sh ≡ a → k < cond a (cond (ltb n sh.workers) n sh.workers) 0 → shape_in_range sh ≡ true
    go true e h = e
    go false e h = absurd (omega arith)

-- and the worker exists
pub surveyed_worker : (sh : Shape) (n k : ℕ) → k < surveyed sh n → k < sh.workers
surveyed_worker sh n k = go (shape_in_range sh) (ltb n sh.workers) refl
  where
    go : (a b : Bool) → ltb n sh.workers ≡ b → k < cond a (cond b n sh.workers) 0 → k < sh.workers
    go true true e h = omega (arith, ltb-true n sh.workers e)
    go true false e h = h
    go false b e h = absurd (omega arith)

pub looked_at_bound : (sh : Shape) (q : Request) (n : ℕ) → looked_at sh q n ≤ surveyed sh n
looked_at_bound sh q n = go (looks_at_all q)
  where
    go : (b : Bool) → cond b (surveyed sh n) 0 ≤ surveyed sh n
    go true = omega arith
    go false = omega arith

module _ (sh : Shape) (w : Worker) where
  -- `seen` by its test, behind records in range
  abbrev seen_by : ℕ → Bool → Survey
  seen_by low b = cond b (Ok (lower low w)) (Err low)

  seen_ok : (a : Survey) → is_ok (seen sh a w) ≡ (is_ok a && record_in_range sh w)
  unfolding seen
  seen_ok (Ok low) = go (record_in_range sh w)
    where
      go : (b : Bool) → is_ok (seen_by low b) ≡ b
      go true = refl
      go false = refl
  seen_ok (Err low) = refl

  seen_low : (a : Survey) → is_ok (seen sh a w) ≡ true → low_of (seen sh a w) ≡ lower (low_of a) w
  unfolding seen
  seen_low (Ok low) = go (record_in_range sh w)
    where
      go : (b : Bool) → is_ok (seen_by low b) ≡ true → low_of (seen_by low b) ≡ lower low w
      go true ok = refl
      go false ok = never ok
  seen_low (Err low) = λ ok. never ok

  seen_bound : (a : Survey) → low_of (seen sh a w) ≤ low_of a
  unfolding seen
  seen_bound (Ok low) = go (record_in_range sh w)
    where
      go : (b : Bool) → low_of (seen_by low b) ≤ low
      go true = lower_at_most low w
      go false = omega arith
  seen_bound (Err low) = omega arith

  -- behind a record out of range it stays as it is
  seen_out : (a : Survey) → is_ok a ≡ false → a ≡ seen sh a w
  unfolding seen
  seen_out (Ok low) out = never (sym out)
  seen_out (Err low) out = refl

module _ (sh : Shape) (t : List Worker) where
  pub survey_ok : (n : ℕ) → is_ok (survey_of sh t n) ≡ every n (λ i. record_in_range sh (worker t i))
  unfolding survey_of unseen every
  survey_ok zero = refl
  survey_ok (suc n) = seen_ok sh (worker t n) (survey_of sh t n) ∙ ap (λ (b : Bool). b && record_in_range sh (worker t n)) (survey_ok n)

  pub survey_low : (n : ℕ) → is_ok (survey_of sh t n) ≡ true → low_of (survey_of sh t n) ≡ least_ticket t n
  unfolding survey_of unseen least_ticket
  survey_low zero ok = refl
  survey_low (suc n) ok =
      let before = left_true (is_ok (survey_of sh t n)) (record_in_range sh (worker t n)) (sym (seen_ok sh (worker t n) (survey_of sh t n)) ∙ ok) in
      seen_low sh (worker t n) (survey_of sh t n) ok ∙ ap (λ (l : ℕ). lower l (worker t n)) (survey_low n before)

  survey_bound : (n : ℕ) → low_of (survey_of sh t n) ≤ 4294967296
  unfolding survey_of unseen
  survey_bound zero = omega arith
  survey_bound (suc n) = omega (arith, seen_bound sh (worker t n) (survey_of sh t n), survey_bound n)

pub survey_tells : (sh : Shape) (q : Request) (t : List Worker) (i : ℕ) → i < surveyed sh (length t) → Surveyed sh q (survey sh q t) (worker t i)
survey_tells sh q t i h = record {
  shape = surveyed_shape sh (length t) i h;
  ranged = λ all ok. every_at _ (looked_at sh q (length t)) (sym (survey_ok sh t (looked_at sh q (length t))) ∙ ok) i (rw all h);
  low = survey_bound sh t (looked_at sh q (length t));
}

pub low_bound : (sh : Shape) (q : Request) (t : List Worker) → low_of (survey sh q t) ≤ 4294967296
low_bound sh q t = survey_bound sh t (looked_at sh q (length t))

-- Where nothing is looked at, nothing is out of range.
pub survey_none : (sh : Shape) (q : Request) (t : List Worker) → looks_at_all q ≡ false → is_ok (survey sh q t) ≡ true
unfolding survey_of unseen
survey_none sh q t e = rw e

-- With a table long enough all workers' records are looked at, if any.
module _ (sh : Shape) (q : Request) (t : List Worker) (inside : shape_in_range sh ≡ true) (long : ltb (length t) sh.workers ≡ false)
    (at_all : looks_at_all q ≡ true) where
  all : looked_at sh q (length t) ≡ sh.workers
  all = rw (at_all, inside, long)

  pub survey_ok_is : is_ok (survey sh q t) ≡ table_in_range sh t
  unfolding table_in_range
  survey_ok_is = survey_ok sh t (looked_at sh q (length t)) ∙ ap (λ (n : ℕ). every n (λ i. record_in_range sh (worker t i))) all

  pub survey_low_is : is_ok (survey sh q t) ≡ true → low_of (survey sh q t) ≡ least_ticket t sh.workers
  survey_low_is ok = survey_low sh t (looked_at sh q (length t)) ok ∙ ap (least_ticket t) all

-- ── for the loop ──
pub survey_start : (sh : Shape) (t : List Worker) → unseen ≡ survey_of sh t 0
unfolding survey_of
survey_start sh t = refl

pub survey_more : (sh : Shape) (t : List Worker) (k : ℕ) → seen sh (survey_of sh t k) (worker t k) ≡ survey_of sh t (k + 1)
unfolding survey_of
survey_more sh t k = rw add-one

pub survey_next : (sh : Shape) (t : List Worker) (k low : ℕ) → survey_of sh t k ≡ Ok low → survey_of sh t (k + 1) ≡ seen sh (Ok low) (worker t k)
survey_next sh t k low e = sym (survey_more sh t k) ∙ ap (λ (a : Survey). seen sh a (worker t k)) e

pub survey_ends : (sh : Shape) (t : List Worker) (k d : ℕ) → is_ok (survey_of sh t k) ≡ false → survey_of sh t k ≡ survey_of sh t (k + d)
unfolding survey_of
survey_ends sh t k zero out = rw add-zero
survey_ends sh t k (suc d) out =
    let so_far = survey_ends sh t k d out in
    rw add-suc (so_far ∙ seen_out sh (worker t (k + d)) (survey_of sh t (k + d)) (sym (ap (λ (a : Survey). is_ok a) so_far) ∙ out))

-- behind a record out of range it is what was found there
pub survey_out : (sh : Shape) (t : List Worker) (k n low least : ℕ) → survey_of sh t k ≡ Ok low → seen sh (Ok low) (worker t k) ≡ Err least → k < n
    → survey_of sh t n ≡ Err least
survey_out sh t k n low least e out lt =
    let there : survey_of sh t (k + 1) ≡ Err least = survey_next sh t k low e ∙ out in
    let is : k + 1 + (n - (k + 1)) ≡ n = omega arith in
    sym (survey_ends sh t (k + 1) (n - (k + 1)) (ap (λ (a : Survey). is_ok a) there) ∙ ap (survey_of sh t) is) ∙ there
