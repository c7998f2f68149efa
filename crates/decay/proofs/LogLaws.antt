-- L(r), the logarithms of the ratios: that they are the largest, and one test for all entries of a table.
--     log_largest                10^L(r) is at most r^100, and that of no greater number is; of every ratio but 0
--     log_is                     an entry that passes it is L(r)
--     logs_are                    the test of all entries, which is computed; carried to each of them, the table is the list of the L(r)
--     log_rises, log_most        a greater ratio has no lower one; that of 1,024 is 301
--     level_some, level_none     the level of a ratio, and of none
--     no_level_is_none           the mark is no level: those are at most 301
--     level_by_table             the level by the table
-- Assumes nothing.
use Rattle.std.specs.Prelude.{◌≡◌, refl, List, [], ◌∷◌, true, ◌&&◌, ◌≢◌, ℕ, suc, ◌+◌, ◌-◌, ◌^◌, ◌≤◌, ◌<◌, leb, ltb, length, get_or}
use Rattle.std.proofs.Common.{sym, ap, ◌∙◌, le_trans, lt_of_le_of_lt, le_of_suc-le-suc, arith, leb-true, le-leb, ltb-true, ne_eqb}
use Rattle.std.proofs.Math.Nat.{pow-le-pow_left, pow-le-pow_right, one-le-pow, pow-zero}
use Rattle.laws.specs.Tests.{parts, by_size}
use Rattle.laws.specs.Lists.{words_from, words_at}
use Rattle.laws.proofs.Searching.{last_holds, last_last}
use Rattle.decay.specs.Decay.{log_of, none, level_of}
use Rattle.decay.specs.Logs.{Largest, is_log, are_logs}

-- a greater power of ten is greater
above : (a b : ℕ) → 10 ^ a < 10 ^ b → a < b
above a b h = by_size a b (λ l. l) (λ l. absurd (omega (arith, pow-le-pow_right {n = 10} (omega arith) l)))

zeroth : (r : ℕ) → 1 ≤ r → leb (10 ^ 0) (r ^ 100) ≡ true
zeroth r some = le-leb (10 ^ 0) (r ^ 100) (omega (arith, one-le-pow 100 r some, pow-zero 10))

-- none is above 400
few : (r w : ℕ) → r ≤ 1024 → 10 ^ w ≤ r ^ 100 → w ≤ 400
few r w small h =
    let most : r ≤ 10000 = omega arith in
    let end : leb (10000 ^ 100) (10 ^ 400) && ltb (10 ^ 400) (10 ^ 401) ≡ true = refl in
    let (a, b) = parts (leb (10000 ^ 100) (10 ^ 400)) (ltb (10 ^ 400) (10 ^ 401)) end in
    let below = le_trans h (le_trans (pow-le-pow_left most 100) (leb-true (10000 ^ 100) (10 ^ 400) a)) in
    le_of_suc-le-suc (above w 401 (lt_of_le_of_lt below (ltb-true (10 ^ 400) (10 ^ 401) b)))

pub log_largest : (r : ℕ) → 1 ≤ r → r ≤ 1024 → Largest r (log_of r)
unfolding log_of
log_largest r some small = (
  leb-true _ (r ^ 100) (last_holds 400 (λ v. leb (10 ^ v) (r ^ 100)) (zeroth r some)),
  λ w h. last_last 400 (λ v. leb (10 ^ v) (r ^ 100)) w (few r w small h) (le-leb (10 ^ w) (r ^ 100) h),
)

pub log_is : (r v : ℕ) → 1 ≤ r → r ≤ 1024 → is_log r v ≡ true → v ≡ log_of r
log_is r v some small e =
    let (low, high) = parts (leb (10 ^ v) (r ^ 100)) (ltb (r ^ 100) (10 ^ suc v)) e in
    let up = (log_largest r some small).1 v (leb-true (10 ^ v) (r ^ 100) low) in
    let below = above (log_of r) (suc v) (omega (arith, (log_largest r some small).0, ltb-true (r ^ 100) (10 ^ suc v) high)) in
    omega arith

pub logs_are : (r : ℕ) (vs : List ℕ) → 1 ≤ r → r + length vs ≤ 1025 → are_logs r vs ≡ true → vs ≡ words_from log_of r (length vs)
unfolding words_from
logs_are r [] some small e = refl
logs_are r (v ∷ vs) some small e =
    let (here, behind) = parts (is_log r v) (are_logs (suc r) vs) e in
    let first = log_is r v some (omega arith) here in
    let others = logs_are (suc r) vs (omega arith) (omega arith) behind in
    (λ i. first i ∷ others i)

-- ── levels ──
pub log_rises : (r s : ℕ) → 1 ≤ r → r ≤ s → s ≤ 1024 → log_of r ≤ log_of s
log_rises r s some up small =
    let below = le_trans (log_largest r some (omega arith)).0 (pow-le-pow_left up 100) in
    (log_largest s (omega arith) small).1 (log_of r) below

pub log_most : log_of 1024 ≡ 301
log_most = sym (log_is 1024 301 (omega arith) (omega arith) refl)

pub level_some : (r : ℕ) → r ≢ 0 → level_of r ≡ log_of 1024 - log_of r
unfolding level_of
level_some r some = rw (ne_eqb r 0 some)

pub level_none : level_of 0 ≡ none
unfolding level_of
level_none = refl

pub no_level_is_none : (r : ℕ) → r ≢ 0 → (level_of r ≤ 301) × (level_of r ≢ none)
no_level_is_none r some =
    let low : level_of r ≤ 301 = omega (arith, level_some r some, log_most) in
    (low, λ e. omega arith)

pub level_by_table : (logs : List ℕ) (r : ℕ) → logs ≡ words_from log_of 1 1024 → r ≢ 0 → r ≤ 1024
    → (get_or logs (r - 1) 0 ≤ get_or logs 1023 0) × (get_or logs 1023 0 - get_or logs (r - 1) 0 ≡ level_of r)
level_by_table logs r table some small =
    let last : get_or logs 1023 0 ≡ log_of 1024 = ap (λ (l : List ℕ). get_or l 1023 0) table ∙ words_at log_of 1 1024 1023 (omega arith) in
    let place : 1 + (r - 1) ≡ r = omega arith in
    let entry : get_or logs (r - 1) 0 ≡ log_of r =
    ap (λ (l : List ℕ). get_or l (r - 1) 0) table ∙ words_at log_of 1 1024 (r - 1) (omega arith) ∙ ap log_of place in
    (omega (arith, log_rises r 1024 (omega arith) small (omega arith)), omega (arith, level_some r some))
