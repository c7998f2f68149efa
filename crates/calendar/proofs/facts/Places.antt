-- The places of the store: a write changes the place that it names and no other, and the places that the rules write lie in the layout.
--     read_write, length_write                   what is read after a write; a write keeps the length
--     word_inside, cell_inside, field_inside     the addresses lie in the layout
-- Assumes nothing.
use Rattle.std.specs.Prelude.{◌≡◌, refl, List, Bool, true, false, cond, ◌≢◌, ℕ, ◌+◌, ◌<◌, eqb, length, get_or, set}
use Rattle.std.proofs.Common.{sym, arith, length-set, get_or-set_same, get_or-set_other, eqb-true, eq-eqb, ltb-true}
use Rattle.std.proofs.lemmas.Bool.{eqb-false}
use Rattle.arrival.specs.declared.Shape.{Shape}
use Rattle.laws.specs.Tests.{never, parts, within}
use Rattle.calendar.specs.rules.Layout.{Place, word, cell, field, address, layout, read, write}
use Rattle.calendar.specs.facts.Places.{same, valid}

-- two places have one address only if they are the same
one_address : (sh : Shape) (p q : Place) → valid p ≡ true → valid q ≡ true → same p q ≡ false → address sh p ≢ address sh q
unfolding address
one_address sh (word j) (word k) vp vq e a = eqb-false j k e a
one_address sh (word j) (cell q) vp vq e a = omega (arith, ltb-true)
one_address sh (word j) (field g m) vp vq e a = omega (arith, ltb-true)
one_address sh (cell p) (word k) vp vq e a = omega (arith, ltb-true)
one_address sh (cell p) (cell q) vp vq e a = eqb-false p q e (omega arith)
one_address sh (cell p) (field g m) vp vq e a = omega (arith, within 1 7 g vq)
one_address sh (field f n) (word k) vp vq e a = omega (arith, ltb-true)
one_address sh (field f n) (cell q) vp vq e a = omega (arith, within 1 7 f vp)
one_address sh (field f n) (field g m) vp vq e a =
    let hf : f ≡ g = omega (arith, within 1 7 f vp, within 1 7 g vq) in
    let hn : n ≡ m = omega (arith, within 1 7 f vp, within 1 7 g vq) in
    never (sym (rw (eq-eqb f g hf, eq-eqb n m hn) at e))

same_address : (sh : Shape) (p q : Place) → same p q ≡ true → address sh p ≡ address sh q
unfolding address
same_address sh (word j) (word k) e = eqb-true j k e
same_address sh (word j) (cell q) e = never e
same_address sh (word j) (field g m) e = never e
same_address sh (cell p) (word k) e = never e
same_address sh (cell p) (cell q) e = rw (eqb-true p q e)
same_address sh (cell p) (field g m) e = never e
same_address sh (field f n) (word k) e = never e
same_address sh (field f n) (cell q) e = never e
same_address sh (field f n) (field g m) e =
    let (p, q) = parts (eqb f g) (eqb n m) e in
    cc (eqb-true f g p, eqb-true n m q)

-- ── what a write does ──
pub read_write : (sh : Shape) (s : List ℕ) (p q : Place) (v : ℕ) → valid p ≡ true → valid q ≡ true → address sh p < length s
    → read sh (write sh s p v) q ≡ cond (same p q) v (read sh s q)
unfolding read write
read_write sh s p q v vp vq h = go (same p q) refl
  where
    go : (t : Bool) → same p q ≡ t → get_or (set s (address sh p) v) (address sh q) 0 ≡ cond t v (get_or s (address sh q) 0)
    go true e = rw (← same_address sh p q e) (get_or-set_same s (address sh p) v 0 h)
    go false e = get_or-set_other s (address sh p) (address sh q) v 0 (λ a. one_address sh p q vp vq e (sym a))

pub length_write : (sh : Shape) (s : List ℕ) (p : Place) (v : ℕ) → length (write sh s p v) ≡ length s
unfolding write
length_write sh s p v = length-set s (address sh p) v

-- ── the places that the rules write lie in the layout ──
pub word_inside : (sh : Shape) (k : ℕ) → k < 3 → address sh (word k) < layout sh
unfolding address
word_inside sh k h = omega arith

pub cell_inside : (sh : Shape) (p : ℕ) → p < sh.buckets + sh.nodes → address sh (cell p) < layout sh
unfolding address
cell_inside sh p h = omega arith

pub field_inside : (sh : Shape) (f n : ℕ) → f < 8 → n < sh.nodes → address sh (field f n) < layout sh
unfolding address
field_inside sh f n h l = omega arith
