-- The kind that a stage asks for, by one comparison: below 4 either, from there on an eighth of the stage. Assumes nothing.
use Rattle.std.specs.Prelude.{◌≡◌, refl, Bool, true, false, ◌&&◌, ◌||◌, ℕ, ◌≤◌, ◌/◌, eqb, leb, ltb}
use Rattle.std.proofs.Math.Bool.{and-true}
use Rattle.std.proofs.Common.{arith, ltb-true, ltb-false, leb-true, le-leb}
use Rattle.std.proofs.lemmas.Bool.{lt-leb}
use Rattle.calendar.specs.rules.Ranges.{implies, between}

module _ (k kind : ℕ) where
  of_stage : k ≤ 13 → (ltb k 4 || eqb kind (k / 8)) ≡ (implies (between 4 7 k) (eqb kind 0) && implies (between 8 13 k) (eqb kind 1))
  of_stage h = go (ltb k 4) (ltb k 8) refl refl
    where
      go : (a b : Bool) → ltb k 4 ≡ a → ltb k 8 ≡ b
          → (ltb k 4 || eqb kind (k / 8)) ≡ (implies (between 4 7 k) (eqb kind 0) && implies (between 8 13 k) (eqb kind 1))
      go true b e f = let l = ltb-true k 4 e in rw (e, lt-leb 4 k l, lt-leb 8 k (omega (arith, l)))
      go false true e f =
          let g = ltb-false k 4 e in
          let l = ltb-true k 8 f in
          let z : k / 8 ≡ 0 = omega (arith, l) in
          rw (e, le-leb 4 k g, le-leb k 7 (omega (arith, l)), lt-leb 8 k l, z, and-true (eqb kind 0))
      go false false e f =
          let g = ltb-false k 8 f in
          let z : k / 8 ≡ 1 = omega (arith, g, h) in
          rw (e, le-leb 4 k (omega (arith, g)), lt-leb k 7 (omega (arith, g)), le-leb 8 k g, le-leb k 13 h, z)

  pub kind_by_stage : (leb k 13 && leb kind 1 && (ltb k 4 || eqb kind (k / 8)))
      ≡ (leb k 13 && leb kind 1 && implies (between 4 7 k) (eqb kind 0) && implies (between 8 13 k) (eqb kind 1))
  kind_by_stage = go (leb k 13) (leb kind 1) refl
    where
      go : (a b : Bool) → leb k 13 ≡ a
          → (a && b && (ltb k 4 || eqb kind (k / 8))) ≡ (a && b && implies (between 4 7 k) (eqb kind 0) && implies (between 8 13 k) (eqb kind 1))
      go true true e = of_stage (leb-true k 13 e)
      go true false e = refl
      go false b e = refl
