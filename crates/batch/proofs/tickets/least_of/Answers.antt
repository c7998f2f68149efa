-- The fold is the least, one by one.
use Rattle.std.proofs.Common.{rules, ◌≡◌, ◌∙◌, arith, take, ℕ, Bool, true, false, cond, ltb, min, ltb-true, ltb-false, refl}
use Rattle.std.specs.List.{fold}
use Rattle.batch.specs.Tickets.{least}
use Rattle.batch.proofs.TicketLaws.{least_folded, least_within}
use Rattle.batch.proofs.tickets.least_of.Goals as goal

-- the lesser of two tickets is std's
min_least : (low x : ℕ) → min low x ≡ least low x
min_least low x = go (ltb x low) refl
  where
    go : (b : Bool) → ltb x low ≡ b → min low x ≡ cond b x low
    go true e = let h = ltb-true x low e in omega arith
    go false e = let h = ltb-false x low e in omega arith

pub returns : goal.returns
returns c =
    let a = c.args in
    let folded : c.fold.result ≡ fold least 4294967296 (take a.n a.tickets.now) = search (rules, min_least) in
    let e = folded ∙ least_folded a.tickets.now a.n (omega (arith, c.told-tickets)) in
    (e, rw e (least_within a.tickets.now a.n))
