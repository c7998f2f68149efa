-- Promises 2 to 4, from what a take met.
--     passed_over, found_empty, two_apart, swapped_overlap     nothing earlier is passed over; empty means empty; two takes, and which may be swapped
-- Assumes nothing.
use Rattle.std.specs.Prelude.{◌≡◌, refl, ◌⊎◌, true, ℕ}
use Rattle.std.proofs.Common.{sym, ◌∙◌, subst, inl, inr, arith}
use mathlib.Core.List.{Memᴰ as Mem}
use Rattle.arrival.specs.declared.Shape.{Shape}
use Rattle.arrival.specs.declared.Item.{Item}
use Rattle.arrival.specs.Keys.{lower}
use Rattle.arrival.proofs.Keys.{lower_irr, lower_trans, lower_total}
use Rattle.arrival.proofs.QueueLaws.{lowest_none, lowest_least}
use Rattle.laws.specs.Tests.{never, by_size}
use Rattle.calendar.specs.rules.Operations.{Memory}
use Rattle.calendar.specs.rules.Ledger.{Ledger}
use Rattle.calendar.specs.rules.Linearizability.{EndedBefore, Correct}
use Rattle.taken_list.specs.Promises.{GoneToAnother, NothingPassedOver, EmptyMeansEmpty, TwoTakes, Swapped}
use Rattle.taken_list.proofs.LedgerLaws.{Lawful}
use Rattle.taken_list.proofs.OneTake.{MarkedByAnother, Met, met, met_taken, met_empty}

module _ (sh : Shape) (m : Memory) (L : Ledger) (C : Correct sh m L) (G : Lawful sh L) where
  -- what is not there another take has marked
  elsewhere : (d : ℕ) (x : Item) (M : Met sh m L C G d) → (Mem x M.items → ⊥)
      → Mem x M.items ⊎ MarkedByAnother L d x → GoneToAnother sh m L d x
  elsewhere d x M out (inl i) = absurd (out i)
  elsewhere d x M out (inr (e, u, k, n)) = (e, u, k, C.marked_kept e x k)

  pub passed_over : NothingPassedOver sh m L
  passed_over d x y before ((f, r), k) l =
      let M = met sh m L C G d f in
      elsewhere d x M (λ i. never (sym (lowest_least M.items y x (met_taken sh m L C G d y M k) i) ∙ l)) (M.there_or_marked x before)

  pub found_empty : EmptyMeansEmpty sh m L
  found_empty d x before f r =
      let M = met sh m L C G d f in
      elsewhere d x M (lowest_none M.items x (met_empty sh m L C G d M r)) (M.there_or_marked x before)

  -- no call ends before it starts
  ends_later : (c : ℕ) → EndedBefore L c c → ⊥
  ends_later c (s, e, l) = omega (arith, (G.ended c s e).0)

  pub two_apart : TwoTakes sh m L
  two_apart c d x y (s, e, l) ((f, r), k) ((f', r'), k') (t, e', l') =
      let M = met sh m L C G c f in
      go M (s, e, omega arith) (M.there_or_marked y (C.marked_put d y k', (t, e', omega arith)))
    where
      go : (M : Met sh m L C G c) → EndedBefore L c d → Mem y M.items ⊎ MarkedByAnother L c y → lower x y ≡ true
      go M apart (inl i) =
          lower_total y x (lowest_least M.items x y (met_taken sh m L C G c x M k) i)
          (λ t. ends_later c (subst (λ n. EndedBefore L c n) (sym (C.marked_once c d x y k k' (sym t))) apart))
      go M apart (inr (e, u, j, n)) = absurd (n (subst (λ z. EndedBefore L c z) (sym (C.marked_once e d y y j k' refl)) apart))

  pub swapped_overlap : Swapped sh m L
  swapped_overlap c d s x y e a b before l =
      by_size s d (λ h. absurd (lower_irr x (lower_trans x y x (two_apart c d x y (s, e, h) a b before) l))) (λ h. omega arith)
