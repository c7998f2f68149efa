-- `decay::crossings::fall_to` goes on slot by slot, with what is left. Assumes nothing.
use Rattle.std.proofs.Common.{◌≡◌, ◌∙◌, sym, ap, length, arith, mul-le-mul}
use Rattle.decay.proofs.CrossingSearch.{left_most, one_more, slot_in_left, fallen}
use Rattle.decay.proofs.crossings.fall_to.Goals as goal

pub overflow_mul-rest : goal.overflow_mul-rest
overflow_mul-rest c = let low = left_most c.loop-slot.invariant in record { fits = omega (arith, mul-le-mul low low) }

pub returns-then-rest-limit : goal.returns-then-rest-limit
returns-then-rest-limit c = fallen c.loop-slot.invariant (λ _. omega arith)

pub overflow_sub-rest : goal.overflow_sub-rest
overflow_sub-rest c = slot_in_left c.loop-slot.invariant (omega arith)

pub loop-slot-preserved : goal.loop-slot-preserved
loop-slot-preserved c = one_more c.loop-slot.invariant (omega arith) (omega arith)

pub returns : goal.returns
returns c =
    let end : c.loop-slot.slot ≡ length c.args.row.now = omega (arith, c.loop-slot.invariant.in_row) in
    ap (λ k. record { slot = k; rest = c.loop-slot.rest }) (sym end) ∙ fallen c.loop-slot.invariant (λ l. absurd (omega arith))
