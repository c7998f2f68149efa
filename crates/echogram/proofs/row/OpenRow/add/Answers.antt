-- `echogram::row::OpenRow::add` adds to one slot, or answers 15. Assumes nothing.
use Rattle.std.proofs.Common.{sym, arith}
use Rattle.echogram.specs.AtSlot.{headroom_of}
use Rattle.echogram.proofs.AtSlot.{add_large, add_fits, slot_fits, sum_added}
use Rattle.echogram.proofs.row.OpenRow.add.Goals as goal

pub returns-then-self-energy-clause-answer : goal.returns-then-self-energy-clause-answer
returns-then-self-energy-clause-answer c =
    sym (add_large c.args.self.now.slots.now c.args.slot c.args.energy c.requires (omega (arith, c.args.self.now.known))).0

pub returns-then-self-energy-clause-row : goal.returns-then-self-energy-clause-row
returns-then-self-energy-clause-row c = sym (add_large c.args.self.now.slots.now c.args.slot c.args.energy c.requires (omega (arith, c.args.self.now.known))).1

pub overflow_add-self : goal.overflow_add-self
overflow_add-self c =
    let a = c.args in
    record { fits = omega (arith, slot_fits a.self.now.slots.now a.slot a.energy c.requires (omega (arith, a.self.now.known))) }

pub invariant_of-self : goal.invariant_of-self
unfolding headroom_of
invariant_of-self c =
    let a = c.args in
    record { known = omega (arith, a.self.now.known, sum_added a.self.now.slots.now a.slot a.energy c.requires) }

pub returns-clause-answer : goal.returns-clause-answer
returns-clause-answer c = sym (add_fits c.args.self.now.slots.now c.args.slot c.args.energy c.requires (omega (arith, c.args.self.now.known))).0

pub returns-clause-row : goal.returns-clause-row
returns-clause-row c = sym (add_fits c.args.self.now.slots.now c.args.slot c.args.energy c.requires (omega (arith, c.args.self.now.known))).1
