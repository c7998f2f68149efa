-- `echogram::recording::record` is one recording. Assumes nothing.
use Rattle.std.proofs.Common.{◌∙◌, sym, ap, rules}
use Rattle.echogram.specs.Row.{slot_of}
use Rattle.echogram.specs.AtSlot.{add_answer, added_to}
use Rattle.echogram.specs.Series.{recording}
use Rattle.echogram.proofs.Recorded.{refused_13, refused_14, by_its_slot, slot_left}
use Rattle.echogram.proofs.recording.record.Goals as goal

pub returns-then-is_outside : goal.returns-then-is_outside
returns-then-is_outside c =
    let out = sym c.is_outside.ensures ∙ c.if-is_outside.true in
    let (answer, left) = refused_13 c.args.row.now (recording c.args.slot_length c.args.time c.args.energy) out in
    (sym answer, sym left)

pub returns-then-row-slot : goal.returns-then-row-slot
returns-then-row-slot c =
    let limits = sym c.is_outside.ensures ∙ c.if-is_outside.false in
    let (answer, left) = refused_14 c.args.row.now (recording c.args.slot_length c.args.time c.args.energy) limits c.if-row-slot.true in
    (sym answer, sym left)

pub returns : goal.returns
returns c =
    let a = c.args in
    let r = recording a.slot_length a.time a.energy in
    let limits = sym c.is_outside.ensures ∙ c.if-is_outside.false in
    let opened = c.of.ensures.row in
    let answer = c.add.ensures.answer ∙ ap (λ u. add_answer u (slot_of r) a.energy) opened ∙ sym (by_its_slot a.row.now r limits) in
    let left = c.add.ensures.row ∙ ap (λ u. added_to u (slot_of r) a.energy) opened ∙ sym (slot_left a.row.now r limits) in
    (answer, rw (← left) (search rules))
