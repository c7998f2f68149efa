-- `echogram::series::record_on` is one recording, by the grid. Assumes nothing.
use Rattle.std.proofs.Common.{◌≡◌, ◌∙◌, sym, ap, length, rules, arith}
use Rattle.echogram.specs.declared.grid.Grid.{Grid}
use Rattle.echogram.specs.Row.{record_answer, recorded}
use Rattle.echogram.specs.Refusals.{answer_of}
use Rattle.echogram.specs.Series.{recording}
use Rattle.echogram.specs.AtSlot.{add_answer, added_to}
use Rattle.echogram.proofs.Recorded.{limits_of, refused_14, by_its_slot, slot_left}
use Rattle.echogram.proofs.GridLaws.{past_end}
use Rattle.echogram.proofs.series.record_on.Goals as goal

past : (c : goal.After-from_residual)
    → (record_answer c.args.row.now.slots.now (recording c.args.grid.samples c.args.time c.args.energy) ≡ 14)
    × (recorded c.args.row.now.slots.now (recording c.args.grid.samples c.args.time c.args.energy) ≡ c.args.row.now.slots.now)
past c =
    let a = c.args in
    let row = a.row.now.slots.now in
    let l = limits_of a.grid.samples (length row) c.requires.0 in
    let end = ap (λ (g : Grid). g.end) c.requires.1 in
    refused_14 row (recording a.grid.samples a.time a.energy) c.requires.0
    (past_end a.time a.grid.samples (length row) l.a_sample (omega (arith, end, (c.in_err-slot.ensures).past.0)))

pub returns-in_err-slot-clause-answer : goal.returns-in_err-slot-clause-answer
returns-in_err-slot-clause-answer c =
    let fourteen : answer_of c.from_residual.result ≡ 14 = search rules in
    fourteen ∙ sym (past c).0

pub returns-in_err-slot-clause-row : goal.returns-in_err-slot-clause-row
returns-in_err-slot-clause-row c = sym (past c).1

pub returns-clause-answer : goal.returns-clause-answer
returns-clause-answer c =
    let a = c.args in
    let row = a.row.now.slots.now in
    c.add.ensures.answer ∙ ap (λ k. add_answer row k a.energy) (c.in_ok-slot.ensures).inside.1
    ∙ sym (by_its_slot row (recording a.grid.samples a.time a.energy) c.requires.0)

pub returns-clause-row : goal.returns-clause-row
returns-clause-row c =
    let a = c.args in
    let row = a.row.now.slots.now in
    c.add.ensures.row ∙ ap (λ k. added_to row k a.energy) (c.in_ok-slot.ensures).inside.1
    ∙ sym (slot_left row (recording a.grid.samples a.time a.energy) c.requires.0)
