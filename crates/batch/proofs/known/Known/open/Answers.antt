-- An opening is a record of the file: refused, or done.
use Rattle.std.proofs.Common.{sym, ap, ◌∙◌, ℕ, List, cond, eqb, ne_eqb}
use Rattle.std.proofs.Math.Path.{subst⁻¹}
use Rattle.std.proofs.lemmas.Result.{err_from_is_err_and}
use Rattle.arrival.specs.declared.Response.TheVariants.{Refused}
use Rattle.arrival.specs.Refusals.{number}
use Rattle.calendar.specs.rules.Opening.{open_store}
use Rattle.starts.proofs.Refusing.{some}
use Rattle.turn_file.specs.declared.Record.TheVariants.{Open}
use Rattle.batch.specs.OneRecord.{Does, holding}
use Rattle.batch.proofs.OneRecord.{small_shape, refused_open, did_open}
use Rattle.batch.proofs.known.Known.open.Goals as goal

pub returns-in_err-open_lent-clause-does : goal.returns-in_err-open_lent-clause-does
returns-in_err-open_lent-clause-does c =
    let a = c.args in
    let d = holding a.self.now a.table.now in
    let e = c.in_err-open_lent in
    let k = number e.field-0.0 in
    let same = e.ensures.opened ∙ ap (λ (m : ℕ). cond (eqb m 0) (open_store a.shape a.store.now) a.store.now) (sym e.ensures.refused)
    ∙ rw (ne_eqb k 0 (some _)) in
    let p = err_from_is_err_and c.from_residual.result c.from_residual.ensures.1 in
    rw (p.1, p.2, ne_eqb k 0 (some _))
    (subst⁻¹ (λ (s : List ℕ). Does (Open a.shape) d a.store.now (Refused k) d s) same
    (refused_open d a.store.now c.requires a.shape k e.ensures.refused (some _)))

pub clear-requires : goal.clear-requires
clear-requires c = small_shape (holding c.args.self.now c.args.table.now) c.args.store.now c.requires c.args.shape (sym c.in_ok-open_lent.ensures.refused)

pub returns-clause-does : goal.returns-clause-does
returns-clause-does c =
    let a = c.args in
    let k = c.in_ok-open_lent.ensures in
    let opens = k.opened ∙ ap (λ (m : ℕ). cond (eqb m 0) (open_store a.shape a.store.now) a.store.now) (sym k.refused) in
    did_open (holding a.self.now a.table.now) a.store.now c.requires a.shape (sym k.refused) _ opens _ c.clear.ensures _ c.greater-self.ensures
