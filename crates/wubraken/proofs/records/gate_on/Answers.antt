-- `wubraken::records::gate_on`: refusals 1 to 4, by the flag. Assumes nothing.
use Rattle.std.proofs.Common.{sym, ap, ◌∙◌, length}
use Rattle.arrival.specs.Requests.{actor, is_whole}
use Rattle.admission.specs.Gate.{gate_of}
use Rattle.wubraken.proofs.LentGate.{flag_opens, gate_by}
use Rattle.wubraken.proofs.records.gate_on.Goals as goal

pub gate-requires : goal.gate-requires
gate-requires c = λ up. let a = c.args in flag_opens (is_whole a.request) a.shape a.store.now a.n a.near (sym c.flag_of-flag.ensures ∙ up)

pub returns : goal.returns
returns c =
    let a = c.args in
    gate_by _ _ _ _ _ _ _ _ c.flag_of-flag.ensures (c.gate.ensures
    ∙ ap (λ i. gate_of a.shape (length a.store.now) a.n i c.flag_of-flag.result) (c.worker.ensures ∙ ap actor c.action.ensures))
