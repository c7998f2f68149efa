-- A batch, what follows it and its last line make up the round.
use Rattle.turns.proofs.BetweenRounds.{round_left}
use Rattle.turns.proofs.one_round.Goals as goal

pub returns : goal.returns
returns c =
    let a = c.args in
    let r = round_left a.pool a.store.now a.ended a.bytes.now a.out.now c.run_batch-p.result _ _ _ _ _ c.run_batch-p.ensures.0
    c.follow-next.ensures c.close-to.ensures.0 c.close-to.ensures.1 in
    (r.0, c.run_batch-p.ensures.1, r.1, r.2)
