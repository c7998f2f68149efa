-- One ticket more is stored; in the end all are.
use Rattle.std.proofs.Common.{◌≡◌, ap, ◌∙◌, List, ℕ, ◌++◌, take, drop, replicate, slice_set, arith, rules}
use Rattle.calendar.specs.rules.Ranges.{blank}
use Rattle.batch.specs.Tickets.{tickets_of}
use Rattle.batch.proofs.TicketLaws.{tickets_more, tickets_all}
use Rattle.batch.proofs.tickets.tickets_of.Goals as goal

pub loop-i-preserved : goal.loop-i-preserved
unfolding blank
loop-i-preserved c =
    let l = c.loop-i in
    let t = c.args.table.now in
    ap (λ (ts : List ℕ). slice_set ts l.i c.lower_ticket.result) l.invariant
    ∙ ap (λ (x : ℕ). slice_set (take l.i (tickets_of t) ++ drop l.i (replicate 64 4294967296)) l.i x) c.lower_ticket.ensures
    ∙ tickets_more t l.i (replicate 64 4294967296) (omega (arith, c.told-table)) (omega arith)

pub returns : goal.returns
returns c =
    let l = c.loop-i in
    let t = c.args.table.now in
    let e : l.i ≡ 64 = omega arith in
    l.invariant
    ∙ ap (λ (k : ℕ). take k (tickets_of t) ++ drop k (replicate 64 4294967296)) e
    ∙ tickets_all t 64 (replicate 64 4294967296) c.told-table (search rules)
