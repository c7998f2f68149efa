-- A batch is run on a copy of the workers' records, and those that it holds at its end are stored back. Assumes nothing.
use Rattle.std.proofs.Common.{◌≡◌, ◌++◌, take, drop, replicate, length}
use Rattle.calendar.specs.rules.Ranges.{blank}
use Rattle.batch.specs.RecordsCounted.{counted_of}
use Rattle.wubraken.specs.Survey.{surveyed}
use Rattle.wubraken_batch.specs.LentBatch.{back_bound, batch_is}
use Rattle.wubraken_batch.proofs.wubraken_run_batch.Goals as goal

pub copy_back-requires : goal.copy_back-requires
copy_back-requires c =
    let a = c.args in
    let t = a.table.now in
    let out : c.copy_out-held.result ≡ take (surveyed a.shape (counted_of (length t))) t
    ++ drop (surveyed a.shape (counted_of (length t))) (replicate 64 blank) =
    rw (← c.records_counted-n.ensures, ← c.records_surveyed-k.ensures) c.copy_out-held.ensures in
    back_bound a.shape a.store.now t a.input.now a.out.now c.copy_out-held.result out c.run_held-r.result.held
    (rw (← c.records_counted-n.ensures) c.run_held-r.ensures.1)

pub returns : goal.returns
returns c =
    let a = c.args in
    let t = a.table.now in
    let r = c.run_held-r in
    let out : c.copy_out-held.result ≡ take (surveyed a.shape (counted_of (length t))) t
    ++ drop (surveyed a.shape (counted_of (length t))) (replicate 64 blank) =
    rw (← c.records_counted-n.ensures, ← c.records_surveyed-k.ensures) c.copy_out-held.ensures in
    batch_is a.shape a.store.now t a.input.now a.out.now c.copy_out-held.result out r.result r.new.store r.new.out
    (rw (← c.records_counted-n.ensures) r.ensures.0) (rw (← c.records_counted-n.ensures) r.ensures.1) c.copy_back.new.table c.copy_back.ensures
