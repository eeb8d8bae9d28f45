use Rattle.std.proofs.Common.{arith}
use Rattle.store.proofs.Growing.{next_step_ok}
use Rattle.store.proofs.created.creation.put_header.Goals as goal

pub returns-clause-in_step : goal.returns-clause-in_step
returns-clause-in_step g c = λ h.
    let before = c.put.ensures.counts.honest.0 h in
    next_step_ok c.put.result (g.D.Disk.content c.args.disk.now) (g.D.Disk.content c.put.new.disk) c.args.batch.now c.put.new.self c.encode_header.result (c.requires.in_step before) (omega arith) (c.put.ensures.written before) c.put.ensures.next
