use Rattle.store.proofs.Applied.{records_more, records_none}
use Rattle.store.proofs.opened.replay.apply_all.Goals as goal

pub returns-then-not-carried-clause-one_refused : goal.returns-then-not-carried-clause-one_refused
returns-then-not-carried-clause-one_refused c =
    λ e. records_none c.args.network.now c.loop-record.network c.args.records.now c.loop-record.record-index _ c.loop-record-test.true c.loop-record.invariant (c.in-Ok.ensures.refused c.if-not-carried.true)

pub loop-record-preserved : goal.loop-record-preserved
loop-record-preserved c =
    records_more c.args.network.now c.loop-record.network c.carry_out.new.network c.args.records.now c.loop-record.record-index _ c.loop-record-test.true c.loop-record.invariant (c.in-Ok.ensures.carried c.if-not-carried.false)
