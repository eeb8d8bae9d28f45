use Rattle.querytexts.proofs.Tabled.{rows_grow}
use Rattle.querytexts.proofs.tables.pairs_between.Goals as goal

pub loop-source-preserved : goal.loop-source-preserved
loop-source-preserved c = rows_grow c.args.sources.now c.args.targets.now c.loop-source.source-index _ _ _ c.loop-source-test.true c.loop-source.invariant c.in_ok-add_row.ensures
