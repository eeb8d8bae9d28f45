use Rattle.session_lines.proofs.Tabled.{source_more}
use Rattle.session_lines.proofs.asked_tables.Table.pairs.Goals as goal

pub loop-source-preserved : goal.loop-source-preserved
loop-source-preserved c = source_more _ _ c.loop-source.source-index _ _ _ c.loop-source-test.true c.loop-source.invariant c.in_ok-add_pairs.ensures
