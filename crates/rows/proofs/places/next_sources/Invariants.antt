use Rattle.rows.specs.Batches.{AreNodes}
use Rattle.rows.proofs.places.next_sources.Given as goal

abbrev pub invariant-loop-index : goal.invariant-loop-index
invariant-loop-index g l = record {
  nodes : AreNodes l.snapshot.nodes l.sources.items;
}
