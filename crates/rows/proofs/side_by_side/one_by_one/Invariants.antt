use Rattle.std.specs.Prelude.{All}
use Rattle.rows.specs.Batches.{IsRowOfOne}
use Rattle.rows.proofs.side_by_side.one_by_one.Given as goal

abbrev pub invariant-loop-source : goal.invariant-loop-source
invariant-loop-source l = record {
  rows : All (IsRowOfOne l.snapshot) l.rows.items;
}
