use Rattle.std.proofs.Common.{take}
use Rattle.rows.specs.Bounds.{IsBoundBy}
use Rattle.rows.proofs.bounds.bound_by.Given as goal

abbrev pub invariant-loop-row : goal.invariant-loop-row
invariant-loop-row l = IsBoundBy (take l.row-index l.view.network.landmarks) l.view.network l.source l.target l.bound
