use Rattle.std.proofs.Common.{take}
use Rattle.rows.specs.Bounds.{IsBoundBy}
use Rattle.rows.proofs.bounds.plain_bound.Given as goal

abbrev pub invariant-loop-landmark : goal.invariant-loop-landmark
invariant-loop-landmark l = IsBoundBy (take l.landmark-index l.network.landmarks) l.network l.source l.target l.bound
