use Rattle.std.proofs.Common.{◌≤◌, length}
use Rattle.dimacs.proofs.Fronts.{Passed}
use Rattle.dimacs.proofs.lines.line.overflows.Given as goal

abbrev pub invariant-loop-field : goal.invariant-loop-field
invariant-loop-field l = record {
  passed : Passed l.front l.rest l.before;
  few : l.before ≤ 16;
}

abbrev pub decreases-loop-field : goal.decreases-loop-field
decreases-loop-field l = length l.rest
