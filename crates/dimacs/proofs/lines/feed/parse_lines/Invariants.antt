use Rattle.std.proofs.Common.{◌+◌, ◌≤◌, length}
use Rattle.dimacs.proofs.Far.{SoFar}
use Rattle.dimacs.proofs.lines.feed.parse_lines.Given as goal

abbrev pub invariant-loop-line : goal.invariant-loop-line
invariant-loop-line g l = record {
  far : SoFar g.T.TakeLines.judge g.T.TakeLines.has_taken l.bytes l.rest l.lines l.taker;
  room : l.lines + length l.rest ≤ length l.bytes;
}

abbrev pub decreases-loop-line : goal.decreases-loop-line
decreases-loop-line g l = length l.rest
