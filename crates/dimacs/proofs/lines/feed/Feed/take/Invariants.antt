use Rattle.std.proofs.Common.{length}
use Rattle.dimacs.proofs.Far.{Gone}
use Rattle.dimacs.proofs.lines.feed.Feed.take.Given as goal

abbrev pub invariant-loop-piece : goal.invariant-loop-piece
invariant-loop-piece g l = Gone g.T.TakeLines.judge g.T.TakeLines.has_taken g.T.TakeLines.COMMENT l.bytes l.rest l.initial.self l.self

abbrev pub decreases-loop-piece : goal.decreases-loop-piece
decreases-loop-piece g l = length l.rest
