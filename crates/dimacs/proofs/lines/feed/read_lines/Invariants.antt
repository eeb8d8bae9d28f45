use Rattle.std.proofs.Common.{◌≡◌, ◌+◌, ◌-◌, ◌<◌, ◌^◌}
use Rattle.dimacs.specs.Turns.{FarFrom}
use Rattle.dimacs.proofs.lines.feed.read_lines.Given as goal

abbrev pub invariant-loop-feed : goal.invariant-loop-feed
invariant-loop-feed g l = record {
  far : FarFrom g.T.TakeLines.judge g.T.TakeLines.has_taken g.T.TakeLines.COMMENT (g.R.Read.remaining l.initial.counted.reader.now) (g.R.Read.remaining l.counted.reader.now) l.feed;
  room : l.feed.lines + l.feed.left < 2 ^ 64 - 1;
  until : l.feed.until_run ≡ l.until_run;
  failed : l.counted.failed ≡ l.initial.counted.failed;
  same : l.counted.reader.ghost_name ≡ l.initial.counted.reader.ghost_name;
}

abbrev pub decreases-loop-feed : goal.decreases-loop-feed
decreases-loop-feed g l = l.feed.left
