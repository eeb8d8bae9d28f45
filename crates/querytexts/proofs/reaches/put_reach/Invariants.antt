use Rattle.std.proofs.Common.{◌≡◌, take}
use Rattle.std.specs.Io.KnownBytes.{Appends}
use Rattle.printing.specs.Counting.{failed_writes, writer_of, IsSameWriter}
use Rattle.querytexts.specs.Reach.{lines_of_reach}
use Rattle.querytexts.proofs.reaches.put_reach.Given as goal

abbrev pub invariant-loop-one : goal.invariant-loop-one
invariant-loop-one g l = record {
  written : Appends (g.W.Write.contents (writer_of l.initial.out)) (g.W.Write.contents (writer_of l.out)) (lines_of_reach l.reach (take l.one-index l.told));
  counts : failed_writes l.out ≡ failed_writes l.initial.out;
  same : IsSameWriter l.initial.out l.out;
}
