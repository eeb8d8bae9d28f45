use Rattle.std.proofs.Common.{◌≡◌, take}
use Rattle.std.specs.Io.KnownBytes.{Appends}
use Rattle.printing.specs.Counting.{failed_writes, writer_of, IsSameWriter}
use Rattle.printing.specs.Nodes.{pair_lines}
use Rattle.printing.proofs.nodes.put_pairs.Given as goal

abbrev pub invariant-loop-index : goal.invariant-loop-index
invariant-loop-index g l = record {
  answered : Appends (g.W.Write.contents (writer_of l.initial.out)) (g.W.Write.contents (writer_of l.out)) (pair_lines (take l.index l.pairs) (take l.index l.replies));
  counts : failed_writes l.out ≡ failed_writes l.initial.out;
  same : IsSameWriter l.initial.out l.out;
}
