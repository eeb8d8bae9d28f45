use Rattle.std.proofs.Common.{◌≡◌, take, map}
use Rattle.std.specs.Io.KnownBytes.{Appends}
use Rattle.printing.specs.Counting.{failed_writes, writer_of, IsSameWriter}
use Rattle.printing.specs.Exports.{text_of, arc_row}
use Rattle.printing.proofs.exports.put_arc_rows.Given as goal

abbrev pub invariant-loop-arc : goal.invariant-loop-arc
invariant-loop-arc g l = record {
  written : Appends (g.W.Write.contents (writer_of l.initial.out)) (g.W.Write.contents (writer_of l.out)) (text_of (map arc_row (take l.arc-index l.arcs)));
  counts : failed_writes l.out ≡ failed_writes l.initial.out;
  same : IsSameWriter l.initial.out l.out;
}
