use Rattle.std.proofs.Common.{◌≡◌, take}
use Rattle.std.specs.Io.KnownBytes.{Appends}
use Rattle.printing.specs.Counting.{failed_writes, writer_of, IsSameWriter}
use Rattle.querytexts.specs.Route.{routes_lines}
use Rattle.querytexts.proofs.walks.put_routes.Given as goal

abbrev pub invariant-loop-index : goal.invariant-loop-index
invariant-loop-index g l = record {
  answered : Appends (g.W.Write.contents (writer_of l.initial.out)) (g.W.Write.contents (writer_of l.out)) (routes_lines l.network (take l.index l.pairs) (take l.index l.replies));
  counts : failed_writes l.out ≡ failed_writes l.initial.out;
  same : IsSameWriter l.initial.out l.out;
}
