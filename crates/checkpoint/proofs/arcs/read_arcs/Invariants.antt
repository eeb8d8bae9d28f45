use Rattle.std.proofs.Common.{◌≡◌, ◌*◌, length}
use Rattle.std.specs.Prelude.{min, map}
use Rattle.std.specs.List.{AllByRecursion}
use Rattle.pages.specs.Spelling.{IsEnds, ends_of}
use Rattle.pagereader.specs.Runs.{IsRunOf}
use Rattle.pagereader.proofs.Unchanged.{HasRead}
use Rattle.checkpoint.proofs.SoFar.{EndsSoFar}
use Rattle.checkpoint.proofs.arcs.read_arcs.Given as goal

abbrev pub invariant-loop-i : goal.invariant-loop-i
invariant-loop-i g l = record {
  said : g.D.Disk.honest l.fn.disk → EndsSoFar (g.D.Disk.content l.fn.disk) l.header l.arcs.items l.i;
  fits : AllByRecursion (IsEnds l.header.nodes) (map ends_of l.arcs.items);
  count : length l.arcs.items ≡ min (511 * l.i) l.header.arcs;
  run : g.D.Disk.honest l.fn.disk → IsRunOf (g.D.Disk.content l.fn.disk) l.reader;
  read : HasRead g.D.Disk l.fn.disk l.disk;
}
