use Rattle.std.proofs.Common.{◌≡◌, ◌-◌, ◌*◌, take, drop, length}
use Rattle.std.specs.Prelude.{map, min}
use Rattle.std.specs.List.{AllByRecursion}
use Rattle.pages.specs.Spelling.{IsEnds, ends_of, word_of}
use Rattle.pagereader.specs.Runs.{IsRunOf}
use Rattle.pagereader.proofs.Unchanged.{HasRead}
use Rattle.checkpoint.proofs.SoFar.{LaidSoFar}
use Rattle.checkpoint.proofs.laid.read_laid.Given as goal

abbrev pub invariant-loop-i : goal.invariant-loop-i
invariant-loop-i g l = record {
  said : g.D.Disk.honest l.fn.disk → LaidSoFar (g.D.Disk.content l.fn.disk) l.header l.slot (length l.fn.arcs) l.arcs l.i;
  fits : AllByRecursion (IsEnds l.header.nodes) (map ends_of (take (min (511 * l.i) (length l.fn.arcs - l.header.arcs)) (drop l.header.arcs l.arcs)));
  count : length l.arcs ≡ length l.fn.arcs;
  first : map ends_of (take l.header.arcs l.arcs) ≡ map ends_of (take l.header.arcs l.fn.arcs);
  words : map word_of l.arcs ≡ map word_of l.fn.arcs;
  run : g.D.Disk.honest l.fn.disk → IsRunOf (g.D.Disk.content l.fn.disk) l.reader;
  read : HasRead g.D.Disk l.fn.disk l.disk;
}
