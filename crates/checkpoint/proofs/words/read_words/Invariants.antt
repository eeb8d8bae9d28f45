use Rattle.std.proofs.Common.{◌≡◌, ◌*◌, take, length}
use Rattle.std.specs.Prelude.{map, min}
use Rattle.std.specs.List.{AllByRecursion}
use Rattle.pages.specs.Spelling.{IsWord, ends_of, word_of}
use Rattle.pagereader.specs.Runs.{IsRunOf}
use Rattle.pagereader.proofs.Unchanged.{HasRead}
use Rattle.checkpoint.proofs.SoFar.{WordsSoFar}
use Rattle.checkpoint.proofs.words.read_words.Given as goal

abbrev pub invariant-loop-i : goal.invariant-loop-i
invariant-loop-i g l = record {
  said : g.D.Disk.honest l.fn.disk → WordsSoFar (g.D.Disk.content l.fn.disk) l.header l.slot (length l.fn.arcs) l.arcs l.i;
  fits : AllByRecursion IsWord (map word_of (take (min (1023 * l.i) (length l.fn.arcs)) l.arcs));
  count : length l.arcs ≡ length l.fn.arcs;
  ends : map ends_of l.arcs ≡ map ends_of l.fn.arcs;
  run : g.D.Disk.honest l.fn.disk → IsRunOf (g.D.Disk.content l.fn.disk) l.reader;
  read : HasRead g.D.Disk l.fn.disk l.disk;
}
