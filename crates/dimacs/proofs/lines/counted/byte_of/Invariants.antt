use Rattle.std.specs.Io.KnownBytes.{Keeps}
use Rattle.dimacs.proofs.lines.counted.byte_of.Given as goal

abbrev pub invariant-loop : goal.invariant-loop
invariant-loop g l = record {
  kept : Keeps (g.R.Read.remaining l.initial.reader) (g.R.Read.remaining l.reader);
}
