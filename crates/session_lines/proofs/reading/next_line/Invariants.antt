use Rattle.std.proofs.Common.{◌≡◌}
use Rattle.session_lines.proofs.Bytewise.{FarRead}
use Rattle.session_lines.proofs.reading.next_line.Given as goal

abbrev pub invariant-loop : goal.invariant-loop
invariant-loop g l = record {
  far : FarRead (g.I.Read.remaining l.initial.reader.reader.now) (g.I.Read.remaining l.reader.reader.now) l.line l.is_empty;
  failed : l.reader.failed ≡ l.initial.reader.failed;
  same : l.reader.reader.ghost_name ≡ l.initial.reader.reader.ghost_name;
}
