use Rattle.std.proofs.Common.{◌≡◌}
use Rattle.sessions.proofs.Going.{FarServed}
use Rattle.sessions.proofs.clients.serving.serve.Given as goal

abbrev pub invariant-loop : goal.invariant-loop
invariant-loop g l = record {
  far : FarServed (g.C.Copies.copying l.initial.terms.copies.now) l.initial.terms.last_line g.S.Naming.Naming.origin (g.I.Read.remaining l.initial.reader.reader.now) (g.I.Read.remaining l.reader.reader.now) (g.W.Write.contents l.initial.writer.writer.now) (g.W.Write.contents l.writer.writer.now) l.session;
  failed_reads : l.reader.failed ≡ l.initial.reader.failed;
  same_reader : l.reader.reader.ghost_name ≡ l.initial.reader.reader.ghost_name;
  failed_writes : l.writer.failed ≡ l.initial.writer.failed;
  same_writer : l.writer.writer.ghost_name ≡ l.initial.writer.writer.ghost_name;
}
