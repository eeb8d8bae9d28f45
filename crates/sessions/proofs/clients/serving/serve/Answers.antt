use Rattle.std.proofs.Common.{◌∙◌, Ok, Option, ap, rules, refl, sym}
use Rattle.session_lines.specs.declared.lines.Line.{Line}
use Rattle.sessions.proofs.Going.{far_begun, far_quit, far_turned}
use Rattle.sessions.proofs.clients.serving.serve.Goals as goal

pub loop-init : goal.loop-init
loop-init g c = record {
  far = far_begun (g.C.Copies.copying c.args.terms.copies.now) c.args.terms.last_line g.S.Naming.Naming.origin _ _ c.new-session.result c.new-session.ensures.place c.new-session.ensures.receipts c.new-session.ensures.last c.new-session.ensures.group c.new-session.ensures.supposed;
  failed_reads = refl;
  same_reader = refl;
  failed_writes = refl;
  same_writer = refl;
}

pub loop-preserved : goal.loop-preserved
loop-preserved g c = record {
  far = far_turned g.W.Write.contents (g.C.Copies.copying c.args.terms.copies.now) c.args.terms.last_line g.S.Naming.Naming.origin _ _ _ _ _ _ _ _ c.in-Ok-Some.line (search rules) c.loop.invariant.far (search rules)
      (rw c.in_default.is at c.answer-told.ensures.told) c.answer-told.ensures.begins;
  failed_reads = search rules;
  same_reader = search rules;
  failed_writes = search rules;
  same_writer = search rules;
}

pub returns-then-is_quit-clause-answered : goal.returns-then-is_quit-clause-answered
returns-then-is_quit-clause-answered g c =
    far_quit (g.C.Copies.copying c.args.terms.copies.now) c.args.terms.last_line g.S.Naming.Naming.origin _ _ _ _ _ _ c.ended-then-is_quit.result c.in-Ok-Some.line c.next_line.result (tt {0}) c.ended-then-is_quit.ensures.place c.ended-then-is_quit.ensures.receipts (c.in-Ok-Some.is ∙ ap (λ (o : Option Line). Ok o) c.in-Ok-Some.field-0-is) (sym c.is_quit.ensures ∙ c.if-is_quit.true) c.loop.invariant.far c.next_line.ensures.line
