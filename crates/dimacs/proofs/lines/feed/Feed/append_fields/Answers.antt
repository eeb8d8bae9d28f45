use Rattle.std.proofs.Common.{rules}
use Rattle.dimacs.specs.Overflow.{EndsInBlank}
use Rattle.dimacs.proofs.Remarks.{on_more, on_blanks}
use Rattle.dimacs.proofs.lines.feed.Feed.append_fields.Goals as goal

pub returns-then-ends_in_blank-clause-kept : goal.returns-then-ends_in_blank-clause-kept
returns-then-ends_in_blank-clause-kept g c =
    let ends : EndsInBlank c.args.self.now.kept.bytes.items = c.ends_in_blank.ensures (search rules) in
    on_blanks c.append.result g.T.TakeLines.COMMENT c.args.self.now.kept.bytes.items c.args.piece.now c.without_blanks.result.now _ ends c.without_blanks.ensures.blanks c.append.ensures.kept

pub returns-clause-kept : goal.returns-clause-kept
returns-clause-kept g c = on_more c.append-2.result g.T.TakeLines.COMMENT c.args.self.now.kept.bytes.items c.args.piece.now _ c.append-2.ensures.kept
