use Rattle.dimacs.specs.Lines.{fields}
use Rattle.dimacs.proofs.GroupCodes.{begin_bad, begin_within, blank, filled}
use Rattle.dimacs.proofs.GroupRows.{opened_is, takes_begin}
use Rattle.std.proofs.Common.{refl}
use Rattle.dimacs.proofs.commands.group_lines.GroupLines.begin.Goals as goal

pub returns-then-not-is_blank-clause-takes : goal.returns-then-not-is_blank-clause-takes
returns-then-not-is_blank-clause-takes c earlier has = begin_bad earlier c.args.self.now.open (opened_is earlier c.args.self.now has) (fields c.args.rest.now) (filled c.is_blank.result (fields c.args.rest.now) c.is_blank.ensures c.if-not-is_blank.true)

pub returns-in-Err-clause-takes : goal.returns-in-Err-clause-takes
returns-in-Err-clause-takes c earlier has =
    let refused = c.in-Err.ensures.refused in
    rw refused.0 (begin_within earlier c.args.self.now.open (opened_is earlier c.args.self.now has) (fields c.args.rest.now) (blank c.is_blank.result (fields c.args.rest.now) c.is_blank.ensures c.if-not-is_blank.false) refused.1)

pub returns-in-Ok-clause-takes : goal.returns-in-Ok-clause-takes
returns-in-Ok-clause-takes c earlier has =
    let ok = c.in-Ok.ensures.ok in
    takes_begin earlier c.args.self.now has (fields c.args.rest.now) (record { closed = c.args.self.now.closed; «open» = c.begin.new.self }) (blank c.is_blank.result (fields c.args.rest.now) c.is_blank.ensures c.if-not-is_blank.false) ok.0 refl ok.1
