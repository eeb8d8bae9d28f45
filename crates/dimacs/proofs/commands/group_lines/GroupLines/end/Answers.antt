use Rattle.std.proofs.Common.{refl}
use Rattle.dimacs.specs.Lines.{fields}
use Rattle.dimacs.proofs.GroupCodes.{blank, end_bad, end_clean, filled, not_ended}
use Rattle.dimacs.proofs.GroupRows.{opened_is, takes_end}
use Rattle.dimacs.proofs.commands.group_lines.GroupLines.end.Goals as goal

pub returns-then-not-is_blank-clause-takes : goal.returns-then-not-is_blank-clause-takes
returns-then-not-is_blank-clause-takes c earlier has = end_bad earlier c.args.self.now.open (opened_is earlier c.args.self.now has) (fields c.args.rest.now) (filled c.is_blank.result (fields c.args.rest.now) c.is_blank.ensures c.if-not-is_blank.true)

pub returns-in-Err-clause-takes : goal.returns-in-Err-clause-takes
returns-in-Err-clause-takes c earlier has =
    not_ended earlier c.args.self.now.open (opened_is earlier c.args.self.now has) (fields c.args.rest.now) (blank c.is_blank.result (fields c.args.rest.now) c.is_blank.ensures c.if-not-is_blank.false) c.in-Err.code c.in-Err.ensures.refused

pub returns-then-not-keep-clause-takes : goal.returns-then-not-keep-clause-takes
returns-then-not-keep-clause-takes c earlier has =
    let ok = c.in-Ok.ensures.ok in
    end_clean earlier c.args.self.now.open (opened_is earlier c.args.self.now has) (fields c.args.rest.now) c.in-Ok.group (blank c.is_blank.result (fields c.args.rest.now) c.is_blank.ensures c.if-not-is_blank.false) ok.0 ok.1.0

pub returns-clause-takes : goal.returns-clause-takes
returns-clause-takes c earlier has =
    let ok = c.in-Ok.ensures.ok in
    takes_end earlier c.args.self.now has (fields c.args.rest.now) c.in-Ok.group (record { closed = c.keep.new.closed; «open» = c.end.new.self }) (blank c.is_blank.result (fields c.args.rest.now) c.is_blank.ensures c.if-not-is_blank.false) ok.0 ok.1.0
    (rw (c.keep.ensures, c.if-not-keep.false) refl) c.end.ensures.shut
