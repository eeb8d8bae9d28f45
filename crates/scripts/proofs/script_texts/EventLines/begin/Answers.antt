use Rattle.std.proofs.Common.{refl}
use Rattle.dimacs.specs.Lines.{fields}
use Rattle.dimacs.proofs.GroupCodes.{blank, filled}
use Rattle.scripts.proofs.ScriptGroups.{begin_bad_line, begin_in_group, takes_begin}
use Rattle.scripts.proofs.script_texts.EventLines.begin.Goals as goal

pub returns-then-not-is_blank-clause-takes : goal.returns-then-not-is_blank-clause-takes
returns-then-not-is_blank-clause-takes c earlier has = begin_bad_line earlier c.args.self.now has (fields c.args.rest.now) (filled c.is_blank.result (fields c.args.rest.now) c.is_blank.ensures c.if-not-is_blank.true)

pub returns-in-Err-clause-takes : goal.returns-in-Err-clause-takes
returns-in-Err-clause-takes c earlier has =
    let refused = c.in-Err.ensures.refused in
    rw refused.0 (begin_in_group earlier c.args.self.now has (fields c.args.rest.now) (blank c.is_blank.result (fields c.args.rest.now) c.is_blank.ensures c.if-not-is_blank.false) refused.1)

pub returns-in-Ok-clause-takes : goal.returns-in-Ok-clause-takes
returns-in-Ok-clause-takes c earlier has =
    let ok = c.in-Ok.ensures.ok in
    takes_begin earlier c.args.self.now has (fields c.args.rest.now) (record { alloc = c.args.self.now.alloc; events = c.args.self.now.events; «open» = c.begin.new.self })
    (blank c.is_blank.result (fields c.args.rest.now) c.is_blank.ensures c.if-not-is_blank.false) ok.0 refl ok.1
