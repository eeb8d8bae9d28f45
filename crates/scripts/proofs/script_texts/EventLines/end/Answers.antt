use Rattle.std.proofs.Common.{◌∙◌, refl}
use Rattle.dimacs.specs.Lines.{fields}
use Rattle.dimacs.proofs.GroupCodes.{blank, filled}
use Rattle.machine.specs.declared.events.Event.TheVariants.{Submit}
use Rattle.scripts.proofs.ScriptGroups.{end_bad_line, end_clean_line, end_refused, takes_end}
use Rattle.scripts.proofs.script_texts.EventLines.end.Goals as goal

pub returns-then-not-is_blank-clause-takes : goal.returns-then-not-is_blank-clause-takes
returns-then-not-is_blank-clause-takes c earlier has = end_bad_line earlier c.args.self.now has (fields c.args.rest.now) (filled c.is_blank.result (fields c.args.rest.now) c.is_blank.ensures c.if-not-is_blank.true)

pub returns-in-Err-clause-takes : goal.returns-in-Err-clause-takes
returns-in-Err-clause-takes c earlier has = end_refused earlier c.args.self.now has (fields c.args.rest.now) c.in-Err.code (blank c.is_blank.result (fields c.args.rest.now) c.is_blank.ensures c.if-not-is_blank.false) c.in-Err.ensures.refused

pub returns-then-not-keep-clause-takes : goal.returns-then-not-keep-clause-takes
returns-then-not-keep-clause-takes c earlier has =
    let ok = c.in-Ok.ensures.ok in
    end_clean_line earlier c.args.self.now has (fields c.args.rest.now) c.in-Ok.group (blank c.is_blank.result (fields c.args.rest.now) c.is_blank.ensures c.if-not-is_blank.false) ok.0 ok.1

pub returns-clause-takes : goal.returns-clause-takes
returns-clause-takes c earlier has =
    let ok = c.in-Ok.ensures.ok in
    takes_end earlier c.args.self.now has (fields c.args.rest.now) c.in-Ok.group (blank c.is_blank.result (fields c.args.rest.now) c.is_blank.ensures c.if-not-is_blank.false) ok.0 ok.1 c.keep.new.self (Submit c.in-Ok.group) refl
    (rw (c.keep.ensures.kept, c.if-not-keep.false) refl) (c.keep.ensures.open ∙ c.end.ensures.shut)
