use Rattle.std.proofs.Common.{refl}
use Rattle.std.proofs.lemmas.Result.{err_from_is_err_and}
use Rattle.dimacs.specs.Lines.{fields}
use Rattle.scripts.proofs.ScriptGroups.{event_clean, takes_event, takes_fault, takes_nothing}
use Rattle.scripts.proofs.script_texts.EventLines.take_event.Goals as goal

pub returns-in-None-clause-takes : goal.returns-in-None-clause-takes
returns-in-None-clause-takes c earlier has =
    takes_nothing earlier c.args.self.now has (fields c.args.line.now) c.requires.no_bound.0 c.requires.no_bound.1 c.requires.outside (rw c.in-None.is at c.in_ok-read_line.ensures)

pub returns-then-not-keep-clause-takes : goal.returns-then-not-keep-clause-takes
returns-then-not-keep-clause-takes c earlier has =
    event_clean earlier c.args.self.now has (fields c.args.line.now) c.requires.no_bound.0 c.requires.no_bound.1 c.requires.outside c.in-Some.event (rw c.in-Some.is at c.in_ok-read_line.ensures)

pub returns-else-not-keep-clause-takes : goal.returns-else-not-keep-clause-takes
returns-else-not-keep-clause-takes c earlier has =
    takes_event earlier c.args.self.now has (fields c.args.line.now) c.requires.no_bound.0 c.requires.no_bound.1 c.requires.outside c.in-Some.event c.keep.new.self (rw c.in-Some.is at c.in_ok-read_line.ensures)
    (rw (c.keep.ensures.kept, c.if-not-keep.false) refl) c.keep.ensures.open

pub returns-in_err-read_line-clause-takes : goal.returns-in_err-read_line-clause-takes
returns-in_err-read_line-clause-takes c earlier has =
    let p = err_from_is_err_and c.from_residual.result c.from_residual.ensures.1 in
    rw (p.1, p.2) (takes_fault earlier c.args.self.now has (fields c.args.line.now) c.requires.no_bound.0 c.requires.no_bound.1 c.requires.outside _ c.in_err-read_line.ensures)
