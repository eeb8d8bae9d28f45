use Rattle.std.proofs.Common.{rules, ◌≡◌, ◌∙◌, refl}
use Rattle.printing.specs.declared.done.Done.{Done}
use Rattle.rehearsals.proofs.BrokenOff.{broken_off_unmade, passing_counts, ended_counts, ended_rose_with}
use Rattle.rehearsals.proofs.TextsRun.{whole_run, early_run}
use Rattle.rehearsals.proofs.running.run_events_on.Goals as goal

pub returns-in-Err-clause-refused : goal.returns-in-Err-clause-refused
returns-in-Err-clause-refused g c honest empty = broken_off_unmade c.args.network.now c.args.journal_pages c.args.events.now _ c.in-Err.refusal (c.in-Err.ensures.refused honest empty)

pub returns-in-Err-clause-writes : goal.returns-in-Err-clause-writes
returns-in-Err-clause-writes g c honest empty = passing_counts Done c.in-Err.refusal _ _ (c.in-Err.ensures.refused honest empty) refl

pub returns-clause-failed : goal.returns-clause-failed
returns-clause-failed g c = ended_rose_with c.args.events.now _ c.in-Ok.run'.ended c.in-Some.refusal _ _ c.in-Some.is c.in-Ok.ensures.counted

pub returns-clause-writes : goal.returns-clause-writes
returns-clause-writes g c honest empty =
    ended_counts Done c.in-Ok.run'.ended c.in-Some.refusal _ _ c.in-Some.is (c.in-Ok.ensures.ended honest) (c.in_default-flush.ensures.fails.counts ∙ c.in_default.ensures.counts)

pub returns-in-None-clause-width : goal.returns-in-None-clause-width
returns-in-None-clause-width g c = c.by-done.ensures.width ∙ c.in-Ok.ensures.width

pub returns-in-None-clause-answered : goal.returns-in-None-clause-answered
returns-in-None-clause-answered g c honest =
    let list : c.deref.result.now ≡ c.in-Ok.run'.replies.items = search rules in
    let written = c.in_default.ensures.written in
    whole_run c.args.network.now c.args.journal_pages c.args.events.now c.in-Ok.run'.replies.items c.in-Ok.run'.ended _ _ _ (c.in-Ok.ensures.run honest) (rw list at written) c.in_default-flush.ensures.kept c.in-None.is

pub returns-clause-refused : goal.returns-clause-refused
returns-clause-refused g c honest empty =
    let list : c.deref.result.now ≡ c.in-Ok.run'.replies.items = search rules in
    let written = c.in_default.ensures.written in
    early_run c.args.network.now c.args.journal_pages c.args.events.now c.in-Ok.run'.replies.items c.in-Ok.run'.ended _ _ _ (c.in-Ok.ensures.run honest) (rw list at written) c.in_default-flush.ensures.kept
    c.in-Some.refusal c.in-Some.is (c.in-Ok.ensures.ended honest)
