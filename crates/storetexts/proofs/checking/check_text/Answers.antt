use Rattle.std.proofs.Common.{refl}
use Rattle.storetexts.proofs.Judged.{opening_counts}
use Rattle.storetexts.proofs.Meanwhile.{counts_code}
use Rattle.storetexts.proofs.Checked.{unopened, memory_told, told_so, write_refused, write_memory, write_unwritten, write_counts, write_device}
use Rattle.storetexts.proofs.Fitting.{if_ok}
use Rattle.storetexts.proofs.checking.check_text.Goals as goal

pub returns-in-Err-clause-refused : goal.returns-in-Err-clause-refused
returns-in-Err-clause-refused g c = unopened (g.D.Disk.honest c.args.disk) (g.D.Disk.content c.args.disk) c.in-Err.refusal (c.in-Err.ensures.causes, c.in-Err.ensures.judged)

pub returns-in-Err-clause-order : goal.returns-in-Err-clause-order
returns-in-Err-clause-order g c honest = memory_told c.in-Err.refusal _ (c.in-Err.ensures.order honest)

pub returns-in-Err-clause-failed : goal.returns-in-Err-clause-failed
returns-in-Err-clause-failed g c = counts_code (Unit {0}) c.in-Err.refusal _ _ c.in-Err.ensures.counted

pub returns-in-Err-clause-writes : goal.returns-in-Err-clause-writes
returns-in-Err-clause-writes g c = record { writes = opening_counts (Unit {0}) c.in-Err.refusal _ c.in-Err.ensures.causes; same = refl }

pub returns-clause-answered : goal.returns-clause-answered
returns-clause-answered g c = told_so c.put_standing-told.result (g.D.Disk.honest c.args.disk) (g.D.Disk.content c.args.disk) c.in-Ok.found.version c.in-Ok.found.standing _ _ c.in-Ok.ensures.stands c.put_standing-told.ensures.written

pub returns-clause-refused : goal.returns-clause-refused
returns-clause-refused g c = write_refused c.put_standing-told.result (g.D.Disk.honest c.args.disk) (g.D.Disk.content c.args.disk) c.in-Ok.found.version c.in-Ok.found.standing c.in-Ok.ensures.stands c.put_standing-told.ensures.refused

pub returns-clause-order : goal.returns-clause-order
returns-clause-order g c honest = write_memory c.put_standing-told.result _ c.put_standing-told.ensures.refused

pub returns-clause-failed : goal.returns-clause-failed
returns-clause-failed g c = write_device c.put_standing-told.result _ _ c.put_standing-told.ensures.refused c.in-Ok.ensures.counted

pub returns-clause-unwritten : goal.returns-clause-unwritten
returns-clause-unwritten g c = write_unwritten c.put_standing-told.result _ _ c.put_standing-told.ensures.refused

pub returns-clause-writes : goal.returns-clause-writes
returns-clause-writes g c = record { writes = write_counts c.put_standing-told.result _ _ c.put_standing-told.ensures.refused c.put_standing-told.ensures.counts; same = c.put_standing-told.ensures.same }

pub returns-clause-at_rest : goal.returns-clause-at_rest
returns-clause-at_rest g c honest = if_ok c.put_standing-told.result _ (c.in-Ok.ensures.at_rest honest)
