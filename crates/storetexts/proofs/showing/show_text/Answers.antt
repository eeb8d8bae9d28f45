use Rattle.std.proofs.Common.{◌∙◌, inl, ap, sym, subst, refl}
use Rattle.disk.specs.Contents.{Only}
use Rattle.roadnet.specs.declared.refusals.Refusal.TheVariants.{OutOfMemory}
use Rattle.storetexts.proofs.Checked.{memory_told, write_memory, write_unwritten, write_counts, write_device}
use Rattle.storetexts.proofs.Fitting.{fits, if_ok}
use Rattle.storetexts.proofs.Judged.{opening_counts, unopened_of_device}
use Rattle.storetexts.proofs.Meanwhile.{counts_code}
use Rattle.storetexts.proofs.Shown.{unopened, shown_so, write_refused}
use Rattle.storetexts.proofs.showing.show_text.Goals as goal

pub returns-in-Err-clause-refused : goal.returns-in-Err-clause-refused
returns-in-Err-clause-refused g c = unopened (g.D.Disk.honest c.args.disk) (g.D.Disk.content c.args.disk) c.in-Err.refusal (c.in-Err.ensures.causes, c.in-Err.ensures.judged)

pub returns-in-Err-clause-order : goal.returns-in-Err-clause-order
returns-in-Err-clause-order g c honest = memory_told c.in-Err.refusal _ (c.in-Err.ensures.order honest)

pub returns-in-Err-clause-failed : goal.returns-in-Err-clause-failed
returns-in-Err-clause-failed g c = counts_code (Unit {0}) c.in-Err.refusal _ _ c.in-Err.ensures.counted

pub returns-in-Err-clause-writes : goal.returns-in-Err-clause-writes
returns-in-Err-clause-writes g c = record { writes = opening_counts (Unit {0}) c.in-Err.refusal _ c.in-Err.ensures.causes; same = refl }

pub returns-in_default-clause-refused : goal.returns-in_default-clause-refused
returns-in_default-clause-refused g c = unopened_of_device (g.D.Disk.honest c.args.disk) (g.D.Disk.content c.args.disk) OutOfMemory (inl refl)

pub returns-in_default-clause-order : goal.returns-in_default-clause-order
returns-in_default-clause-order g c honest = let told = c.in-Ok.ensures.told honest in fits (g.D.Disk.content c.args.disk) told.standing told.is

pub returns-in_default-clause-failed : goal.returns-in_default-clause-failed
returns-in_default-clause-failed g c = ap g.D.Disk.failures c.close.ensures.disk ∙ c.in-Ok.ensures.counted

pub returns-clause-answered : goal.returns-clause-answered
returns-clause-answered g c =
    shown_so (g.D.Disk.honest c.args.disk) (g.D.Disk.content c.args.disk) c.in-Ok.store.network c.in-Ok.store.version c.in-Ok.ensures.stands c.put_shown-told.result c.args.look _ _
    (rw (c.in-Ok-of.ensures, c.network.ensures, c.version.ensures.version) at c.put_shown-told.ensures.written)

pub returns-clause-refused : goal.returns-clause-refused
returns-clause-refused g c =
    write_refused (g.D.Disk.honest c.args.disk) (g.D.Disk.content c.args.disk) c.in-Ok.store.network c.in-Ok.store.version c.in-Ok.ensures.stands c.put_shown-told.result c.put_shown-told.ensures.refused

pub returns-clause-order : goal.returns-clause-order
returns-clause-order g c honest = write_memory c.put_shown-told.result _ c.put_shown-told.ensures.refused

pub returns-clause-failed : goal.returns-clause-failed
returns-clause-failed g c = write_device c.put_shown-told.result _ _ c.put_shown-told.ensures.refused (ap g.D.Disk.failures c.close-2.ensures.disk ∙ c.in-Ok.ensures.counted)

pub returns-clause-unwritten : goal.returns-clause-unwritten
returns-clause-unwritten g c = write_unwritten c.put_shown-told.result _ _ c.put_shown-told.ensures.refused

pub returns-clause-writes : goal.returns-clause-writes
returns-clause-writes g c = record { writes = write_counts c.put_shown-told.result _ _ c.put_shown-told.ensures.refused c.put_shown-told.ensures.counts; same = c.put_shown-told.ensures.same }

pub returns-clause-at_rest : goal.returns-clause-at_rest
returns-clause-at_rest g c honest =
    if_ok c.put_shown-told.result _ (subst (λ (d : g.row.D.Denot). Only (g.D.Disk.content d) (g.D.Disk.left d)) (sym c.close-2.ensures.disk) (c.in-Ok.ensures.at_rest honest))
