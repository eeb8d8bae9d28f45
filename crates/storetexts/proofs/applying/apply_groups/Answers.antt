use Rattle.std.proofs.Common.{◌⊎◌, ⊎_elim, inl, inr, [], refl, sym, subst, arith}
use Rattle.std.specs.Io.KnownBytes.{Appends}
use Rattle.std.proofs.KnownBytes.{Appends-nil}
use Rattle.roadnet.specs.declared.refusals.Refusal.TheVariants.{OutOfMemory}
use Rattle.printing.specs.Counting.{writer_of}
use Rattle.printing.specs.declared.failed.Failed.TheVariants.{Code}
use Rattle.store.specs.State.{CameTidy}
use Rattle.storetexts.specs.Applied.{StandsForBeginningOfGroups}
use Rattle.storetexts.specs.Applying.{StandsForMachine}
use Rattle.disk.proofs.Steps.{weaker}
use Rattle.storetexts.proofs.TextApplied.{at_once}
use Rattle.storetexts.proofs.Remaining.{applies_some, ended_all, ended_some, told_all, among}
use Rattle.storetexts.proofs.applying.apply_groups.Goals as goal

pub returns-in-Err-clause-applies : goal.returns-in-Err-clause-applies
returns-in-Err-clause-applies g c =
    let first = c.args.ledger.disk in
    let unwritten : Appends (g.W.Write.contents (writer_of c.args.out.now)) (g.W.Write.contents (writer_of c.args.out.now)) [] = Appends-nil _ in
    rw c.close-disk.ensures.disk
    (record {
      applied = λ came net version begun. tt;
      cut_off = λ came net version begun.
          applies_some net version c.args.groups.now [] 0 c.args.ledger.machine (g.D.Disk.content first) (g.D.Disk.left first) _ _ (Code OutOfMemory)
          (record { taken = 0; come = begun }) c.requires.idle.ready.steady (omega (arith, c.requires.idle.none)) (c.close-disk.ensures.holds came) unwritten tt;
      told = λ net version begun. tt;
      any_moment = λ came net version begun. at_once g.D.Disk first first (λ x. g.met.D.Disk.only_now first x (c.close-disk.ensures.honest came)) _;
      refused = inl refl;
      counted = refl;
      honest = (λ h. h, λ h. h);
    })

pub returns-clause-applies : goal.returns-clause-applies
returns-clause-applies g c =
    let first = c.args.ledger.disk in
    let new = c.run-ended.new.self in
    let run = c.run-ended.ensures in
    rw c.close.ensures.disk
    (record {
      applied = λ was net version begun.
          let came = subst (λ (d : g.row.D.Denot). CameTidy g.D.Disk.honest g.D.Disk.content d) (sym run.advances.goes.given) was in
          ended_all net version c.args.ledger.machine new.ledger.machine c.args.groups.now new.outcomes.items new.told
          (g.D.Disk.content new.ledger.disk) (g.D.Disk.left new.ledger.disk) _ _ begun run.advances.goes.steady (c.close.ensures.holds came)
          c.run-ended.result run.come run.advances.calm run.all run.lines (g.met.D.Disk.leaves_content new.ledger.disk (c.close.ensures.honest came));
      cut_off = λ was net version begun.
          let came = subst (λ (d : g.row.D.Denot). CameTidy g.D.Disk.honest g.D.Disk.content d) (sym run.advances.goes.given) was in
          ended_some net version c.args.ledger.machine new.ledger.machine c.args.groups.now new.outcomes.items new.told
          (g.D.Disk.content new.ledger.disk) (g.D.Disk.left new.ledger.disk) _ _ begun run.advances.goes.steady (c.close.ensures.holds came)
          c.run-ended.result run.some run.advances.waiting run.lines run.advances.next;
      told = λ net version begun.
          told_all net version c.args.ledger.machine new.ledger.machine c.args.groups.now new.outcomes.items new.told _ _ begun c.run-ended.result run.come run.all run.lines;
      any_moment = λ was net version begun.
          let came = subst (λ (d : g.row.D.Denot). CameTidy g.D.Disk.honest g.D.Disk.content d) (sym run.advances.goes.given) was in
          let honest = run.advances.goes.honest.0 (c.close.ensures.honest came) in
          weaker g.D.Disk.moment g.D.Disk.left_since first new.ledger.disk (λ x. g.D.Disk.left first x ⊎ StandsForMachine new.ledger.machine x) (λ x. g.D.Disk.left first x ⊎ StandsForBeginningOfGroups net version c.args.groups.now x)
          (run.advances.goes.leaves was first (at_once g.D.Disk first first (λ x. g.met.D.Disk.only_now first x honest) _))
          (λ x. ⊎_elim (λ left. inl left) (λ stands. inr (among net version c.args.groups.now new.outcomes.items new.told new.ledger.machine (run.some net version begun) x stands)));
      refused = run.advances.refused;
      counted = run.advances.counted;
      honest = run.advances.goes.honest;
    })
