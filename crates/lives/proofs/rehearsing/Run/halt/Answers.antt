use Rattle.std.proofs.Common.{sym, subst}
use Rattle.lives.specs.Cutting.{IsCut, picks_taken}
use Rattle.lives.proofs.rehearsing.Run.halt.Goals as goal

pub returns-clause-halted : goal.returns-clause-halted
returns-clause-halted g c came =
    let kept = subst g.D.Disk.honest (sym c.close-groups.ensures.disk) (c.close-groups.ensures.honest came) in
    let holds = c.close-groups.ensures.holds came in
    let now = g.D.Disk.content c.stop_disk-came.new.disk in
    record {
      halted = record {
        state = c.args.self.life.living.state;
        groups_are = c.close-groups.ensures.history;
        opened_is = sym c.args.self.life.living.opened_is;
        durable_is = c.durable-durable.ensures.version;
        held = holds.each_left _ (subst (λ (d : g.row.D.Denot). g.D.Disk.left d now) c.close-groups.ensures.disk (c.stop_disk-came.ensures.left kept));
        only = c.stop_disk-came.ensures.only kept;
      };
      honest = c.stop_disk-came.ensures.honest kept;
      cut = subst (λ (d : g.row.D.Denot). IsCut g.D.Disk g.D.Stoppable (picks_taken c.args.picks.now) d now) c.close-groups.ensures.disk (c.stop_disk-came.ensures.cut kept);
      held = (c.close-groups.ensures.honest came, holds);
    }
