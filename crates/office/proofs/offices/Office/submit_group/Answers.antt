use Rattle.std.proofs.Common.{sym, subst}
use Rattle.store.specs.State.{CameTidy}
use Rattle.office.proofs.Agreed.{office_submitted}
use Rattle.office.proofs.offices.Office.submit_group.Goals as goal

pub invariant_of-self-2 : goal.invariant_of-self-2
invariant_of-self-2 g c =
    let came : g.N.Naming.came_tidy → CameTidy g.D.Disk.honest g.D.Disk.content c.submit_into.new.self.given = subst (λ d. g.N.Naming.came_tidy → CameTidy g.D.Disk.honest g.D.Disk.content d) (sym c.submit_into.ensures.given) c.self.invariant.1 in
    (office_submitted _ _ _ _ _ c.self.invariant.0 c.opened.ensures.state c.args.group _ _ _ _ c.in_ok-ticket.ensures.accepted c.submit_into.ensures.width c.in_ok-ticket.ensures.written, came)
