use Rattle.sessions.proofs.Supposed.{refused_after, supposed_after}
use Rattle.sessions.proofs.session.supposing.suppose.Goals as goal

pub returns-clause-supposed : goal.returns-clause-supposed
returns-clause-supposed g c =
    supposed_after g.S.Naming.Naming.origin c.in_ok-glance.glance.known.groups _ c.in_ok-glance.glance.view c.args.group.now c.version.result c.network.result.now c.new.result c.in_ok-glance.ensures.seen c.in_ok-glance.ensures.view
    c.version.ensures.version c.network.ensures c.new.ensures.supposed

pub returns-clause-causes : goal.returns-clause-causes
returns-clause-causes g c =
    refused_after g.S.Naming.Naming.origin c.in_ok-glance.glance.known.groups _ c.in_ok-glance.glance.view c.args.group.now c.network.result.now c.new.result c.in_ok-glance.ensures.seen c.in_ok-glance.ensures.view c.network.ensures
    c.new.ensures.refused
