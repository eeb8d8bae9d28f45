use Rattle.std.proofs.Common.{ap}
use Rattle.sessions.specs.declared.queries.finding.Heading.TheVariants.{Shown}
use Rattle.sessions.proofs.Routed.{route_found}
use Rattle.sessions.proofs.Said.{puts_so}
use Rattle.sessions.proofs.queries.walking.answer_route.Goals as goal

pub returns : goal.returns
returns g c =
    let view = c.args.glance.now.view in
    puts_so g.W.Write.contents _ _ c.tell_route.result _ _
    (route_found (Shown c.version.result) (Shown view.version) c.network.result.now view.network c.args.source c.args.target c.route-found.result (ap Shown c.version.ensures.version) c.network.ensures c.route-found.ensures.right)
    c.tell_route.ensures
