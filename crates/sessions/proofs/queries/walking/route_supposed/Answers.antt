use Rattle.std.proofs.Common.{ap, rules}
use Rattle.sessions.specs.declared.queries.finding.Heading.TheVariants.{Supposed}
use Rattle.sessions.proofs.Routed.{route_found}
use Rattle.sessions.proofs.Said.{puts_so}
use Rattle.sessions.proofs.queries.walking.route_supposed.Goals as goal

pub returns-clause-told : goal.returns-clause-told
returns-clause-told g c =
    let supposed = c.args.supposed.now in
    puts_so g.W.Write.contents _ _ c.tell_route.result _ _
    (route_found (Supposed c.version.result) (Supposed supposed.version) c.network.result.now supposed.network c.args.source c.args.target c.route-found.result (ap Supposed c.version.ensures) (search rules) c.route-found.ensures.right)
    c.tell_route.ensures
