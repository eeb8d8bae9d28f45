use Rattle.routes.proofs.answers.searched_route.Goals as goal

pub route_known-requires-clause-known : goal.route_known-requires-clause-known
route_known-requires-clause-known g c = rw c.network.ensures (c.in-Ok.ensures.known c.args.asker.now.network c.groups.ensures)
