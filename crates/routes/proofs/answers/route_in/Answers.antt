use Rattle.routes.proofs.Backward.{IsKnownTo-row}
use Rattle.routes.proofs.answers.route_in.Goals as goal

pub route_known-requires-clause-known : goal.route_known-requires-clause-known
route_known-requires-clause-known g c = rw c.network.ensures (IsKnownTo-row c.args.asker.now.network c.args.source c.args.target c.in-Some.row.now c.in-Some.ensures c.requires.target)
