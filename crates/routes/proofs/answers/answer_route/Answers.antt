use Rattle.roadnet.proofs.EndsKept.{KeepsEnds-same}
use Rattle.routes.proofs.answers.answer_route.Goals as goal

pub route_in-requires-clause-numbers : goal.route_in-requires-clause-numbers
route_in-requires-clause-numbers g c = c.requires.back.numbers c.args.asker.now.network (KeepsEnds-same c.args.asker.now.network)
