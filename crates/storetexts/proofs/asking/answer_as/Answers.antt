use Rattle.storetexts.proofs.asking.answer_as.Goals as goal

pub returns-then-routes-clause-answered : goal.returns-then-routes-clause-answered
returns-then-routes-clause-answered g c = rw c.if-routes.true c.answer_routes.ensures.answered

pub returns-else-routes-clause-answered : goal.returns-else-routes-clause-answered
returns-else-routes-clause-answered g c = rw c.if-routes.false c.answer_pairs.ensures.answered
