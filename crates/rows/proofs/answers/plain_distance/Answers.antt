use Rattle.rows.proofs.answers.plain_distance.Goals as goal

pub returns-in-Ok : goal.returns-in-Ok
returns-in-Ok c = c.distance_in.ensures c.args.network.now c.args.source c.requires.target c.in-Ok.ensures
