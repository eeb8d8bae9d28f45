use Rattle.rows.proofs.cached.found.Goals as goal

pub returns-clause-found : goal.returns-clause-found
returns-clause-found c net has node =
    let there = c.in_ok-length.ensures.found in
    c.distance_by.ensures net c.args.source c.args.target there.0 there.2 node (has c.args.source there.0 there.1)
