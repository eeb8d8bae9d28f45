use Rattle.rows.proofs.answers.distance_in.Goals as goal

pub returns : goal.returns
returns c net source node row = c.distance_by.ensures net source c.args.target c.args.row.now c.get.ensures node row
