use Rattle.rows.specs.declared.queries.Query.TheVariants.{From}
use Rattle.rows.proofs.Answered.{nodes_of_from, not_refused, right_answer}
use Rattle.rows.proofs.views.View.from_landmark.Goals as goal

pub returns : goal.returns
returns c =
    let net = c.args.self.now.network in
    let none = not_refused c.network.result.now net (From c.args.landmark c.args.target) c.refusal_of.result c.network.ensures c.refusal_of.ensures.refusal c.in_default.is in
    right_answer net (From c.args.landmark c.args.target) c.distance_in.result none
    (c.distance_in.ensures net c.args.landmark (nodes_of_from net c.args.landmark c.args.target none).1 c.row_of-row.ensures)
