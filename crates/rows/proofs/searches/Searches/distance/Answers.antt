use Rattle.std.proofs.Common.{◌∙◌, ap, subst, sym}
use Rattle.std.specs.Prelude.{IfOk}
use Rattle.roadnet.specs.Net.{Net}
use Rattle.rows.specs.declared.queries.Query.TheVariants.{Dist}
use Rattle.rows.specs.Replies.{IsDistance}
use Rattle.rows.specs.Views.{Viewed}
use Rattle.rows.proofs.Answered.{nodes_told, right_told}
use Rattle.rows.proofs.searches.Searches.distance.Goals as goal

pub returns-clause-right : goal.returns-clause-right
returns-clause-right g c =
    let net = c.args.network.now in
    right_told net (Dist c.args.source c.args.target) c.distance.result (nodes_told net c.args.source c.args.target (sym c.are_nodes.ensures ∙ c.if-not-are_nodes.false))
    (subst (λ (n : Net). IfOk c.distance.result (IsDistance n c.args.source c.args.target)) (ap (λ (v : Viewed). v.network) c.of-asker.ensures ∙ c.in_ok-network.ensures) c.distance.ensures)
