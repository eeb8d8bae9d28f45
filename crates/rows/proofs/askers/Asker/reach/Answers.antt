use Rattle.std.proofs.lemmas.Result.{IfOk-weaker}
use Rattle.rows.proofs.askers.Asker.reach.Goals as goal

pub returns-in-Some : goal.returns-in-Some
returns-in-Some g c = record { reach = IfOk-weaker c.reach_of_row.result _ _ (λ told each. each c.args.self.now.network c.args.source c.in-Some.ensures) c.reach_of_row.ensures.reach }
