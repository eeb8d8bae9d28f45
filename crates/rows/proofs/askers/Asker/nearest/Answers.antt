use Rattle.std.proofs.Common.{List, ℕ, ◌≡◌, subst}
use Rattle.std.proofs.lemmas.Result.{IfOk-weaker}
use Rattle.roadnet.specs.Net.{Net}
use Rattle.deltastep.specs.Reach.{AreNearest}
use Rattle.rows.proofs.askers.Asker.nearest.Goals as goal

pub returns-in-Some : goal.returns-in-Some
returns-in-Some g c =
    let net = c.args.self.now.network in
    let given : c.landmarks-landmarks.result.now ≡ net.landmarks = subst (λ (n : Net). c.landmarks-landmarks.result.now ≡ n.landmarks) c.network.ensures c.landmarks-landmarks.ensures.value in
    record { nearest = IfOk-weaker c.nearest_of_row.result _ _ (λ told each. subst (λ (among : List ℕ). AreNearest net c.args.source among c.args.count told.items) given (each net c.args.source c.in-Some.ensures)) c.nearest_of_row.ensures.nearest }
