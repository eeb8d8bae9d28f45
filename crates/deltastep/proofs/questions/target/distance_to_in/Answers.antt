use Rattle.deltastep.proofs.Ending.{IsDistance-known}
use Rattle.deltastep.proofs.questions.target.distance_to_in.Goals as goal

pub returns : goal.returns
returns g c = record {
  distance = λ net is. rw c.get-distance.ensures.value (IsDistance-known net c.args.source c.args.target c.in_ok-values.values (c.in_ok-values.ensures.known net is));
}
