use Rattle.std.specs.Global.{Vec}
use Rattle.std.proofs.lemmas.Result.{IfOk-weaker}
use Rattle.roadnet.specs.Net.{Net, IsNetwork}
use Rattle.roadnet.specs.Reversal.{reversed}
use Rattle.snapshot.specs.Groups.{IsSnapshotOf}
use Rattle.deltastep.specs.Reach.{IsReach, IsReachTo}
use Rattle.deltastep.specs.declared.rows.known.NodeDistance.{NodeDistance}
use Rattle.deltastep.proofs.Backwards.{IsReachTo-reversed}
use Rattle.deltastep.proofs.questions.reach.reached_in.Goals as goal

pub returns : goal.returns
returns g c = record {
  reached = IfOk-weaker c.reach_in.result (λ (told : Vec NodeDistance). (net : Net) → IsSnapshotOf net c.args.back.now → IsReach net c.args.target c.args.limit told.items) (λ (told : Vec NodeDistance). (net : Net) → IsNetwork net → IsSnapshotOf (reversed net) c.args.back.now → IsReachTo net c.args.target c.args.limit told.items) (λ told has net ok snapshot. IsReachTo-reversed net c.args.target c.args.limit told.items ok (has (reversed net) snapshot)) c.reach_in.ensures.reach;
}
