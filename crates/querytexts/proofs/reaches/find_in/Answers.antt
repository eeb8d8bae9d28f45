use Rattle.std.proofs.Common.{◌≤◌, ℕ, sym, subst}
use Rattle.std.specs.Global.{Vec}
use Rattle.std.specs.Prelude.{unwrap_or}
use Rattle.std.proofs.lemmas.Result.{IfOk-weaker}
use Rattle.roadnet.specs.Net.{Net, IsNetwork, IsNode}
use Rattle.roadnet.specs.Reversal.{reversed}
use Rattle.snapshot.specs.Groups.{IsSnapshotOf}
use Rattle.deltastep.specs.Reach.{IsReach as IsReachOf, IsReachTo}
use Rattle.deltastep.specs.declared.rows.known.NodeDistance.{NodeDistance}
use Rattle.querytexts.specs.declared.reaches.Reach.{Reach}
use Rattle.querytexts.specs.Reach.{AreGroupsFor, IsReachOfText, center_of}
use Rattle.querytexts.proofs.Reached.{found_from, found_to, most}
use Rattle.querytexts.proofs.reaches.find_in.Goals as goal

pub reach_in-requires : goal.reach_in-requires
reach_in-requires g c =
    let of = subst (λ (r : Reach). AreGroupsFor c.args.network.now r c.in_ok-groups.groups) c.in-From.is c.in_ok-groups.ensures in
    let node = subst (λ (r : Reach). IsNode c.args.network.now (center_of r)) c.in-From.is c.requires.node in
    record { source = (node.0, subst (λ (n : ℕ). c.in-From.source ≤ n) (sym of.nodes) node.1) }

pub reached_in-requires : goal.reached_in-requires
reached_in-requires g c =
    let of = subst (λ (r : Reach). AreGroupsFor c.args.network.now r c.in_ok-groups.groups) c.in-To.is c.in_ok-groups.ensures in
    let node = subst (λ (r : Reach). IsNode c.args.network.now (center_of r)) c.in-To.is c.requires.node in
    record { target = (node.0, subst (λ (n : ℕ). c.in-To.target ≤ n) (sym of.nodes) node.1) }

pub returns-in-From : goal.returns-in-From
returns-in-From g c =
    let net = c.args.network.now in
    let groups = c.in_ok-groups.groups in
    let of = subst (λ (r : Reach). AreGroupsFor net r groups) c.in-From.is c.in_ok-groups.ensures in
    let found = c.reach_in.ensures.reach in
    IfOk-weaker c.reach_in.result (λ (told : Vec NodeDistance). (n : Net) → IsSnapshotOf n groups → IsReachOf n c.in-From.source (unwrap_or c.args.limit most) told.items) (λ (told : Vec NodeDistance). IsReachOfText net c.args.reach c.args.limit told.items)
    (λ told has. subst (λ (r : Reach). IsReachOfText net r c.args.limit told.items) (sym c.in-From.is) (found_from net c.in-From.source c.args.limit groups told.items c.requires.network of has)) (rw c.unwrap_or-limit.ensures at found)

pub returns : goal.returns
returns g c =
    let net = c.args.network.now in
    let groups = c.in_ok-groups.groups in
    let of = subst (λ (r : Reach). AreGroupsFor net r groups) c.in-To.is c.in_ok-groups.ensures in
    let found = c.reached_in.ensures.reached in
    IfOk-weaker c.reached_in.result (λ (told : Vec NodeDistance). (n : Net) → IsNetwork n → IsSnapshotOf (reversed n) groups → IsReachTo n c.in-To.target (unwrap_or c.args.limit most) told.items) (λ (told : Vec NodeDistance). IsReachOfText net c.args.reach c.args.limit told.items)
    (λ told has. subst (λ (r : Reach). IsReachOfText net r c.args.limit told.items) (sym c.in-To.is) (found_to net c.in-To.target c.args.limit groups told.items c.requires.network of has)) (rw c.unwrap_or-limit.ensures at found)
