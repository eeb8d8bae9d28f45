use Rattle.std.proofs.Common.{◌<◌, ◌≤◌, take, length, get_or, arith}
use Rattle.deltastep.specs.Repair.{AreGoneLost}
use Rattle.deltastep.proofs.Thinning.{Thins-on, AreGoneLost-on, All-take_more, All-of_take}
use Rattle.deltastep.proofs.repairs.remaining.Remains.lose_changed.Goals as goal

pub loop-node-preserved : goal.loop-node-preserved
loop-node-preserved c =
    let nodes = c.args.changed.now in
    let i = c.loop-node.node-index in
    let lt : i < length nodes = omega arith in
    let ensures = c.in_ok-lose_behind_gone.ensures in
    let before = c.loop-node.self in
    let after = c.lose_behind_gone.new.self in
    record {
      thins = Thins-on c.args.source c.args.self.now.tentative before.tentative after.tentative c.args.self.now.lost.items before.lost.items after.lost.items c.loop-node.invariant.thins ensures.thins;
      gone = All-take_more (AreGoneLost c.args.before.now c.args.after.now c.args.source c.args.row.now after.tentative) nodes i 0 lt (λ k d within. AreGoneLost-on c.args.before.now c.args.after.now c.args.source c.args.row.now before.tentative after.tentative (get_or (take i nodes) k d) ensures.thins.thinner (c.loop-node.invariant.gone k d within)) ensures.gone;
    }

pub returns-clause-gone : goal.returns-clause-gone
returns-clause-gone c =
    let past : length c.args.changed.now ≤ c.loop-node.node-index = omega arith in
    All-of_take (AreGoneLost c.args.before.now c.args.after.now c.args.source c.args.row.now c.loop-node.self.tentative) c.args.changed.now c.loop-node.node-index past c.loop-node.invariant.gone
