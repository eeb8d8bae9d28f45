use Rattle.std.proofs.Common.{◌<◌, ◌≤◌, ◌∙◌, Contains, take, length, arith}
use Rattle.deltastep.specs.Repair.{IsNodeLooked}
use Rattle.deltastep.proofs.Thinning.{All-take_more, All-of_take}
use Rattle.deltastep.proofs.Looking.{All-changed_on}
use Rattle.deltastep.proofs.repairs.near.remember_all_changed.Goals as goal

pub loop-node-preserved : goal.loop-node-preserved
loop-node-preserved c =
    let nodes = c.args.changed.now in
    let i = c.loop-node.node-index in
    let lt : i < length nodes = omega arith in
    let ensures = c.in_ok-remember_changed.ensures in
    let owes = Contains c.remember_changed.new.owing.nodes in
    record {
      valued = λ begun. ensures.valued (c.loop-node.invariant.valued begun);
      looked = All-take_more (λ u. 1 ≤ u → u ≤ c.args.snapshot.now.nodes → IsNodeLooked c.args.snapshot.now c.args.tentative.now owes u) nodes i 0 lt (All-changed_on c.args.snapshot.now c.args.tentative.now (Contains c.loop-node.owing.nodes) owes (take i nodes) ensures.keeps c.loop-node.invariant.looked) ensures.looked;
      limit = c.remember_changed.ensures.limit ∙ c.loop-node.invariant.limit;
    }

pub returns-clause-looked : goal.returns-clause-looked
returns-clause-looked c =
    let past : length c.args.changed.now ≤ c.loop-node.node-index = omega arith in
    All-of_take (λ u. 1 ≤ u → u ≤ c.args.snapshot.now.nodes → IsNodeLooked c.args.snapshot.now c.args.tentative.now (Contains c.loop-node.owing.nodes) u) c.args.changed.now c.loop-node.node-index past c.loop-node.invariant.looked
