use Rattle.std.proofs.Common.{◌≡◌, ◌≤◌, take, All, Contains}
use Rattle.deltastep.specs.Repair.{HaveValues, IsNodeLooked}
use Rattle.deltastep.proofs.repairs.near.remember_all_changed.Given as goal

abbrev pub invariant-loop-node : goal.invariant-loop-node
invariant-loop-node l = record {
  valued : HaveValues l.tentative l.fn.owing.nodes → HaveValues l.tentative l.owing.nodes;
  looked : All (λ u. 1 ≤ u → u ≤ l.snapshot.nodes → IsNodeLooked l.snapshot l.tentative (Contains l.owing.nodes) u) (take l.node-index l.changed);
  limit : l.owing.limit ≡ l.fn.owing.limit;
}
