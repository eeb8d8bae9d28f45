use Rattle.std.proofs.Common.{◌≡◌, ◌≤◌, All, Contains, take}
use Rattle.deltastep.specs.Repair.{AreTailsLooked, HaveValues, IsNodeLooked}
use Rattle.deltastep.proofs.repairs.near.remember_near.Given as goal

abbrev pub invariant-loop-node : goal.invariant-loop-node
invariant-loop-node l = record {
  valued : HaveValues l.tentative l.owing.nodes;
  changed : All (λ u. 1 ≤ u → u ≤ l.snapshot.nodes → IsNodeLooked l.snapshot l.tentative (Contains l.owing.nodes) u) l.changed;
  tails : All (AreTailsLooked l.snapshot l.back l.tentative (Contains l.owing.nodes)) (take l.node-index l.lost);
  limit : l.owing.limit ≡ l.fn.owing.limit;
}
