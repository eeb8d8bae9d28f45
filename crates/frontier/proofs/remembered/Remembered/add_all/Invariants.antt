use Rattle.std.proofs.Common.{◌≡◌, take}
use Rattle.frontier.specs.Remembered.{remember_all}
use Rattle.frontier.proofs.remembered.Remembered.add_all.Given as goal

abbrev pub invariant-loop-node : goal.invariant-loop-node
invariant-loop-node l = record {
  added : l.self.nodes ≡ remember_all l.fn.self.nodes (take l.node-index l.nodes);
  limit : l.self.limit ≡ l.fn.self.limit;
}
