use Rattle.std.proofs.Common.{take, All}
use Rattle.deltastep.specs.Repair.{AreGoneLost, Thins}
use Rattle.deltastep.proofs.repairs.remaining.Remains.lose_changed.Given as goal

abbrev pub invariant-loop-node : goal.invariant-loop-node
invariant-loop-node l = record {
  thins : Thins l.source l.fn.self.tentative l.fn.self.lost.items l.self.tentative l.self.lost.items;
  gone : All (AreGoneLost l.before l.after l.source l.row l.self.tentative) (take l.node-index l.changed);
}
