use Rattle.std.proofs.Common.{take}
use Rattle.deltastep.specs.Repair.{AreThereOrLost, Thins}
use Rattle.deltastep.proofs.repairs.remaining.Remains.lose_gone_heads.Given as goal

abbrev pub invariant-loop-leg : goal.invariant-loop-leg
invariant-loop-leg l = record {
  thins : Thins l.source l.fn.self.tentative l.fn.self.lost.items l.self.tentative l.self.lost.items;
  lead : AreThereOrLost l.after l.source l.row l.self.tentative l.node l.value (take l.leg-index l.legs);
}
