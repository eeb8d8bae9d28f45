use Rattle.std.proofs.Common.{take}
use Rattle.deltastep.specs.Repair.{LeadToLost, Thins}
use Rattle.deltastep.proofs.repairs.remaining.Remains.lose_heads.Given as goal

abbrev pub invariant-loop-leg : goal.invariant-loop-leg
invariant-loop-leg l = record {
  thins : Thins l.source l.fn.self.tentative l.fn.self.lost.items l.self.tentative l.self.lost.items;
  lead : LeadToLost l.source l.row l.self.tentative l.value (take l.leg-index l.legs);
}
