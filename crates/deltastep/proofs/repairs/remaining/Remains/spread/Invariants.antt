use Rattle.std.proofs.Common.{All, take}
use Rattle.deltastep.specs.Repair.{IsClosedBut, IsSpread, Thins}
use Rattle.deltastep.proofs.repairs.remaining.Remains.spread.Given as goal

abbrev pub invariant-loop-place : goal.invariant-loop-place
invariant-loop-place l = record {
  thins : Thins l.source l.fn.self.tentative l.fn.self.lost.items l.self.tentative l.self.lost.items;
  closed : IsClosedBut l.after l.source l.row l.self.tentative l.self.lost.items;
  spread : All (IsSpread l.after l.source l.row l.self.tentative) (take l.place l.self.lost.items);
}
