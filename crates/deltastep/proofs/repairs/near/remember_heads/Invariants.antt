use Rattle.std.proofs.Common.{◌≡◌, ℕ, take, All, Contains}
use Rattle.snapshot.specs.declared.legs.Leg.{Leg}
use Rattle.deltastep.specs.Repair.{HaveValues, IsNodeLooked}
use Rattle.deltastep.proofs.repairs.near.remember_heads.Given as goal

abbrev pub invariant-loop-leg : goal.invariant-loop-leg
invariant-loop-leg l = record {
  valued : HaveValues l.tentative l.fn.owing.nodes → HaveValues l.tentative l.owing.nodes;
  keeps : (u : ℕ) → Contains l.fn.owing.nodes u → Contains l.owing.nodes u;
  looked : All (λ (leg : Leg). IsNodeLooked l.snapshot l.tentative (Contains l.owing.nodes) leg.head) (take l.leg-index l.legs);
  limit : l.owing.limit ≡ l.fn.owing.limit;
}
