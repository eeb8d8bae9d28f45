use Rattle.std.proofs.Common.{◌≡◌, take}
use Rattle.keeper.proofs.networks.same.are_same_arcs.Given as goal

abbrev pub invariant-loop-place : goal.invariant-loop-place
invariant-loop-place l = take l.place l.some ≡ take l.place l.others
