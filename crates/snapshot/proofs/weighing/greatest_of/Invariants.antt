use Rattle.std.proofs.Common.{◌≡◌, map, take, max}
use Rattle.std.specs.List.{fold}
use Rattle.snapshot.proofs.weighing.greatest_of.Given as goal

abbrev pub invariant-loop-place : goal.invariant-loop-place
invariant-loop-place l = l.greatest ≡ fold max 0 (map (λ block. block.greatest) (take l.place l.blocks))
