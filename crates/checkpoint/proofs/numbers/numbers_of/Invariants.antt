use Rattle.std.proofs.Common.{◌≡◌, take}
use Rattle.checkpoint.specs.Frozen.{numbers_of}
use Rattle.checkpoint.proofs.numbers.numbers_of.Given as goal

abbrev pub invariant-loop-arc : goal.invariant-loop-arc
invariant-loop-arc l = l.numbers.items ≡ numbers_of (take l.arc-index l.arcs)
