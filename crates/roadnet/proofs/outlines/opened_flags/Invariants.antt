use Rattle.std.proofs.Common.{◌≡◌, ◌≤◌, length, map, take}
use Rattle.std.specs.Vec.{vec_capacity}
use Rattle.roadnet.proofs.outlines.opened_flags.Given as goal

abbrev pub invariant-loop-arc : goal.invariant-loop-arc
invariant-loop-arc l = (l.flags.items ≡ map (λ arc. arc.opened) (take l.arc-index l.arcs)) × (length l.arcs ≤ vec_capacity l.flags)
