use Rattle.std.proofs.Common.{◌≡◌, None, take}
use Rattle.roadnet.specs.Batches.{first_refusal_of_all}
use Rattle.roadnet.specs.Outlines.{OfEachNetwork}
use Rattle.roadnet.proofs.probes.admit_all.Given as goal

abbrev pub invariant-loop-i : goal.invariant-loop-i
invariant-loop-i g l = OfEachNetwork (g.S.Probed.outline l.site) (λ net. first_refusal_of_all net (take l.i l.groups) ≡ None)
