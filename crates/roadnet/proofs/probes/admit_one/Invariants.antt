use Rattle.std.proofs.Common.{◌≡◌, None, take}
use Rattle.roadnet.specs.Batches.{changed_by_all}
use Rattle.roadnet.specs.Outlines.{OfEachNetwork}
use Rattle.roadnet.specs.Step.{first_refusal}
use Rattle.roadnet.proofs.probes.admit_one.Given as goal

abbrev pub invariant-loop-i : goal.invariant-loop-i
invariant-loop-i g l = OfEachNetwork (g.S.Probed.outline l.site) (λ net. first_refusal (changed_by_all net l.groups) (take l.i l.commands) ≡ None)
