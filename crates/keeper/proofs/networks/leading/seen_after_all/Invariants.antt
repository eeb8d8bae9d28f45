use Rattle.std.proofs.Common.{◌≡◌, None, take}
use Rattle.roadnet.specs.Net.{Net, IsNetwork}
use Rattle.roadnet.specs.Batches.{changed_by_all, first_refusal_of_all}
use Rattle.keeper.specs.Leading.{SeesAt}
use Rattle.keeper.proofs.networks.leading.seen_after_all.Given as goal

abbrev pub invariant-loop-group : goal.invariant-loop-group
invariant-loop-group l = (net : Net) → IsNetwork net → first_refusal_of_all net l.groups ≡ None → SeesAt net l.k l.fn.seen → SeesAt (changed_by_all net (take l.group-index l.groups)) l.k l.last
