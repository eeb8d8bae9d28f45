use Rattle.std.proofs.Common.{◌≡◌, None, take}
use Rattle.roadnet.specs.Net.{Net, IsNetwork}
use Rattle.roadnet.specs.Step.{first_refusal}
use Rattle.roadnet.specs.Batches.{changed_by}
use Rattle.keeper.specs.Leading.{SeesAt}
use Rattle.keeper.proofs.networks.leading.seen_after.Given as goal

abbrev pub invariant-loop-command : goal.invariant-loop-command
invariant-loop-command l = (net : Net) → IsNetwork net → first_refusal net l.commands ≡ None → SeesAt net l.k l.fn.seen → SeesAt (changed_by net (take l.command-index l.commands)) l.k l.last
