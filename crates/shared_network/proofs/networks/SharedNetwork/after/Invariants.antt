use Rattle.std.proofs.Common.{◌≡◌, None, drop}
use Rattle.roadnet.specs.Batches.{changed_by_all, first_refusal_of_all}
use Rattle.shared_network.proofs.networks.SharedNetwork.after.Given as goal

abbrev pub invariant-loop-group : goal.invariant-loop-group
invariant-loop-group l = record {
  admitted : first_refusal_of_all l.newer (drop l.group-index l.groups) ≡ None;
  changed : changed_by_all l.newer (drop l.group-index l.groups) ≡ changed_by_all l.self l.groups;
}
