use Rattle.std.proofs.Common.{◌≡◌, None, drop}
use Rattle.roadnet.specs.Batches.{changed_by}
use Rattle.roadnet.specs.Step.{first_refusal}
use Rattle.shared_network.proofs.networks.SharedNetwork.carry_out_all.Given as goal

abbrev pub invariant-loop-command : goal.invariant-loop-command
invariant-loop-command l = record {
  admitted : first_refusal l.self (drop l.command-index l.commands) ≡ None;
  changed : changed_by l.self (drop l.command-index l.commands) ≡ changed_by l.fn.self l.commands;
}
