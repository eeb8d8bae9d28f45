use Rattle.machine.proofs.Kept.{started, states_kept, admitted_versions}
use Rattle.machine.proofs.Counted.{flush_takes_longest_front, versions_are_fewer}
use Rattle.machine.proofs.Later.{later_by_step}
use Rattle.machine.proofs.laws.laws_of_steps.Goals as goal

pub returns : goal.returns
returns c = record { starts = started; states = states_kept; durable = later_by_step; versions = admitted_versions; flush = flush_takes_longest_front; fewer = versions_are_fewer }
