use Rattle.roadnet.proofs.EndsKept.{ends_stay, ends_were_the_same}
use Rattle.roadnet.proofs.Kept.{after_is_network, group_gives_network}
use Rattle.roadnet.proofs.Stepped.{step_changes, admitted_steps, after_both, group_admitted, group_of_one, groups_join}
use Rattle.roadnet.proofs.laws.laws_of_steps.Goals as goal

pub returns : goal.returns
returns c = record { changes = step_changes; admitted = admitted_steps; joined = groups_join; each_in_its_turn = group_admitted; group_networks = group_gives_network; group_of_one = group_of_one; one_after_another = after_both; networks = after_is_network; ends = ends_stay; same_ends = ends_were_the_same }
