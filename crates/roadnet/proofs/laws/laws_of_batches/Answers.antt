use Rattle.roadnet.proofs.InTurn.{admitted_fits, after_all_is_changed, after_is_changed, groups_are_their_commands, refused_as_their_commands, all_admitted_fit, first_refusal_is_of_the_first}
use Rattle.roadnet.proofs.laws.laws_of_batches.Goals as goal

pub returns : goal.returns
returns c = record { first_refused = first_refusal_is_of_the_first; carried_out = after_is_changed; all_carried_out = after_all_is_changed; flat = groups_are_their_commands; flat_refused = refused_as_their_commands; fits = admitted_fits; all_fit = all_admitted_fit }
