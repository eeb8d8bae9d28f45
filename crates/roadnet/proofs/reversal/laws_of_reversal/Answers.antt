use Rattle.roadnet.proofs.Reversed.{reversed_twice, walks_reverse, least_reverses, no_walk_reverses, reversed_row_is_to}
use Rattle.roadnet.proofs.reversal.laws_of_reversal.Goals as goal

pub returns : goal.returns
returns c = record { twice = reversed_twice; walks = walks_reverse; least = least_reverses; no_walk = no_walk_reverses; rows = reversed_row_is_to }
