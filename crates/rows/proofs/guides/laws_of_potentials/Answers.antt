use Rattle.rows.proofs.Potentials.{potential_is_consistent, potential_at_target}
use Rattle.rows.proofs.guides.laws_of_potentials.Goals as goal

pub returns : goal.returns
returns c = record { consistent = potential_is_consistent; at_target = potential_at_target }
