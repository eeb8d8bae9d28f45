use Rattle.deltastep.proofs.Guiding.{consistent_is_lower_bound}
use Rattle.deltastep.proofs.questions.guided.laws_of_guides.Goals as goal

pub returns : goal.returns
returns c = record { consistent = consistent_is_lower_bound }
