use Rattle.deltastep.proofs.questions.nearest.NearestQuestion.is_enough.Goals as goal

pub count_known-requires : goal.count_known-requires
count_known-requires g c = record { nodes = c.requires.suits.nodes }
