use Rattle.deltastep.proofs.questions.nearest.NearestQuestion.answer.Goals as goal

pub nearest_by-requires : goal.nearest_by-requires
nearest_by-requires c = record { nodes = c.requires.suits.nodes; ascending = c.requires.suits.ascending; enough = c.requires.enough }
