use Rattle.querytexts.proofs.walks.find.Goals as goal

pub returns : goal.returns
returns g c = rw c.of-asker.ensures at c.answer_route.ensures.right
