use Rattle.lives.proofs.rehearsing.Run.end.Goals as goal

pub returns-clause-left : goal.returns-clause-left
returns-clause-left g c came = (c.close-groups.ensures.holds came).each_left
