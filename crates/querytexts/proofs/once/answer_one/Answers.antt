use Rattle.std.proofs.Common.{rules}
use Rattle.querytexts.proofs.once.answer_one.Goals as goal

pub returns-clause-answered : goal.returns-clause-answered
returns-clause-answered g c = record { reply = c.in-Ok.reply; right = c.in-Ok.ensures.right; written = search rules }
