use Rattle.std.proofs.Common.{arith}
use Rattle.deltastep.proofs.Ending.{div-le_last}
use Rattle.deltastep.proofs.questions.asked.last_of.Goals as goal

pub returns : goal.returns
returns c = div-le_last c.saturating_add.result c.args.bucket c.args.delta c.requires.positive (omega (arith, c.saturating_mul.ensures, c.saturating_add.ensures))
