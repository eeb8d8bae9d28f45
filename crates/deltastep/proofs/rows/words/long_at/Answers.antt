use Rattle.std.proofs.Common.{arith}
use Rattle.deltastep.specs.Words.{no_walk}
use Rattle.deltastep.proofs.Entries.{entry_none, entry_some}
use Rattle.deltastep.proofs.rows.words.long_at.Goals as goal

pub returns-then-word : goal.returns-then-word
returns-then-word c = entry_none no_walk c.args.words.now c.args.node (omega (arith, c.if-node-eq0.false)) (omega (arith, c.if-node-words.false)) c.if-word.true

pub returns-else-word : goal.returns-else-word
returns-else-word c = entry_some no_walk c.args.words.now c.args.node (omega (arith, c.if-node-eq0.false)) (omega (arith, c.if-node-words.false)) c.if-word.false
