use Rattle.std.proofs.Common.{Some, ◌∙◌, ap, sym, arith}
use Rattle.deltastep.specs.Words.{no_short_walk}
use Rattle.deltastep.proofs.Entries.{entry_none, entry_some}
use Rattle.deltastep.proofs.rows.words.short_at.Goals as goal

pub returns-then-word : goal.returns-then-word
returns-then-word c = entry_none no_short_walk c.args.words.now c.args.node (omega (arith, c.if-node-eq0.false)) (omega (arith, c.if-node-len.false, c.len.ensures)) (c.get-word.ensures.word 0 ∙ c.if-word.true)

pub returns : goal.returns
returns c = ap (λ w. Some w) (c.from.ensures ∙ sym (c.get-word.ensures.word 0)) ∙ entry_some no_short_walk c.args.words.now c.args.node (omega (arith, c.if-node-eq0.false)) (omega (arith, c.if-node-len.false, c.len.ensures)) (λ e. c.if-word.false (sym (c.get-word.ensures.word 0) ∙ e))
