use Rattle.std.proofs.Common.{◌∙◌, Some, ap, sym}
use Rattle.relax.proofs.Words.{short_at, none_of_short, some_of_short}
use Rattle.relax.proofs.shared.SharedTentative.get.Goals as goal

pub returns-then-word : goal.returns-then-word
returns-then-word c = record { value = sym (short_at c.self.inside.words c.args.node c.get-word.result c.args.self.now c.self.view_is c.requires.node.0 c.requires.node.1 c.get-word.ensures.word ∙ none_of_short c.get-word.result c.if-word.true) }

pub returns : goal.returns
returns c = record { value = ap (λ w. Some w) c.from.ensures ∙ sym (short_at c.self.inside.words c.args.node c.get-word.result c.args.self.now c.self.view_is c.requires.node.0 c.requires.node.1 c.get-word.ensures.word ∙ some_of_short c.get-word.result c.if-word.false) }
