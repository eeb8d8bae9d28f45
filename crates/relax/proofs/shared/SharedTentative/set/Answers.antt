use Rattle.std.proofs.Common.{◌∙◌}
use Rattle.relax.proofs.Words.{on_ok, set_of_shorts, shorts_of}
use Rattle.relax.proofs.shared.SharedTentative.set.Goals as goal

pub returns-clause-ok : goal.returns-clause-ok
returns-clause-ok c = on_ok c.set.result (λ is. shorts_of is ∙ set_of_shorts c.self.inside.words c.args.node c.args.value c.args.self.now c.self.view_is c.requires.node.0 c.requires.value) c.set.ensures.ok
