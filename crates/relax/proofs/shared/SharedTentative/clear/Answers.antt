use Rattle.std.proofs.Common.{◌∙◌}
use Rattle.relax.proofs.Words.{on_ok, cleared_shorts, shorts_of}
use Rattle.relax.proofs.shared.SharedTentative.clear.Goals as goal

pub returns-clause-ok : goal.returns-clause-ok
returns-clause-ok c = on_ok c.set.result (λ is. shorts_of is ∙ cleared_shorts c.self.inside.words c.args.node c.args.self.now c.self.view_is c.requires.node.0) c.set.ensures.ok
