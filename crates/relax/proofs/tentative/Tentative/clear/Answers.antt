use Rattle.std.proofs.Common.{arith}
use Rattle.relax.proofs.Noting.{noted_cleared}
use Rattle.relax.proofs.Words.{cleared_words, length_of_words}
use Rattle.relax.proofs.tentative.Tentative.clear.Goals as goal

pub returns : goal.returns
returns c = record { cleared = cleared_words c.self.inside.words.items c.args.node c.args.self.now c.self.view_is c.requires.node.0 }

pub invariant_of-self : goal.invariant_of-self
invariant_of-self c = noted_cleared (λ nodes. nodes.items) c.self.inside.noted c.self.inside.words.items c.args.node c.requires.node.0 (omega (arith, c.requires.node.1, length_of_words c.self.inside.words.items c.args.self.now c.self.view_is)) c.self.invariant
