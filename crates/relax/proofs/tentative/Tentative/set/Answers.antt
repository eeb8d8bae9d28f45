use Rattle.std.proofs.Common.{◌∷◌, None, IfSome, map, sym, subst, arith}
use Rattle.relax.specs.Values.{value_of_word}
use Rattle.relax.specs.Noted.{AreNoted}
use Rattle.relax.proofs.Noting.{noted_set}
use Rattle.relax.proofs.Words.{set_of_words, length_of_words}
use Rattle.relax.proofs.tentative.Tentative.set.Goals as goal

pub returns-then-is_none : goal.returns-then-is_none
returns-then-is_none c = record { set = set_of_words c.self.inside.words.items c.args.node c.args.value c.args.self.now c.self.view_is c.requires.node.0 c.requires.value }

pub returns : goal.returns
returns c = record { set = set_of_words c.self.inside.words.items c.args.node c.args.value c.args.self.now c.self.view_is c.requires.node.0 c.requires.value }

pub invariant_of-self-2 : goal.invariant_of-self-2
invariant_of-self-2 c =
    noted_set (λ nodes. nodes.items) c.take.result c.noted_with-noted.result c.self.inside.words.items c.args.node c.args.value c.index-word.result.now c.index-word.result.now c.index-word.ensures c.requires.node.0
    (omega (arith, c.requires.node.1, length_of_words c.self.inside.words.items c.args.self.now c.self.view_is)) c.requires.value
    (subst (λ o. IfSome o (λ nodes. AreNoted (None ∷ map value_of_word c.self.inside.words.items) nodes.items)) (sym c.take.ensures.value) c.self.invariant)
    c.noted_with-noted.ensures.more c.noted_with-noted.ensures.same c.noted_with-noted.ensures.none
