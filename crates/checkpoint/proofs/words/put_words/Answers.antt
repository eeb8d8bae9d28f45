use Rattle.std.proofs.Common.{◌+◌, take, refl, ◌∙◌, arith}
use Rattle.std.specs.Prelude.{map}
use Rattle.pages.specs.Spelling.{ends_of, word_of}
use Rattle.checkpoint.proofs.Places.{map_set_same, word_put}
use Rattle.checkpoint.proofs.words.put_words.Goals as goal

pub loop-i-preserved : goal.loop-i-preserved
loop-i-preserved c = record {
  words = word_put (map word_of (take c.args.first c.args.arcs.now)) c.loop-i.arcs c.args.words.now c.args.first c.loop-i.i _ _ (omega arith) (omega arith) c.loop-i.invariant.words refl;
  ends = map_set_same ends_of c.loop-i.arcs (c.args.first + c.loop-i.i) _ _ (omega arith) refl ∙ c.loop-i.invariant.ends;
}
