use Rattle.std.proofs.Common.{◌+◌, take, refl, ◌∙◌, arith}
use Rattle.std.specs.Prelude.{map}
use Rattle.pages.specs.Spelling.{ends_of, word_of}
use Rattle.checkpoint.proofs.Places.{map_set_same, ends_put}
use Rattle.checkpoint.proofs.laid.put_ends.Goals as goal

pub loop-i-preserved : goal.loop-i-preserved
loop-i-preserved c = record {
  put = ends_put (map ends_of (take c.args.first c.args.arcs.now)) c.loop-i.arcs c.args.ends.now c.args.first c.loop-i.i _ _ (omega arith) (omega arith) c.loop-i.invariant.put refl;
  words = map_set_same word_of c.loop-i.arcs (c.args.first + c.loop-i.i) _ _ (omega arith) refl ∙ c.loop-i.invariant.words;
}
