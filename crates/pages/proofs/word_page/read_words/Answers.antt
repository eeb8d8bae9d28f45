use Rattle.std.proofs.Common.{arith}
use Rattle.pages.specs.Reading.{read_word}
use Rattle.pages.proofs.Items.{goes_on, is_done}
use Rattle.pages.proofs.word_page.read_words.Goals as goal

pub loop-preserved : goal.loop-preserved
loop-preserved c = record {
  so_far =
      rw (c.in_ok-push.ensures.items, c.read_word.ensures, c.split_at.ensures.front, c.split_at.ensures.back)
      (goes_on read_word 4 c.loop.words.items c.args.count c.loop.counter c.loop.rest.now _ c.loop-test.true c.loop.invariant.so_far);
  room = omega arith;
}

pub returns : goal.returns
returns c = is_done read_word 4 c.loop.words.items c.args.count c.loop.counter c.loop.rest.now _ c.loop-test.false c.loop.invariant.so_far
