use Rattle.std.proofs.Common.{arith}
use Rattle.byteorder.specs.Endian.{big_number}
use Rattle.pages.proofs.Items.{goes_on, is_done}
use Rattle.pages.proofs.slot_head.read_numbers.Goals as goal

pub loop-preserved : goal.loop-preserved
loop-preserved c = record {
  so_far =
      rw (c.in_ok-push.ensures.items, c.read_u32.ensures, c.split_at.ensures.front, c.split_at.ensures.back)
      (goes_on (big_number 4) 4 c.loop.numbers.items c.args.count c.loop.counter c.loop.rest.now _ c.loop-test.true c.loop.invariant.so_far);
  room = omega arith;
}

pub returns : goal.returns
returns c = is_done (big_number 4) 4 c.loop.numbers.items c.args.count c.loop.counter c.loop.rest.now _ c.loop-test.false c.loop.invariant.so_far
