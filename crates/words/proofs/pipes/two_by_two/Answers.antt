use Rattle.std.proofs.Common.{length, ap, rules}
use Rattle.words.specs.Pipes.{names_of}
use Rattle.words.proofs.PipeNames.{asks_more, asks_none, pair_more}
use Rattle.words.proofs.pipes.two_by_two.Goals as goal

pub loop-k-init : goal.loop-k-init
loop-k-init c =
    let none = c.new-pairs.ensures.items in record { names = ap names_of none; asking = asks_none c.args.changing _ none; count = ap length none }

pub loop-k-preserved : goal.loop-k-preserved
loop-k-preserved c =
    let had = c.loop-k.invariant in
    record {
      names = pair_more c.args.names.now c.loop-k.pairs.items c.push.new.self.items c.loop-k.k _ _ c.loop-k-test.true c.in_ok-push.ensures.items had.names;
      asking = asks_more c.args.changing c.loop-k.pairs.items c.push.new.self.items _ c.loop-k.k had.count c.in_ok-push.ensures.items (search rules) had.asking;
      count = search rules;
    }
