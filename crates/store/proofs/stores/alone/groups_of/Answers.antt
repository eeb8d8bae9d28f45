use Rattle.std.proofs.Common.{rules}
use Rattle.store.proofs.EachAlone.{one_more, all_of}
use Rattle.store.proofs.stores.alone.groups_of.Goals as goal

pub loop-at-preserved : goal.loop-at-preserved
loop-at-preserved c = rw c.one.ensures (one_more c.loop-at.groups c.args.commands.now c.loop-at.at _ c.loop-at-test.true (search rules) c.loop-at.invariant)

pub returns : goal.returns
returns c = all_of c.loop-at.groups c.args.commands.now c.loop-at.at c.loop-at-test.false c.loop-at.auto.at-end c.loop-at.invariant
