use Rattle.snapshot.proofs.Differing.{same_lists}
use Rattle.snapshot.proofs.index.shares.Goals as goal

pub returns : goal.returns
returns c = same_lists c.args.lists.now.items c.in_ok-clone.field-0.items (c.in_ok-clone.ensures.cases).0
