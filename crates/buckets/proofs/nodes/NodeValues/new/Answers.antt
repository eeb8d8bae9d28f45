use Rattle.buckets.proofs.Tables.{IsTable-none, entries_of-none}
use Rattle.buckets.proofs.nodes.NodeValues.new.Goals as goal

pub invariant_of-result : goal.invariant_of-result
invariant_of-result c = rw (c.new.ensures.items, c.new-2.ensures.items) IsTable-none

pub returns : goal.returns
returns c = rw (c.new.ensures.items, c.new-2.ensures.items) entries_of-none
