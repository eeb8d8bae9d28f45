use Rattle.dimacs.specs.Lines.{fields}
use Rattle.dimacs.proofs.NodeItems.{node_row}
use Rattle.dimacs.proofs.lists.landmarks.U32NodeItem.read.Goals as goal

pub returns-clause-item : goal.returns-clause-item
returns-clause-item c = rw c.read_node.ensures.value (node_row c.args.nodes (fields c.args.numbers.now))
