use Rattle.dimacs.specs.Lines.{fields}
use Rattle.dimacs.proofs.NodeItems.{pair_row}
use Rattle.dimacs.proofs.lists.pairs.PairNodeItem.read.Goals as goal

pub returns-clause-item : goal.returns-clause-item
returns-clause-item c = rw c.read_pair.ensures.value (pair_row c.args.nodes (fields c.args.numbers.now))
