use Rattle.words.proofs.InputTwice.{network_and_pairs}
use Rattle.words.proofs.inputs.names_input_twice.Goals as goal

pub returns-in-Batch : goal.returns-in-Batch
returns-in-Batch c = rw c.in-Batch.is (network_and_pairs c.in-Batch.network.now c.in-Batch.pairs c.is_input.result c.pairs_name_input_twice.result c.is_input.ensures c.pairs_name_input_twice.ensures)
