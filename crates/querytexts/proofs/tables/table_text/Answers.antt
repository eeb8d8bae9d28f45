use Rattle.std.specs.Prelude.{vec_items}
use Rattle.std.proofs.lemmas.Result.{err_from_is_err_and}
use Rattle.querytexts.specs.Table.{IsOfTable}
use Rattle.querytexts.proofs.Unanswered.{kind_of}
use Rattle.querytexts.proofs.Refusing.{network_read, nodes_read, sources_refused, targets_refused, table_unanswered}
use Rattle.querytexts.proofs.tables.table_text.Goals as goal

pub returns-in_err-from-clause-refused : goal.returns-in_err-from-clause-refused
returns-in_err-from-clause-refused g c =
    let p = err_from_is_err_and c.from_residual-in_err-from.result c.from_residual-in_err-from.ensures.1 in
    let network = network_read _ _ c.read_gr.result c.in_ok-network.network c.in_ok-network.ensures c.read_gr.ensures.read in
    rw (p.1, p.2) (sources_refused vec_items _ _ _ (g.N.Text.source c.read_gr.new.text) _ (g.Q.Text.source c.args.targets.now) c.in_ok-network.network _ c.read_nodes.result _ c.nodes-nodes.ensures.value c.in_err-from.ensures network c.read_nodes.ensures.read)

pub returns-in_err-to-clause-refused : goal.returns-in_err-to-clause-refused
returns-in_err-to-clause-refused g c =
    let p = err_from_is_err_and c.from_residual-in_err-to.result c.from_residual-in_err-to.ensures.1 in
    let network = network_read _ _ c.read_gr.result c.in_ok-network.network c.in_ok-network.ensures c.read_gr.ensures.read in
    let sources = nodes_read vec_items _ _ c.in_ok-network.network _ 1 c.read_nodes.result c.in_ok-from.from c.nodes-nodes.ensures.value c.in_ok-from.ensures c.read_nodes.ensures.read in
    rw (p.1, p.2) (targets_refused vec_items _ _ _ (g.N.Text.source c.read_gr.new.text) (g.P.Text.source c.read_nodes.new.text) _ c.in_ok-network.network _ _ c.read_nodes-2.result _ c.nodes-nodes.ensures.value c.in_err-to.ensures network sources c.read_nodes-2.ensures.read)

pub returns-clause-refused : goal.returns-clause-refused
returns-clause-refused g c =
    let network = network_read _ _ c.read_gr.result c.in_ok-network.network c.in_ok-network.ensures c.read_gr.ensures.read in
    let sources = nodes_read vec_items _ _ c.in_ok-network.network _ 1 c.read_nodes.result c.in_ok-from.from c.nodes-nodes.ensures.value c.in_ok-from.ensures c.read_nodes.ensures.read in
    let targets = nodes_read vec_items _ _ c.in_ok-network.network _ 2 c.read_nodes-2.result c.in_ok-to.to c.nodes-nodes.ensures.value c.in_ok-to.ensures c.read_nodes-2.ensures.read in
    table_unanswered _ _ _ (g.N.Text.source c.read_gr.new.text) (g.P.Text.source c.read_nodes.new.text) (g.Q.Text.source c.read_nodes-2.new.text) c.in_ok-network.network _ _ c.answer_table.result network sources targets c.answer_table.ensures.answers.refused

pub returns-clause-codes : goal.returns-clause-codes
returns-clause-codes g c = kind_of IsOfTable c.answer_table.result (λ refusal h. h) c.answer_table.ensures.answers.refused
