use Rattle.std.proofs.lemmas.Result.{err_from_is_err_and}
use Rattle.roadnet.specs.Members.{set_of}
use Rattle.dimacs.specs.Format.{ss}
use Rattle.dimacs.specs.Landmarks.{node_from}
use Rattle.dimacs.specs.Listed.{text_of_items}
use Rattle.dimacs.proofs.TextEnds.{reads_ok, reads_err}
use Rattle.dimacs.proofs.TextNodes.{set_of_nodes}
use Rattle.dimacs.proofs.lists.landmarks.read_ss.Goals as goal

pub returns-clause-read : goal.returns-clause-read
returns-clause-read g c = rw c.as_set.ensures.set (reads_ok set_of (text_of_items (ss c.args.nodes) node_from) _ _ _ c.in_ok-landmarks.ensures.read)

pub returns-in_err-landmarks-clause-read : goal.returns-in_err-landmarks-clause-read
returns-in_err-landmarks-clause-read g c =
    let p = err_from_is_err_and c.from_residual.result c.from_residual.ensures.1 in
    rw (p.1, p.2)
    (reads_err set_of (text_of_items (ss c.args.nodes) node_from) (g.S.Text.bytes c.args.text.now) (g.S.Text.source c.read_items.new.text) _ c.in_err-landmarks.ensures.read)

pub returns-clause-nodes : goal.returns-clause-nodes
returns-clause-nodes g c = set_of_nodes c.args.nodes c.in_ok-landmarks.landmarks.items c.as_set.result.items c.in_ok-landmarks.ensures.said c.as_set.ensures.set
