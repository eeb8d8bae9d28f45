use Rattle.std.proofs.Common.{◌<◌, get_or, take, length, sym, ap, ◌∙◌, arith}
use Rattle.std.specs.FinMap.{remove}
use Rattle.std.proofs.lemmas.List.{take_more}
use Rattle.buckets.specs.Tables.{without}
use Rattle.buckets.proofs.Taken.{without-none, without-push}
use Rattle.buckets.proofs.nodes.NodeValues.remove_all.Goals as goal

pub loop-node-init : goal.loop-node-init
loop-node-init c = sym (without-none c.args.self.now)

pub loop-node-preserved : goal.loop-node-preserved
loop-node-preserved c =
    let nodes = c.args.nodes.now in
    let i = c.loop-node.node-index in
    let lt : i < length nodes = omega arith in
    c.remove.ensures ∙ (ap (λ m. remove m (get_or nodes i 0)) c.loop-node.invariant
    ∙ (sym (without-push (take i nodes) (get_or nodes i 0) c.args.self.now) ∙ ap (λ ks. without ks c.args.self.now) (sym (take_more nodes i 0 lt))))
