use Rattle.std.proofs.Common.{◌∙◌, sym, true≢false}
use Rattle.roadnet.proofs.Members.{is_member-beyond}
use Rattle.shared_network.proofs.networks.SharedNetwork.is_landmark.Goals as goal

pub returns-else-has_node : goal.returns-else-has_node
returns-else-has_node c =
    c.if-has_node.false
    ∙ sym (is_member-beyond c.args.self.now.nodes c.args.x c.args.self.now.landmarks c.has_node.ensures.network.each_landmark
    (λ node. true≢false (sym (c.has_node.ensures.node.1 node) ∙ c.if-has_node.false)))
