use Rattle.std.proofs.Common.{◌∙◌, sym, true≢false}
use Rattle.roadnet.proofs.Members.{is_member-beyond}
use Rattle.roadnet.proofs.networks.Network.is_landmark.Goals as goal

pub returns-else-has_node : goal.returns-else-has_node
returns-else-has_node c =
    c.if-has_node.false
    ∙ sym (rw (← c.self.view_is) (is_member-beyond c.self.inside.nodes c.args.x c.self.inside.landmarks.items c.self.invariant.each_landmark
    (λ node. true≢false (sym (c.has_node.ensures.node.1 (rw (← c.self.view_is) node)) ∙ c.if-has_node.false))))
