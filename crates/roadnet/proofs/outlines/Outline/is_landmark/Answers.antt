use Rattle.std.proofs.Common.{◌≡◌, ◌∙◌, false, sym}
use Rattle.roadnet.specs.Made.{is_node_among}
use Rattle.roadnet.proofs.Outlined.{unmarked_beyond}
use Rattle.roadnet.proofs.outlines.Outline.is_landmark.Goals as goal

pub returns-else-has_node : goal.returns-else-has_node
returns-else-has_node c =
    let beyond : is_node_among c.args.self.now.nodes c.args.x ≡ false = sym c.has_node.ensures ∙ c.if-has_node.false in
    c.if-has_node.false ∙ sym (unmarked_beyond c.args.self.now c.args.x (rw (c.self.view_is) at c.self.invariant) beyond)
