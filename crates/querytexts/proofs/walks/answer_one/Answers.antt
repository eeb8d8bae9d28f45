use Rattle.std.proofs.Common.{◌∙◌, sym}
use Rattle.roadnet.specs.declared.refusals.Refusal.TheVariants.{NoSuchNode}
use Rattle.routes.specs.declared.replies.RouteReply.TheVariants.{Refused}
use Rattle.querytexts.proofs.Routed.{unrouted, unrefused}
use Rattle.querytexts.proofs.walks.answer_one.Goals as goal

pub returns-then-not-has_nodes-clause-answered : goal.returns-then-not-has_nodes-clause-answered
returns-then-not-has_nodes-clause-answered g c = record {
  reply = Refused NoSuchNode;
  right = unrouted c.args.network.now c.args.s c.args.t (sym c.has_nodes.ensures ∙ c.if-not-has_nodes.true);
  written = c.in_ok-put_no_node.ensures.written;
}

pub returns-in_default-clause-memory : goal.returns-in_default-clause-memory
returns-in_default-clause-memory g c other = absurd (unrefused c.args.network.now c.args.s c.args.t (sym c.has_nodes.ensures ∙ c.if-not-has_nodes.false) other)

pub returns-clause-answered : goal.returns-clause-answered
returns-clause-answered g c =
    let right = c.in-Ok-find.ensures in
    let written = c.in_ok-put_found.ensures.written in
    record { reply = c.in-Ok-find.reply; right = rw c.in-Ok.ensures at right; written = rw c.in-Ok.ensures at written }
