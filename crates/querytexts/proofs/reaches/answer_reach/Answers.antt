use Rattle.std.proofs.Common.{◌≡◌, ◌∙◌, ℕ, rules, true, false, sym, subst, true≢false}
use Rattle.roadnet.proofs.InTurn.{node_is}
use Rattle.roadnet.specs.Net.{IsNode}
use Rattle.roadnet.specs.Step.{is_node}
use Rattle.querytexts.proofs.Reached.{told_reached, unreached}
use Rattle.querytexts.proofs.reaches.answer_reach.Goals as goal

pub find-requires-clause-node : goal.find-requires-clause-node
find-requires-clause-node g c = subst (IsNode c.args.network.now) c.center.ensures (c.has_node.ensures.node.0 c.if-not-has_node.false)

pub returns-then-not-has_node-clause-answered : goal.returns-then-not-has_node-clause-answered
returns-then-not-has_node-clause-answered g c =
    let net = c.args.network.now in
    let told = node_is net c.center.result c.has_node.result c.has_node.ensures.node.0 c.has_node.ensures.node.1 in
    let other = subst (λ (x : ℕ). is_node net x ≡ false) c.center.ensures (told ∙ c.if-not-has_node.true) in
    unreached net c.args.reach c.args.limit _ _ other c.in_ok-put_no_node.ensures.written

pub returns-in_default-clause-memory : goal.returns-in_default-clause-memory
returns-in_default-clause-memory g c other =
    let net = c.args.network.now in
    let told = node_is net c.center.result c.has_node.result c.has_node.ensures.node.0 c.has_node.ensures.node.1 in
    let one = subst (λ (x : ℕ). is_node net x ≡ true) c.center.ensures (told ∙ c.if-not-has_node.false) in
    absurd (true≢false (sym one ∙ other))

pub returns-clause-answered : goal.returns-clause-answered
returns-clause-answered g c =
    let net = c.args.network.now in
    let told = node_is net c.center.result c.has_node.result c.has_node.ensures.node.0 c.has_node.ensures.node.1 in
    let one = subst (λ (x : ℕ). is_node net x ≡ true) c.center.ensures (told ∙ c.if-not-has_node.false) in
    let list : c.deref.result.now ≡ c.in-Ok.told.items = search rules in
    let written = c.in_ok-put_found.ensures.written in
    told_reached net c.args.reach c.args.limit _ _ c.in-Ok.told.items one c.in-Ok.ensures (rw list at written)
