use Rattle.std.proofs.Common.{◌≡◌, ℕ, ◌<◌, ◌≤◌, ◌^◌, List, Option, Some, IsSome, All, length, get_or, unwrap_or, is_some, sym, subst, ap, arith, rules}
use Rattle.std.proofs.lemmas.List.{take_all}
use Rattle.std.proofs.lemmas.List.Elements.{All-more}
use Rattle.relax.specs.Values.{value_at, value_or}
use Rattle.search_tests.proofs.relaxing.are_ready.Goals as goal

pub loop-node-preserved : goal.loop-node-preserved
loop-node-preserved c =
    let lt : c.loop-node.node-index < length c.args.nodes.now = c.loop-node-test.true in
    let there : (1 ≤ get_or c.args.nodes.now c.loop-node.node-index 0) × (get_or c.args.nodes.now c.loop-node.node-index 0 ≤ c.args.snapshot.now.nodes) = search rules in
    let known : value_at c.args.tentative.now (get_or c.args.nodes.now c.loop-node.node-index 0) ≡ Some c.in-Some.value = sym c.in-Some.ensures.value in
    record {
      nodes = All-more (λ u. (1 ≤ u) × (u ≤ c.args.snapshot.now.nodes)) c.args.nodes.now c.loop-node.node-index 0 lt c.loop-node.invariant.nodes there;
      values = All-more (λ u. IsSome (value_at c.args.tentative.now u) × (value_or 0 c.args.tentative.now u < 2 ^ 56)) c.args.nodes.now c.loop-node.node-index 0 lt c.loop-node.invariant.values (ap is_some known, omega (arith, c.if-value.false, ap (λ (o : Option ℕ). unwrap_or o 0) known));
    }

pub returns-clause-nodes : goal.returns-clause-nodes
returns-clause-nodes c = subst (λ (l : List ℕ). All (λ u. (1 ≤ u) × (u ≤ c.args.snapshot.now.nodes)) l) (take_all c.loop-node.node-index c.args.nodes.now c.loop-node-test.false) c.loop-node.invariant.nodes

pub returns-clause-values : goal.returns-clause-values
returns-clause-values c = subst (λ (l : List ℕ). All (λ u. IsSome (value_at c.args.tentative.now u) × (value_or 0 c.args.tentative.now u < 2 ^ 56)) l) (take_all c.loop-node.node-index c.args.nodes.now c.loop-node-test.false) c.loop-node.invariant.values
