use Rattle.std.proofs.Common.{◌≤◌, ◌<◌, ◌^◌, take, IsSome, All}
use Rattle.relax.specs.Values.{value_at, value_or}
use Rattle.search_tests.proofs.relaxing.are_ready.Given as goal

abbrev pub invariant-loop-node : goal.invariant-loop-node
invariant-loop-node l = record {
  nodes : All (λ u. (1 ≤ u) × (u ≤ l.snapshot.nodes)) (take l.node-index l.nodes);
  values : All (λ u. IsSome (value_at l.tentative u) × (value_or 0 l.tentative u < 2 ^ 56)) (take l.node-index l.nodes);
}
