use Rattle.std.proofs.Common.{◌≡◌, ◌+◌, length}
use Rattle.search_tests.proofs.relaxing.given.Given as goal

abbrev pub invariant-loop-node : goal.invariant-loop-node
invariant-loop-node l = length l.tentative ≡ l.snapshot.nodes + 1
