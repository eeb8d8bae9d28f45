use Rattle.std.proofs.Common.{◌≡◌, ◌≤◌, ◌+◌, ℕ, length, map, take}
use Rattle.std.specs.Vec.{vec_len, vec_capacity}
use Rattle.relax.specs.Values.{value_or}
use Rattle.deltastep.proofs.searches.sifting.look_up.Given as goal

abbrev pub invariant-loop-request : goal.invariant-loop-request
invariant-loop-request g l = record {
  known : l.known.items ≡ map (λ (r : ℕ × ℕ). value_or l.top (g.F.Frontier.tentative l.frontier) r.0) (take l.request-index l.requests);
  room : vec_len l.known + length l.requests ≤ vec_capacity l.known + l.request-index;
}
