use Rattle.std.proofs.Common.{ap, refl}
use Rattle.roadnet.proofs.Reversed.{IsNetwork-reversed_parts}
use Rattle.shared_network.proofs.networks.SharedNetwork.reversed.Goals as goal

pub invariant_of-result : goal.invariant_of-result
invariant_of-result c = IsNetwork-reversed_parts _ _ _ _ _ refl c.in_ok-reversed_arcs.ensures (ap (λ v. v.items) c.in_ok-try_clone.ensures) refl c.self.invariant
