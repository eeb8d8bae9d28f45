-- What a node reaches in the reversed network is what reaches it in the network.
use Rattle.std.proofs.Common.{ℕ, List, sym, subst}
use Rattle.roadnet.specs.Net.{Net, IsNetwork}
use Rattle.roadnet.specs.Reversal.{reversed}
use Rattle.roadnet.specs.Walks.{Least}
use Rattle.roadnet.proofs.Reversed.{IsNetwork-reversed, least_reverses, reversed_twice}
use Rattle.deltastep.specs.Reach.{IsReach, IsReachTo}
use Rattle.deltastep.specs.declared.rows.known.NodeDistance.{NodeDistance}

least_turned : (net : Net) (s t d : ℕ) → IsNetwork net → Least net s t d → Least (reversed net) t s d
least_turned net s t d is least = least_reverses (reversed net) t s d (IsNetwork-reversed net is) (subst (λ (n : Net). Least n s t d) (sym (reversed_twice net)) least)

pub IsReachTo-reversed : (net : Net) (target limit : ℕ) (told : List NodeDistance) → IsNetwork net → IsReach (reversed net) target limit told → IsReachTo net target limit told
IsReachTo-reversed net target limit told is reach = record {
  ascending = reach.ascending;
  right = λ u d c. let r = reach.right u d c in (r.0, least_reverses net u target d is r.1, r.2);
  each = λ u d node least within. reach.each u d node (least_turned net u target d is least) within;
}
