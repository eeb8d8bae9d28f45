-- What is seen of a network at one number.
use Rattle.std.specs.Prelude.{◌≡◌, ℕ, length}
use Rattle.roadnet.specs.Net.{Net, arc_at}
use Rattle.roadnet.specs.Step.{is_landmark}
use Rattle.keeper.specs.declared.networks.leading.SeenPlace.{SeenPlace}

-- this is seen of the network at arc k and node k
pub record SeesAt (net : Net) (k : ℕ) (seen : SeenPlace) : Type 0 where
  pub arc : arc_at net k ≡ seen.arc
  pub marked : is_landmark net k ≡ seen.marked
  pub arcs : length net.arcs ≡ seen.arcs
