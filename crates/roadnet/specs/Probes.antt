-- What is seen of a network at one arc and one node.
use Rattle.std.specs.Prelude.{◌≡◌, ℕ, length}
use Rattle.roadnet.specs.declared.probes.ProbedPlace.{ProbedPlace}
use Rattle.roadnet.specs.Net.{Net}
use Rattle.roadnet.specs.Step.{is_landmark}
use Rattle.roadnet.specs.Batches.{opened_at}

-- this is seen of the network at arc k and node x
pub record Sees (net : Net) (k x : ℕ) (seen : ProbedPlace) : Type 0 where
  pub opened : opened_at net k ≡ seen.opened
  pub arcs : length net.arcs ≡ seen.arcs
  pub marked : is_landmark net x ≡ seen.marked
  pub landmarks : length net.landmarks ≡ seen.landmarks
