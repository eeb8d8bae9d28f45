-- A version of a desk whose view is wanted.
use Rattle.std.specs.Prelude.{◌≡◌, ℕ, ◌+◌, length, Some}
use Rattle.roadnet.specs.Net.{Net}
use Rattle.roadnet.specs.Step.{after}
use Rattle.rows.specs.Views.{Viewed}
use Rattle.history.specs.Origins.{Origin, Beginning}

-- the desk, the version, the network at it, and the view that was shown as it was wanted
pub record Wanted : Type 0 where
  pub origin : Origin
  pub version : ℕ
  pub network : Net
  pub before : Viewed

-- it is the version after these groups of the desk, and the network is that after them
pub record IsWanted (groups : Beginning) (version : ℕ) (network : Net) : Type 0 where
  pub version_is : version ≡ groups.origin.version + length groups.groups
  pub network_is : after groups.origin.base groups.groups ≡ Some network
