-- What the distances from landmarks tell of the walks from a node s to a node t.
use Rattle.std.specs.Prelude.{◌≡◌, ◌⊎◌, ℕ, ◌-◌, ◌≤◌, List, Contains}
use Rattle.roadnet.specs.Net.{Net}
use Rattle.roadnet.specs.Walks.{Least, NoWalk}

-- A walk leads from the landmark to s, and none to t: so none leads from s to t.
pub record ShowsNoWalk (net : Net) (s t landmark : ℕ) : Type 0 where
  pub to_source : ℕ
  pub source : Least net landmark s to_source
  pub target : NoWalk net landmark t

-- by how much the way from the landmark to t is longer than its way to s, or 0 where it is not
pub record HasDifference (net : Net) (s t difference landmark : ℕ) : Type 0 where
  pub to_source : ℕ
  pub to_target : ℕ
  pub source : Least net landmark s to_source
  pub target : Least net landmark t to_target
  pub difference_is : difference ≡ to_target - to_source

-- one of these landmarks shows that no walk leads from s to t
pub record IsShownBy (landmarks : List ℕ) (net : Net) (s t : ℕ) : Type 0 where
  pub landmark : ℕ
  pub among : Contains landmarks landmark
  pub shows : ShowsNoWalk net s t landmark

-- None of these landmarks shows that no walk leads from s to t, and this is the greatest of 0 and their differences.
pub record IsBoundBy (landmarks : List ℕ) (net : Net) (s t bound : ℕ) : Type 0 where
  pub not_shown : (landmark : ℕ) → Contains landmarks landmark → ¬ ShowsNoWalk net s t landmark
  pub above : (landmark difference : ℕ) → Contains landmarks landmark → HasDifference net s t difference landmark → difference ≤ bound
  pub reached : (bound ≡ 0) ⊎ ((landmark : ℕ) × Contains landmarks landmark × HasDifference net s t bound landmark)

-- what all landmarks of the network tell: that there is no walk, or else a bound
abbrev pub IsShown : Net → ℕ → ℕ → Type 0
IsShown net s t = IsShownBy net.landmarks net s t

abbrev pub IsBound : Net → ℕ → ℕ → ℕ → Type 0
IsBound net s t bound = IsBoundBy net.landmarks net s t bound
