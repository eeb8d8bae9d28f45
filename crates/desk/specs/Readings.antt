-- What a reader of a desk knows, and the view that it looked at last.
use Rattle.std.specs.Prelude.{◌≡◌, ◌⊎◌, ◌+◌, List, length, Some}
use mathlib.Core.List.{IsPrefix}
use Rattle.roadnet.specs.declared.groups.Group.{Group}
use Rattle.roadnet.specs.declared.refusals.Refusal.{Refusal}
use Rattle.roadnet.specs.declared.refusals.Refusal.TheVariants.{Closed, NoReaderPlace}
use Rattle.roadnet.specs.Step.{after}
use Rattle.rows.specs.Views.{Viewed}
use Rattle.history.specs.Origins.{Origin, Beginning}
use Rattle.published.specs.Showing.{IsUnseen}

-- the groups that it has seen or was told of, and the view
pub record Reading : Type 0 where
  pub known : Beginning
  pub view : Viewed

-- The view is of the desk's network after these groups, and has the version after them.
pub record IsViewAfter (origin : Origin) (groups : List Group) (view : Viewed) : Type 0 where
  pub network : after origin.base groups ≡ Some view.network
  pub version : view.version ≡ origin.version + length groups

-- The view is that after groups with which those begin that are known.
pub record HasSeen (reading : Reading) : Type 0 where
  pub seen : List Group
  pub begins : IsPrefix seen reading.known.groups
  pub after_seen : IsViewAfter reading.known.origin seen reading.view

-- why there is no place for a reader: none was found free, or the desk is closed
abbrev pub IsNoPlace : Refusal → Type 0
IsNoPlace refusal = (refusal ≡ NoReaderPlace) ⊎ (refusal ≡ Closed)

-- why there is no reader: no place for it, or a first look that was refused
abbrev pub IsNoReader : Refusal → Type 0
IsNoReader refusal = (refusal ≡ NoReaderPlace) ⊎ IsUnseen refusal
