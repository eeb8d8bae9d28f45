-- A group put behind those that were accepted.
use Rattle.std.specs.Prelude.{◌≡◌, List, [], ◌∷◌, ◌++◌, Result, MatchResult}
use Rattle.roadnet.specs.declared.groups.Group.{Group}
use Rattle.roadnet.specs.Outlines.{Outlined, EachStepsByGroup}

-- it stands behind the others, and the outline of their network has taken its step
pub record IsAccepted (group : Group) (old new : List Group) (before now : Outlined) : Type 0 where
  pub history : new ≡ old ++ group ∷ []
  pub accepted : EachStepsByGroup before group now

-- nothing has changed
pub record IsNotAccepted (old new : List Group) (before now : Outlined) : Type 0 where
  pub same_history : new ≡ old
  pub same_accepted : now ≡ before

-- the first where the call succeeds, else the other
abbrev pub Accepts : {T E : Type 0} → Group → Result T E → List Group → List Group → Outlined → Outlined → Type 0
Accepts group result old new before now = MatchResult result (λ _. IsAccepted group old new before now) (λ _. IsNotAccepted old new before now)
