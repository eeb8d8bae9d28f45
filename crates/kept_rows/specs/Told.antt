-- What the row of one landmark tells of the walks from a node s to a node t.
use Rattle.std.specs.Prelude.{ℕ, ◌-◌, List, Option, None, Some}
use Rattle.roadnet.specs.Walks.{distance_at}

-- by the lengths of its walks to both, where there are any: nothing where they show that there is no walk, else the difference, or 0 where there is none
abbrev pub difference_of : Option ℕ → Option ℕ → Option ℕ
difference_of None to_target = Some 0
difference_of (Some to_source) None = None
difference_of (Some to_source) (Some to_target) = Some (to_target - to_source)

abbrev pub told_by_row : List (Option ℕ) → ℕ → ℕ → Option ℕ
told_by_row row s t = difference_of (distance_at row s) (distance_at row t)
