-- Tables of refusals with their conditions, and the lowest one that applies.
use Rattle.std.specs.Prelude.{◌≤◌, Bool, true, List, [], ◌∷◌, Option, None, Some, Contains, MatchOption, if◌then◌else◌}
use Rattle.roadnet.specs.declared.refusals.Refusal.{Refusal}
use Rattle.roadnet.specs.Numbers.{number_of}

-- the table has this refusal, and its condition holds
abbrev pub Applies : List (Refusal × Bool) → Refusal → Type 0
Applies table refusal = Contains table (refusal, true)

-- the first refusal of the table whose condition holds, or none
abbrev pub first_applying : List (Refusal × Bool) → Option Refusal
first_applying [] = None
first_applying (row ∷ rows) = if row.1 then Some row.0 else first_applying rows

-- it applies, and none of a lower number does
pub record IsLowest (table : List (Refusal × Bool)) (refusal : Refusal) : Type 0 where
  pub applies : Applies table refusal
  pub lowest : (other : Refusal) → Applies table other → number_of refusal ≤ number_of other

-- the answer to a table: the lowest refusal that applies, or none where none does
abbrev pub IsAnswerTo : List (Refusal × Bool) → Option Refusal → Type 0
IsAnswerTo table answer = MatchOption answer ((refusal : Refusal) → ¬ Applies table refusal) (IsLowest table)
