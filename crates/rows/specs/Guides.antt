-- The potential of landmarks: what their rows tell of the ways from each node to a target.
use Rattle.std.specs.Prelude.{◌≡◌, ◌≤◌, ℕ, Bool, nat_le, List, Option, Some, max, fold, map, unwrap_or, All}
use Rattle.std.specs.List.{filter}
use Rattle.roadnet.specs.Net.{Net, IsNode}
use Rattle.roadnet.specs.Walks.{RowOf, distance_at}
use Rattle.snapshot.specs.Groups.{Groups, IsSnapshotOf, IsGrouped}
use Rattle.deltastep.specs.Guided.{IsConsistent}
use Rattle.deltastep.specs.Words.{distance_of_short}
use Rattle.kept_rows.specs.Told.{difference_of, told_by_row}
use Rattle.rows.specs.declared.guides.Toward.{Toward}
use Rattle.rows.specs.declared.landmark_rows.Row.{Row}

-- by how much the landmark's way to the target is longer than its way to u, or 0 where it is not, or where it leads to one of them alone
abbrev pub potential_by : List (Option ℕ) → ℕ → ℕ → ℕ
potential_by row target u = unwrap_or (told_by_row row u target) 0

-- the greatest of these, or 0 where there is no row
abbrev pub potential_of : List Row → ℕ → ℕ → ℕ
potential_of rows target u = fold max 0 (map (λ row. potential_by row.distances target u) rows)

-- the same by the words of a row, and the length of the way to the target
abbrev pub told_toward : Toward → ℕ → ℕ
told_toward toward u = unwrap_or (difference_of (distance_at (map distance_of_short toward.words) u) (Some toward.to_target)) 0

abbrev pub potential_toward : List Toward → ℕ → ℕ
potential_toward towards u = fold max 0 (map (λ toward. told_toward toward u) towards)

-- these tell of each node what the rows tell
abbrev pub AreRowsAlike : List Toward → List Row → ℕ → Type 0
AreRowsAlike towards rows target = (u : ℕ) → potential_toward towards u ≡ potential_of rows target u

-- these tell of no node more than the rows
abbrev pub TellNoMore : List Toward → List Row → ℕ → Type 0
TellNoMore towards rows target = (u : ℕ) → potential_toward towards u ≤ potential_of rows target u

-- the row tells at least so much of the source
abbrev pub tells_at_least : ℕ → ℕ → ℕ → Row → Bool
tells_at_least least target source row = nat_le least (potential_by row.distances target source)

-- those of the rows that do
abbrev pub leading : ℕ → ℕ → ℕ → List Row → List Row
leading least target source rows = filter (tells_at_least least target source) rows

-- each is the row of its landmark
abbrev pub AreRowsOf : Net → List Row → Type 0
AreRowsOf net rows = All (λ row. RowOf net row.landmark row.distances) rows

-- these rows are of a network of which the snapshot is one, and the target is a node of it
pub record AreOfSnapshot (rows : List Row) (target : ℕ) (groups : Groups) : Type 0 where
  pub network : Net
  pub snapshot : IsSnapshotOf network groups
  pub each : AreRowsOf network rows
  pub node : IsNode network target

-- The potential of landmarks is consistent, and 0 at the target.
abbrev pub PotentialIsConsistent : Type 0
PotentialIsConsistent = (rows : List Row) (target : ℕ) (groups : Groups) → AreOfSnapshot rows target groups → IsGrouped groups → IsConsistent groups (potential_of rows target)

abbrev pub PotentialAtTarget : Type 0
PotentialAtTarget = (rows : List Row) (target : ℕ) → potential_of rows target target ≡ 0
