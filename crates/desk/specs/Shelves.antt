-- Rows that are kept for all who ask a desk.
use Rattle.std.specs.Prelude.{◌≡◌, ◌≢◌, ◌<◌, ℕ, Bool, true, nat_le, List, [], All, length, Option, None, Some}
use Rattle.std.specs.List.{slice_index_or}
use Rattle.roadnet.specs.declared.groups.Group.{Group}
use Rattle.roadnet.specs.Net.{Net}
use Rattle.roadnet.specs.Reversal.{reversed}
use Rattle.roadnet.specs.Step.{after}
use Rattle.roadnet.specs.Walks.{RowOf}
use Rattle.snapshot.specs.Groups.{Groups, IsSnapshotOf}
use Rattle.rows.specs.Backs.{LeadsBack}
use Rattle.history.specs.Origins.{Origin, Beginning}
use Rattle.desk.specs.declared.handles.shelves.KeptRow.{KeptRow}

abbrev pub most_rows : ℕ
most_rows = 64

abbrev pub AreRowsIn : Net → List KeptRow → Type 0
AreRowsIn net rows = All (λ kept. RowOf net kept.source kept.distances) rows

-- The rows are of the network after these groups of the desk. Where nobody has asked yet there is none.
abbrev pub IsShelfOf : Origin → Option Beginning → List KeptRow → Type 0
IsShelfOf origin None rows = rows ≡ []
IsShelfOf origin (Some front) rows = (front.origin ≡ origin) × ((net : Net) → after origin.base front.groups ≡ Some net → AreRowsIn net rows)

-- the groups after which the view of the rows stands; the rows, that which was used last standing last; and the versions and sources that were asked and had none
pub record Shelved : Type 0 where
  pub groups : Option Beginning
  pub rows : List KeptRow
  pub asked : List (ℕ × ℕ)

-- a row of the same network
abbrev pub IsOfShelf : Origin → Option Beginning → KeptRow → Type 0
IsOfShelf origin None kept = ⊥
IsOfShelf origin (Some front) kept = (net : Net) → after origin.base front.groups ≡ Some net → RowOf net kept.source kept.distances

-- the arcs of the same network, turned round
abbrev pub IsTurnedOf : Origin → Option Beginning → Groups → Type 0
IsTurnedOf origin None back = ⊥
IsTurnedOf origin (Some front) back = (net : Net) → after origin.base front.groups ≡ Some net → IsSnapshotOf (reversed net) back

-- the arcs of the same network the other way round, with their numbers
abbrev pub IsBackOf : Origin → Option Beginning → Groups → Type 0
IsBackOf origin None back = ⊥
IsBackOf origin (Some front) back = (net : Net) → after origin.base front.groups ≡ Some net → LeadsBack net back

-- no rows of a later view are kept than that after these groups
abbrev pub is_latest : Option Beginning → List Group → Bool
is_latest None groups = true
is_latest (Some front) groups = nat_le (length front.groups) (length groups)

-- the rows that are kept are those of the view after these groups
abbrev pub IsAfter : Option Beginning → List Group → Type 0
IsAfter None groups = ⊥
IsAfter (Some front) groups = front.groups ≡ groups

-- a row of this source stands at this place
abbrev pub IsKeptRowAt : ℕ → List KeptRow → ℕ → Type 0
IsKeptRowAt source rows place = (place < length rows) × ((any : KeptRow) → (slice_index_or rows place any).source ≡ source)

-- this version and source stand at this place
abbrev pub IsAskedAt : ℕ → ℕ → List (ℕ × ℕ) → ℕ → Type 0
IsAskedAt version source asked place = (place < length asked) × ((any : ℕ × ℕ) → slice_index_or asked place any ≡ (version, source))

-- none of these rows is of this source
abbrev pub HasNoRow : ℕ → List KeptRow → Type 0
HasNoRow source rows = All (λ kept. kept.source ≢ source) rows

-- this version and source were asked, or weren't
abbrev pub IsRowAsked : ℕ → ℕ → List (ℕ × ℕ) → Type 0
IsRowAsked version source asked = (place : ℕ) × IsAskedAt version source asked place

abbrev pub IsNotAsked : ℕ → ℕ → List (ℕ × ℕ) → Type 0
IsNotAsked version source asked = All (λ key. key ≢ (version, source)) asked

-- a row of this source is kept
abbrev pub HasRow : ℕ → List KeptRow → Type 0
HasRow source rows = (place : ℕ) × IsKeptRowAt source rows place
