-- Which lists of entries a history may be.
use Rattle.std.specs.Prelude.{◌≡◌, ℕ, Bool, true, false, List, [], ◌∷◌, ◌++◌, max}
use Rattle.roadnet.specs.Net.{Net}
use Rattle.roadnet.specs.declared.groups.Group.{Group}
use Rattle.history.specs.declared.entries.Base.{Base}
use Rattle.history.specs.declared.entries.Entry.{Entry}
use Rattle.history.specs.declared.entries.Entry.TheVariants.{Opened, Accepted, Acknowledged, Closed}
use Rattle.history.specs.Origins.{Name, Origin, Beginning}

-- the groups that were accepted
abbrev pub accepted : List Entry → List Group
accepted [] = []
accepted (Opened base ∷ entries) = accepted entries
accepted (Accepted group ∷ entries) = group.value ∷ accepted entries
accepted (Acknowledged number ∷ entries) = accepted entries
accepted (Closed ∷ entries) = accepted entries

-- up to which number groups were acknowledged
abbrev pub acknowledged_number : List Entry → ℕ
acknowledged_number [] = 0
acknowledged_number (Opened base ∷ entries) = acknowledged_number entries
acknowledged_number (Accepted group ∷ entries) = acknowledged_number entries
acknowledged_number (Acknowledged number ∷ entries) = max number (acknowledged_number entries)
acknowledged_number (Closed ∷ entries) = acknowledged_number entries

-- the end is not there
abbrev pub is_endless : List Entry → Bool
is_endless [] = true
is_endless (Opened base ∷ entries) = is_endless entries
is_endless (Accepted group ∷ entries) = is_endless entries
is_endless (Acknowledged number ∷ entries) = is_endless entries
is_endless (Closed ∷ entries) = false

-- nothing stands behind the end
abbrev pub is_legal : List Entry → Bool
is_legal [] = true
is_legal (Opened base ∷ entries) = is_legal entries
is_legal (Accepted group ∷ entries) = is_legal entries
is_legal (Acknowledged number ∷ entries) = is_legal entries
is_legal (Closed ∷ []) = true
is_legal (Closed ∷ entry ∷ entries) = false

-- the desk's opening comes first
pub record IsBegun (log : List Entry) : Type 0 where
  pub base : Base
  pub rest : List Entry
  pub log_is : log ≡ Opened base ∷ rest

-- the desk's opening, and then no end
pub record IsDeskOpen (log : List Entry) : Type 0 where
  pub base : Base
  pub rest : List Entry
  pub log_is : log ≡ Opened base ∷ rest
  pub endless : is_endless rest ≡ true

-- an open log, and then the end
pub record IsClosed (log : List Entry) : Type 0 where
  pub before : List Entry
  pub unended : IsDeskOpen before
  pub log_is : log ≡ before ++ Closed ∷ []

-- the network and version that the desk was opened with: its history begins with them
abbrev pub network_opened_with : List Entry → Net
network_opened_with (Opened base ∷ entries) = base.network.value
network_opened_with _ = record { nodes = 0; arcs = []; landmarks = []; room = 0 }

abbrev pub version_of : List Entry → ℕ
version_of (Opened base ∷ entries) = base.version
version_of _ = 0

-- the desk that this history is of
abbrev pub origin_of : Name → List Entry → Origin
origin_of name log = record { base = network_opened_with log; version = version_of log; history = name }

abbrev pub beginning : Name → List Entry → Beginning
beginning name log = record { origin = origin_of name log; groups = accepted log; acknowledged = acknowledged_number log }
