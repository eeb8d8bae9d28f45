-- What takes groups back that were carried out.
use Rattle.std.specs.Prelude.{ℕ, ◌-◌, List, [], ◌∷◌, Option, unwrap_or, length, take, set}
use Rattle.roadnet.specs.declared.arcs.RoadArc.{RoadArc}
use Rattle.roadnet.specs.declared.undoing.Earlier.{Earlier}
use Rattle.roadnet.specs.declared.undoing.Earlier.TheVariants.{Was, Added}
use Rattle.roadnet.specs.Net.{Net}

-- the arcs with one change taken back
abbrev pub restored_one : List RoadArc → Earlier → List RoadArc
restored_one arcs (Was place arc) = set arcs place arc
restored_one arcs Added = take (length arcs - 1) arcs

-- the arcs with these changes taken back, the last one first
abbrev pub restored : List Earlier → List RoadArc → List RoadArc
restored [] arcs = arcs
restored (change ∷ changes) arcs = restored_one (restored changes arcs) change

-- the changes of the arcs to take back, and the landmarks as they were, where they were changed
pub record Undoing : Type 0 where
  pub changes : List Earlier
  pub landmarks : Option (List ℕ)

-- the network with these changes taken back
abbrev pub undone : Undoing → Net → Net
undone undoing net = record net { arcs = restored undoing.changes net.arcs; landmarks = unwrap_or undoing.landmarks net.landmarks }
