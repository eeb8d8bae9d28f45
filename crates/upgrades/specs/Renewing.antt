-- One arc that is changed, and what stays.
use Rattle.std.specs.Prelude.{◌≡◌, ℕ, Bool, Option, if◌then◌else◌}
use Rattle.roadnet.specs.declared.arcs.RoadArc.{RoadArc}
use Rattle.roadnet.specs.Net.{Net}
use Rattle.upgrades.specs.Upgrading.{is_unchanged}

abbrev pub with_length : ℕ → RoadArc → RoadArc
with_length length arc = record arc { length = length }

abbrev pub with_opened : Bool → RoadArc → RoadArc
with_opened opened arc = record arc { opened = opened }

-- the arc with the stored one's length, unless nobody changed that
abbrev pub with_renewed_length : RoadArc → Option RoadArc → RoadArc → RoadArc
with_renewed_length stored old arc = record arc { length = if is_unchanged stored old then arc.length else stored.length }

-- the two have the same nodes, landmarks and room
pub record StandsLike (old new : Net) : Type 0 where
  pub nodes : new.nodes ≡ old.nodes
  pub landmarks : new.landmarks ≡ old.landmarks
  pub room : new.room ≡ old.room
