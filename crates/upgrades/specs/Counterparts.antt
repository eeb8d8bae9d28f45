-- The counterparts of all arcs of a map, as a table.
use Rattle.std.specs.Prelude.{◌≡◌, ℕ, ◌+◌, ◌≤◌, ◌<◌, ◌==◌, List, length, slice_index, unwrap_or, if◌then◌else◌}
use Rattle.roadnet.specs.declared.arcs.RoadArc.{RoadArc}
use Rattle.upgrades.specs.Upgrading.{counterpart}

-- the number of the counterpart of arc k of the map, or 0
abbrev pub part_of : List RoadArc → List RoadArc → ℕ → ℕ
part_of stored new k = unwrap_or (counterpart stored new k) 0

-- at each number of an arc of the map that of its counterpart, or 0
pub record AreCounterparts (stored new : List RoadArc) (parts : List ℕ) : Type 0 where
  pub count : length parts ≡ length new + 1
  pub each : (k : ℕ) → 1 ≤ k → k ≤ length new → slice_index parts k ≡ part_of stored new k

-- what belongs to the i-th of these parallel arcs: the stored one of its place, or 0 where the two have not as many
abbrev pub part_in : List ℕ → List ℕ → ℕ → ℕ
part_in group stored i = if length stored == length group then slice_index stored i else 0

-- this function of a number says what belongs to each of these parallel arcs
abbrev pub SaysParts : List ℕ → List ℕ → (ℕ → ℕ) → Type 0
SaysParts group stored part = (i : ℕ) → i < length group → part_in group stored i ≡ part (slice_index group i)
