-- Arcs by blocks of tails: block 0 has the tails 0 to 1,023, block 1 those from 1,024 on, and so forth.
use Rattle.std.specs.Prelude.{◌≡◌, ◌⊎◌, ℕ, ◌+◌, ◌/◌, ◌%◌, ◌<◌, ◌==◌, Bool, true, false, if◌then◌else◌, List, [], ◌∷◌, map, filter, flat_map, fold, max, length, take, drop, slice_index_or, Contains}
use Rattle.roadnet.specs.declared.arcs.RoadArc.{RoadArc}
use Rattle.roadnet.specs.Net.{Net, arc_at}
use Rattle.snapshot.specs.declared.blocks.Starts.{Starts}
use Rattle.snapshot.specs.declared.blocks.Starts.TheVariants.{Short, Long}
use Rattle.snapshot.specs.declared.legs.Leg.{Leg}
use Rattle.snapshot.specs.declared.legs.Part.{Part}
use Rattle.snapshot.specs.declared.legs.Part.TheVariants.{Light, Heavy}
use Rattle.snapshot.specs.Groups.{part_place, legs_in, pieces}

-- how many blocks the nodes 0 to `nodes` have
abbrev pub block_count : ℕ → ℕ
block_count nodes = nodes / 1024 + 1

abbrev pub is_of_block : ℕ → RoadArc → Bool
is_of_block block arc = (arc.tail / 1024) == block

-- the arc, its tail counted from the first one of its block
abbrev pub within_block : RoadArc → RoadArc
within_block arc = record arc { tail = arc.tail % 1024 }

-- the arcs of a block, their tails counted from its first
abbrev pub arcs_of_block : ℕ → List RoadArc → List RoadArc
arcs_of_block block arcs = map within_block (filter (is_of_block block) arcs)

-- the places of a block's arcs, where the first of these arcs has the place i
abbrev pub places_of_block : ℕ → ℕ → List RoadArc → List ℕ
places_of_block block i [] = []
places_of_block block i (arc ∷ arcs) = if is_of_block block arc then i ∷ places_of_block block (i + 1) arcs else places_of_block block (i + 1) arcs

-- Of each block the places of its arcs, open or closed, ascending: the arc of number k has the place k - 1.
pub record AreArcsByBlock (nodes : ℕ) (arcs : List RoadArc) (places : List (List ℕ)) : Type 0 where
  pub blocks : length places ≡ block_count nodes
  pub each : (block : ℕ) → block < block_count nodes → slice_index_or places block [] ≡ places_of_block block 0 arcs

-- two lists as one, by turns
abbrev pub woven : List ℕ → List ℕ → List ℕ
woven [] ys = []
woven (x ∷ xs) [] = []
woven (x ∷ xs) (y ∷ ys) = x ∷ (y ∷ woven xs ys)

-- the places where the parts of a block begin, of each tail the light part and then the heavy one
abbrev pub starts_of : Starts → List ℕ
starts_of (Short starts) = woven (take 1025 starts) (drop 1025 starts)
starts_of (Long starts) = starts.items

-- how far behind the place where a tail's light part begins it stands where a part begins, and where it ends, if the light places are
-- before the heavy ones
abbrev pub offsets_of : Bool → Part → ℕ × ℕ
offsets_of false Light = (0, 1025)
offsets_of false Heavy = (1025, 1)
offsets_of true Light = (0, 1)
offsets_of true Heavy = (1, 1)

-- the parts of a block
abbrev pub block_parts : Starts → List Leg → List (List Leg)
block_parts starts legs = take 2048 (pieces (starts_of starts) legs)

-- the greatest length of a leg of these parts, or 0 where there is none
abbrev pub greatest_leg : List (List Leg) → ℕ
greatest_leg parts = fold max 0 (map (λ leg. leg.length) (flat_map (λ part. part) parts))

-- these are the parts of the tails 0 to 1,023 of these arcs
abbrev pub AreBlockParts : List RoadArc → ℕ → List (List Leg) → Type 0
AreBlockParts arcs delta parts = (part : Part) (u : ℕ) → u < 1024 → slice_index_or parts (part_place part u) [] ≡ legs_in arcs delta part u

-- each of these is the parts of a block, block 0 first
abbrev pub AreBlocksOf : List RoadArc → ℕ → List (List (List Leg)) → Type 0
AreBlocksOf arcs delta blocks = (block : ℕ) → block < length blocks → AreBlockParts (arcs_of_block block arcs) delta (slice_index_or blocks block [])

-- each arc but those of these numbers is the same in both networks, or in neither
abbrev pub DiffersOnlyAt : List ℕ → Net → Net → Type 0
DiffersOnlyAt numbers old new = (k : ℕ) → Contains numbers k ⊎ (arc_at new k ≡ arc_at old k)
