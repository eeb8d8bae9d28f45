-- A stored network brought to a new map of its roads: which arc of the map is which of the stored network, and what each becomes.
use Rattle.std.specs.Prelude.{◌≡◌, ◌⊎◌, ℕ, ◌==◌, nat_lt, Bool, false, ◌&&◌, not, List, length, filter, count_by, slice_get, Option, None, if◌then◌else◌, option_map, option_and_then}
use Rattle.std.specs.List.{range_with_len}
use Rattle.std.specs.Option.{option_map_or}
use Rattle.roadnet.specs.declared.arcs.RoadArc.{RoadArc}
use Rattle.roadnet.specs.declared.refusals.Refusal.{Refusal}
use Rattle.roadnet.specs.declared.refusals.Refusal.TheVariants.{OutOfMemory, OtherNetwork}
use Rattle.roadnet.specs.Ends.{KeepsEnds}
use Rattle.roadnet.specs.Net.{Net, nth}
use Rattle.roadnet.specs.Step.{is_node}
use Rattle.upgrades.specs.declared.counts.Counts.{Counts}

-- WHICH ARC IS WHICH

-- there is an arc k, and it leads from this tail to this head
abbrev pub joins : List RoadArc → ℕ → ℕ → ℕ → Bool
joins arcs tail head k = option_map_or (λ arc. (arc.tail == tail) && (arc.head == head)) (nth arcs k) false

-- the parallel arcs from one node to another: their numbers, ascending
abbrev pub parallels : List RoadArc → ℕ → ℕ → List ℕ
parallels arcs tail head = filter (joins arcs tail head) (range_with_len 1 (length arcs))

-- the place of arc k among these parallel arcs: how many of them have a lower number
abbrev pub place_among : List ℕ → ℕ → ℕ
place_among numbers k = count_by (λ j. nat_lt j k) numbers

-- the two have as many arcs from one node to another
abbrev pub agree : List RoadArc → List RoadArc → ℕ → ℕ → Bool
agree xs ys tail head = length (parallels xs tail head) == length (parallels ys tail head)

-- there is no arc from one node to another
abbrev pub lacks : List RoadArc → ℕ → ℕ → Bool
lacks arcs tail head = length (parallels arcs tail head) == 0

-- The counterpart of arc k of the map: the stored arc of the same ends and of the same place among its parallel ones, by its number. There is none where stored network
-- and map have not as many arcs of these ends.
abbrev pub counterpart : List RoadArc → List RoadArc → ℕ → Option ℕ
counterpart stored new k =
    option_and_then (λ arc. if agree stored new arc.tail arc.head
    then slice_get (parallels stored arc.tail arc.head) (place_among (parallels new arc.tail arc.head) k)
    else None) (nth new k)

-- WHAT AN ARC BECOMES

-- Nobody changed the stored arc's length: it is that of the same arc in the old map. An arc that the old map does not have was laid later, and its length given then.
abbrev pub is_unchanged : RoadArc → Option RoadArc → Bool
is_unchanged stored old = option_map_or (λ arc. arc.length == stored.length) old false

-- An arc of the map that has a counterpart: it takes the map's length where nobody changed the stored one, else it keeps the stored one; and it is open where the stored
-- arc is.
abbrev pub renewed : RoadArc → Option RoadArc → RoadArc → RoadArc
renewed stored old new = record new { length = if is_unchanged stored old then new.length else stored.length; opened = stored.opened }

-- the arc of the map, renewed by stored arc c, if there is one
abbrev pub renewed_by : Net → Net → ℕ → RoadArc → RoadArc
renewed_by stored old c arc = option_map_or (λ other. renewed other (nth old.arcs c) arc) (nth stored.arcs c) arc

-- what arc k of the map becomes: it is renewed by its counterpart, or stands as in the map where it has none
abbrev pub upgraded_arc : Net → Net → Net → ℕ → RoadArc → RoadArc
upgraded_arc stored old new k arc = option_map_or (λ c. renewed_by stored old c arc) (counterpart stored.arcs new.arcs k) arc

-- the stored network, which was made of the old map, brought to the new one: nodes, arcs with their ends and numbers, and room are the new map's
pub record IsUpgraded (stored old new made : Net) : Type 0 where
  pub nodes : made.nodes ≡ new.nodes
  pub arcs : (k : ℕ) → nth made.arcs k ≡ option_map (upgraded_arc stored old new k) (nth new.arcs k)
  pub landmarks : made.landmarks ≡ filter (is_node new) stored.landmarks
  pub room : made.room ≡ new.room

-- HOW MANY

-- the arcs of the map that have as many of their ends in the stored network: those with a counterpart
abbrev pub arcs_kept : List RoadArc → List RoadArc → ℕ
arcs_kept stored new = count_by (λ arc. agree stored new arc.tail arc.head) new

-- the arcs of the first network whose ends no arc of the second has
abbrev pub arcs_alone : List RoadArc → List RoadArc → ℕ
arcs_alone arcs others = count_by (λ arc. lacks others arc.tail arc.head) arcs

-- the arcs of the map that have some of their ends in the stored network, but not as many
abbrev pub doubtful : List RoadArc → List RoadArc → ℕ
doubtful stored new = count_by (λ arc. not (agree stored new arc.tail arc.head) && not (lacks stored arc.tail arc.head)) new

-- what became of the arcs
pub record CountsArcs (stored new : List RoadArc) (counts : Counts) : Type 0 where
  pub kept_is : counts.kept ≡ arcs_kept stored new
  pub added_is : counts.added ≡ arcs_alone new stored
  pub gone_is : counts.gone ≡ arcs_alone stored new
  pub doubtful_is : counts.doubtful ≡ doubtful stored new

-- what became of arcs and landmarks
pub record AreUpgradeCounts (stored new : Net) (counts : Counts) : Type 0 where
  pub arcs : CountsArcs stored.arcs new.arcs counts
  pub landmarks_gone_is : counts.landmarks_gone ≡ count_by (λ x. not (is_node new x)) stored.landmarks

-- with what an upgrade is refused: the old map is not that of which the stored network was made; or it is, and memory is wanting
abbrev pub MayRefuseUpgrade : Net → Net → Refusal → Type 0
MayRefuseUpgrade stored old refusal = ((refusal ≡ OtherNetwork) × ¬ KeepsEnds old stored) ⊎ ((refusal ≡ OutOfMemory) × KeepsEnds old stored)
