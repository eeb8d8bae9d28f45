-- Of what a network can be made.
use Rattle.std.specs.Prelude.{◌≡◌, ◌⊎◌, ◌<◌, Some, None, ℕ, Bool, List, [], ◌∷◌, Option, length, nat_le, nat_lt, not, ◌&&◌, ◌||◌}
use Rattle.std.specs.List.{list_any}
use Rattle.roadnet.specs.declared.arcs.RoadArc.{RoadArc}
use Rattle.roadnet.specs.declared.refusals.Refusal.{Refusal}
use Rattle.roadnet.specs.declared.refusals.Refusal.TheVariants.{NumberRange, TooLarge, LengthRange, NoSuchNode, TooManyLandmarks, OutOfMemory}
use Rattle.roadnet.specs.Causes.{first_applying}
use Rattle.roadnet.specs.Members.{set_of}
use Rattle.roadnet.specs.Net.{most_nodes, most_arcs, longest_arc, most_landmarks}

abbrev pub is_node_among : ℕ → ℕ → Bool
is_node_among nodes x = nat_le 1 x && nat_le x nodes

abbrev pub is_node_count : ℕ → Bool
is_node_count nodes = nat_le 1 nodes && nat_le nodes most_nodes

-- an arc is longer than any may be
abbrev pub is_long : RoadArc → Bool
is_long arc = nat_lt longest_arc arc.length

-- an end of the arc is no node
abbrev pub is_stray : ℕ → RoadArc → Bool
is_stray nodes arc = not (is_node_among nodes arc.tail && is_node_among nodes arc.head)

abbrev pub has_long_arc : List RoadArc → Bool
has_long_arc arcs = list_any is_long arcs

abbrev pub has_stray_end : ℕ → List RoadArc → Bool
has_stray_end nodes arcs = list_any (is_stray nodes) arcs

abbrev pub has_stray_landmark : ℕ → List ℕ → Bool
has_stray_landmark nodes landmarks = list_any (λ x. not (is_node_among nodes x)) landmarks

-- for what the parts of a network are refused: each refusal with its condition, by ascending number
abbrev pub flaws : ℕ → List RoadArc → List ℕ → List (Refusal × Bool)
flaws nodes arcs landmarks =
    (NumberRange, not (is_node_count nodes))
    ∷ (TooLarge, nat_lt most_arcs (length arcs))
    ∷ (LengthRange, has_long_arc arcs)
    ∷ (NoSuchNode, has_stray_end nodes arcs || has_stray_landmark nodes landmarks)
    ∷ (TooManyLandmarks, nat_lt most_landmarks (length (set_of landmarks)))
    ∷ []

-- the refusal of lowest number whose condition holds, or none
abbrev pub flaw_of : ℕ → List RoadArc → List ℕ → Option Refusal
flaw_of nodes arcs landmarks = first_applying (flaws nodes arcs landmarks)

-- with what `Network::new` may refuse: the parts' flaw; or want of memory for landmarks, where some are given and the nodes and arcs are in order
abbrev pub MayRefuseParts : ℕ → List RoadArc → List ℕ → Refusal → Type 0
MayRefuseParts nodes arcs landmarks refusal =
    (flaw_of nodes arcs landmarks ≡ Some refusal)
    ⊎ ((refusal ≡ OutOfMemory) × (0 < length landmarks) × ((flaw_of nodes arcs landmarks ≡ None) ⊎ (flaw_of nodes arcs landmarks ≡ Some TooManyLandmarks)))
