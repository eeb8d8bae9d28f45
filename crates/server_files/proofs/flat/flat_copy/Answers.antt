use Rattle.std.proofs.Common.{◌≡◌, ◌∙◌, ℕ, List, ap, refl}
use Rattle.std.specs.List.Sorted.{IsStrictlyIncreasing}
use Rattle.roadnet.specs.Net.{Net}
use Rattle.roadnet.specs.Members.{set_of}
use Rattle.roadnet.specs.declared.arcs.RoadArc.{RoadArc}
use Rattle.checkpoint.proofs.Ascending.{set_of_ascending}
use Rattle.server_files.proofs.flat.flat_copy.Goals as goal

-- what is made of the parts of a network, and given its room, is that network
same_again : (net made back : Net) (nodes : ℕ) (arcs : List RoadArc) (landmarks : List ℕ) (few room : ℕ)
    → made ≡ record { nodes = nodes; arcs = arcs; landmarks = set_of landmarks; room = few } → back ≡ record made { room = room }
    → nodes ≡ net.nodes → arcs ≡ net.arcs → landmarks ≡ net.landmarks → room ≡ net.room → IsStrictlyIncreasing net.landmarks → back ≡ net
same_again net made back nodes arcs landmarks few room made_is back_is nodes_is arcs_is landmarks_is room_is up =
    let marks : set_of landmarks ≡ net.landmarks = ap set_of landmarks_is ∙ set_of_ascending net.landmarks up in
    rw (back_is, made_is, nodes_is, arcs_is, marks, room_is) refl

pub returns-in-Ok-with_room : goal.returns-in-Ok-with_room
returns-in-Ok-with_room c =
    same_again c.args.network.now c.in-Ok.made c.in-Ok-with_room.copy c.nodes.result c.in_ok-arcs.arcs.items c.landmarks.result.now _ c.from.result c.in-Ok.ensures.network c.in-Ok-with_room.ensures.ok c.nodes.ensures.value
    (c.in_ok-arcs.ensures ∙ c.arcs.ensures.value) c.landmarks.ensures.value (c.from.ensures ∙ c.room.ensures.value) c.room.ensures.network.ascending
