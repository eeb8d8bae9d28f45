-- The arcs of a network by their places and numbers.
use Rattle.std.proofs.Common.{◌≡◌, ℕ, zero, suc, ◌<◌, Some, length, get_or, refl}
use Rattle.std.proofs.lemmas.Option.{slice_get_within, get_or_from_slice_get}
use Rattle.roadnet.specs.declared.arcs.RoadArc.{RoadArc}
use Rattle.roadnet.specs.Net.{Net, arc_at}
use Rattle.roadnet.specs.Walks.{length_of_arc}

pub index_of_arc : (net : Net) (k : ℕ) (arc : RoadArc) → arc_at net k ≡ Some arc → (i : ℕ) × (i < length net.arcs) × (get_or net.arcs i arc ≡ arc)
index_of_arc net zero arc at = cc
index_of_arc net (suc i) arc at = (i, slice_get_within net.arcs i arc at, get_or_from_slice_get net.arcs i arc arc at)

pub length_of_one : (net : Net) (k : ℕ) (arc : RoadArc) → arc_at net k ≡ Some arc → length_of_arc net k ≡ arc.length
length_of_one net k arc at = rw at refl
