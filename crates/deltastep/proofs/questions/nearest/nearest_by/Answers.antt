use Rattle.std.proofs.Common.{◌∙◌, ℕ, List, map, sym, ap, subst}
use Rattle.std.specs.List.Sorted.{IsPermutation}
use Rattle.deltastep.specs.Reach.{AreNearest, AreNodesOfRow, has_within, node_told_of}
use Rattle.deltastep.specs.declared.rows.known.NodeDistance.{NodeDistance}
use Rattle.deltastep.proofs.Telling.{AreNearest-told, ArePlaces-filter}
use Rattle.deltastep.proofs.questions.nearest.nearest_by.Goals as goal

pub told-requires : goal.told-requires
told-requires g c =
    let t = g.V.Known.values c.args.values.now in
    record { nodes = subst (λ (l : List ℕ). AreNodesOfRow t l) (sym (c.deref.ensures.value ∙ c.in_ok-known.ensures)) (ArePlaces-filter t (has_within t c.args.end) c.args.among.now c.requires.nodes) }

pub returns : goal.returns
returns g c net source final =
    let t = g.V.Known.values c.args.values.now in
    let sorted = c.sort_unstable.new.self.items in
    let told = c.in_ok-nearest.ensures ∙ ap (λ (l : List ℕ). map (node_told_of t) l) (c.deref.ensures.value ∙ c.in_ok-known.ensures) in
    let moved = subst (λ (l : List NodeDistance). IsPermutation l sorted) told c.sort_unstable.ensures.permutation in
    subst (λ (l : List NodeDistance). AreNearest net source c.args.among.now c.args.count l) (sym c.truncate.ensures.items) (AreNearest-told net source c.args.among.now c.args.count c.args.end t sorted final c.requires.nodes c.requires.ascending c.requires.enough moved c.sort_unstable.ensures.sorted)
