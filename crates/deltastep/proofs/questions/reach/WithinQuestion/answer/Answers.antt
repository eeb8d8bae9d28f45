use Rattle.std.proofs.Common.{◌≡◌, ◌∙◌, ℕ, List, map, sym, ap, subst}
use Rattle.std.specs.Global.{Vec}
use Rattle.std.proofs.lemmas.Result.{IfOk-weaker}
use Rattle.roadnet.specs.Net.{Net}
use Rattle.deltastep.specs.Reach.{AreFinal, AreNodesOfRow, IsReach, node_told_of}
use Rattle.deltastep.specs.declared.rows.known.NodeDistance.{NodeDistance}
use Rattle.deltastep.proofs.Telling.{AreAllWithin-same, ArePlaces-within, IsReach-told}
use Rattle.deltastep.proofs.questions.reach.WithinQuestion.answer.Goals as goal

pub told-requires : goal.told-requires
told-requires c =
    let t = c.args.values.now in
    let all = AreAllWithin-same t c.args.self.now.limit c.in_ok-nodes_within.field-0.items c.as_set-nodes.result.items c.as_set-nodes.ensures.same c.in_ok-nodes_within.ensures in
    record { nodes = subst (λ (l : List ℕ). AreNodesOfRow t l) (sym c.deref.ensures.value) (ArePlaces-within t c.args.self.now.limit c.as_set-nodes.result.items all) }

pub returns : goal.returns
returns c =
    let t = c.args.values.now in
    let limit = c.args.self.now.limit in
    let all = AreAllWithin-same t limit c.in_ok-nodes_within.field-0.items c.as_set-nodes.result.items c.as_set-nodes.ensures.same c.in_ok-nodes_within.ensures in
    IfOk-weaker c.told.result (λ (told : Vec NodeDistance). told.items ≡ map (node_told_of t) c.deref.result.now) (λ (told : Vec NodeDistance). (net : Net) (source : ℕ) → AreFinal net source c.args._end t → IsReach net source limit told.items)
    (λ told is net source final. subst (λ (l : List NodeDistance). IsReach net source limit l) (sym (is ∙ ap (λ (l : List ℕ). map (node_told_of t) l) c.deref.ensures.value)) (IsReach-told net source limit c.args._end t c.as_set-nodes.result.items final c.requires.enough c.as_set-nodes.ensures.ascending all)) c.told.ensures
