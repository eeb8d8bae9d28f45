use Rattle.std.proofs.Common.{◌≡◌, ◌∙◌, ◌∷◌, ℕ, List, None, map, sym, ap, subst}
use Rattle.std.specs.Global.{Vec}
use Rattle.std.proofs.lemmas.Result.{IfOk-weaker}
use Rattle.roadnet.specs.Net.{Net}
use Rattle.roadnet.specs.Walks.{RowOf}
use Rattle.deltastep.specs.Reach.{AreNodesOfRow, IsReach, node_told_of}
use Rattle.deltastep.specs.declared.rows.known.NodeDistance.{NodeDistance}
use Rattle.deltastep.proofs.Ending.{AreFinal-row}
use Rattle.deltastep.proofs.Telling.{AreAllWithin-same, ArePlaces-within, IsReach-told}
use Rattle.deltastep.proofs.questions.reach.reach_of_row.Goals as goal

pub told-requires : goal.told-requires
told-requires c =
    let t = None ∷ c.args.row.now in
    let all = AreAllWithin-same t c.args.limit c.in_ok-all_known.field-0.items c.as_set-nodes.result.items c.as_set-nodes.ensures.same c.in_ok-all_known.ensures in
    record { nodes = subst (λ (l : List ℕ). AreNodesOfRow t l) (sym c.deref.ensures.value) (ArePlaces-within t c.args.limit c.as_set-nodes.result.items all) }

pub returns : goal.returns
returns c =
    let t = None ∷ c.args.row.now in
    let limit = c.args.limit in
    let all = AreAllWithin-same t limit c.in_ok-all_known.field-0.items c.as_set-nodes.result.items c.as_set-nodes.ensures.same c.in_ok-all_known.ensures in
    record {
      reach = IfOk-weaker c.told.result (λ (told : Vec NodeDistance). told.items ≡ map (node_told_of t) c.deref.result.now) (λ (told : Vec NodeDistance). (net : Net) (source : ℕ) → RowOf net source c.args.row.now → IsReach net source limit told.items)
          (λ told is net source row. subst (λ (l : List NodeDistance). IsReach net source limit l) (sym (is ∙ ap (λ (l : List ℕ). map (node_told_of t) l) c.deref.ensures.value)) (IsReach-told net source limit None t c.as_set-nodes.result.items (AreFinal-row net source c.args.row.now row) tt c.as_set-nodes.ensures.ascending all)) c.told.ensures;
    }
