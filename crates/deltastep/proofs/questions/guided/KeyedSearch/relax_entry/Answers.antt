use Rattle.std.proofs.Common.{◌≡◌, Some}
use Rattle.relax.specs.Values.{value_at}
use Rattle.snapshot.specs.declared.legs.Part.{Part}
use Rattle.frontier.proofs.Bags.{OnOk-map}
use Rattle.deltastep.specs.Guided.{HasDone}
use Rattle.deltastep.proofs.questions.guided.KeyedSearch.relax_entry.Goals as goal

pub returns-clause-done : goal.returns-clause-done
returns-clause-done g c =
    let new = c.relax_node.new.self in
    OnOk-map c.relax_node.result
    ((part : Part) → HasDone c.args.snapshot.now part new c.args.node)
    ((part : Part) → value_at new.tentative c.args.node ≡ Some c.args.value → HasDone c.args.snapshot.now part new c.args.node)
    c.relax_node.ensures.done
    (λ done part _. done part)
