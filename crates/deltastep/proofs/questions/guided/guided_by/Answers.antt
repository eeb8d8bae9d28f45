use Rattle.std.proofs.Common.{subst}
use Rattle.deltastep.specs.Guided.{IsBest}
use Rattle.deltastep.proofs.Finishing.{entry_of_node}
use Rattle.deltastep.proofs.questions.guided.guided_by.Goals as goal

pub settle_guided-requires-clause-state : goal.settle_guided-requires-clause-state
settle_guided-requires-clause-state g c = (c.args.source, c.in_ok-search.ensures.state (g.G.Guide.target c.args.guide.now))

pub returns-clause-distance : goal.returns-clause-distance
returns-clause-distance g c net snapshot =
    let groups = c.args.snapshot.now in
    let t = c.settle_guided.new.self.tentative in
    let begins = c.in_ok-search.ensures.state (g.G.Guide.target c.args.guide.now) in
    let best : IsBest groups t c.args.target = subst (λ v. IsBest groups t v) c.requires.leads c.in_ok-settle_guided.ensures.best in
    entry_of_node net groups snapshot c.in_ok-search.ensures.grouped c.args.source t c.args.target c.requires.source.0 c.requires.source.1 (c.in_ok-settle_guided.ensures.reached c.args.source begins) (best c.args.source)
