use Rattle.deltastep.proofs.Narrowing.{knows_narrowed}
use Rattle.deltastep.proofs.questions.asked.settled_by.Goals as goal

pub returns : goal.returns
returns g c =
    let t = g.F.Frontier.tentative c.settle_for.new.self.frontier in
    let queue = g.F.Frontier.entries c.settle_for.new.self.frontier in
    let between = c.in_ok-end.ensures.state c.args.source c.in_ok-search.ensures.state in
    record {
      places = between.search.places;
      knows = λ net of. knows_narrowed net c.args.snapshot.now of c.args.source c.requires.source.0 c.requires.source.1 t queue between c.in_ok-end.end c.in_ok-end.ensures.beyond;
      enough = c.in_ok-end.ensures.enough;
    }
