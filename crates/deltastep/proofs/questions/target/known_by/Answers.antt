use Rattle.deltastep.proofs.Narrowing.{known_narrowed}
use Rattle.deltastep.proofs.questions.target.known_by.Goals as goal

pub returns : goal.returns
returns g c =
    let t = g.F.Frontier.tentative c.settle_until.new.self.frontier in
    let queue = g.F.Frontier.entries c.settle_until.new.self.frontier in
    let between = c.in_ok-settle_until.ensures.state c.args.source c.in_ok-search.ensures.state in
    record {
      places = between.search.places;
      known = λ net of. known_narrowed net c.args.snapshot.now of c.args.source c.args.target c.requires.source c.requires.target t queue between c.in_ok-settle_until.ensures.beyond;
    }
