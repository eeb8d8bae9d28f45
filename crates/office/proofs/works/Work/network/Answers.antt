use Rattle.std.proofs.Common.{◌≡◌, rules, subst}
use Rattle.roadnet.specs.Ends.{KeepsEnds}
use Rattle.roadnet.specs.Net.{Net}
use Rattle.roadnet.proofs.EndsKept.{ends_stay}
use Rattle.office.proofs.works.Work.network.Goals as goal

pub returns-in-Ok-clause-ends : goal.returns-in-Ok-clause-ends
returns-in-Ok-clause-ends c =
    let same : c.network.result.now ≡ c.args.self.now.before.network = search rules in
    subst (λ (net : Net). KeepsEnds net c.in-Ok.network) same (ends_stay c.network.result.now c.in-Ok.network c.deref-2.result.now c.in-Ok.ensures.ok)
