use Rattle.sessions.proofs.Lasting.{left_with}
use Rattle.sessions.proofs.clients.past.Past.add.Goals as goal

pub returns : goal.returns
returns g c sessions last left is =
    let fronts = c.into_fronts-receipts in
    left_with g.N.Naming.origin c.args.self.now.receipts fronts.result.0 c.joined.result c.args.self.now.seen fronts.result.1 c.joined-2.result c.args.session.receipts c.args.session.place sessions last
    c.joined.ensures.had c.joined.ensures.more c.joined-2.ensures.had c.joined-2.ensures.more fronts.ensures.receipts fronts.ensures.seen left is
