use Rattle.std.proofs.Common.{rules, ◌≡◌, ◌+◌, ◌<◌, length, if◌then◌else◌}
use Rattle.roadnet.specs.declared.refusals.Refusal.TheVariants.{Broken, NotYet}
use Rattle.office.proofs.Agreed.{not_receivable, not_durable}
use Rattle.office.proofs.offices.Office.receipt.Goals as goal

pub returns-then-not-holds-clause-refused : goal.returns-then-not-holds-clause-refused
returns-then-not-holds-clause-refused g c =
    let m = c.self.inside.keeper.machine in
    let is : c.unmade.result ≡ (if m.broken then Broken else NotYet) = search rules in
    let behind : g.N.Naming.origin.version + length c.self.inside.history.groups < c.args.ticket.ticket.number = search rules in
    let none = not_receivable _ m _ _ _ c.self.invariant.0 c.opened.ensures.state c.args.ticket.ticket c.unmade.result is behind in
    search (rules, none)

pub returns-then-durable-ticket-clause-refused : goal.returns-then-durable-ticket-clause-refused
returns-then-durable-ticket-clause-refused g c =
    let m = c.self.inside.keeper.machine in
    let is : c.unmade-then-durable-ticket.result ≡ (if m.broken then Broken else NotYet) = search rules in
    let past : m.durable < c.args.ticket.ticket.number = search rules in
    let none = not_durable m c.args.ticket.ticket c.unmade-then-durable-ticket.result is past in
    search (rules, none)
