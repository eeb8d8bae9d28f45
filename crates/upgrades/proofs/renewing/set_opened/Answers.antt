use Rattle.upgrades.proofs.Changing.{closed_so, reopened_so}
use Rattle.upgrades.proofs.renewing.set_opened.Goals as goal

pub returns-then-opened-clause-changed : goal.returns-then-opened-clause-changed
returns-then-opened-clause-changed c = reopened_so c.args.network.now c.apply.new.self c.args.number c.args.opened c.if-opened.true c.in_ok-apply.ensures.ok

pub returns-clause-changed : goal.returns-clause-changed
returns-clause-changed c = closed_so c.args.network.now c.apply-2.new.self c.args.number c.args.opened c.if-opened.false c.in_ok-apply-2.ensures.ok
