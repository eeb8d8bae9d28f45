use Rattle.std.proofs.Common.{◌≡◌, rules}
use Rattle.upgrades.proofs.Changing.{length_set_so}
use Rattle.upgrades.proofs.renewing.set_length.Goals as goal

pub returns-clause-changed : goal.returns-clause-changed
returns-clause-changed c =
    let same : c.from-wanted.result ≡ c.args.length = search rules in
    length_set_so c.args.network.now c.apply.new.self c.args.number c.args.length c.from-wanted.result same c.in_ok-apply.ensures.ok
