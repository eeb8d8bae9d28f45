use Rattle.std.proofs.Common.{◌∷◌, []}
use Rattle.keeper.proofs.Ticketed.{ticket_given}
use Rattle.keeper_tests.proofs.keeping.submitted.Goals as goal

pub returns : goal.returns
returns g c = ticket_given c.args.keeper.now.machine c.submit.new.self.machine (c.args.command ∷ []) c.submit.result c.submit.ensures.step
