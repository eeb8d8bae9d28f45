use Rattle.store.proofs.Applied.{refused_step}
use Rattle.store.proofs.opened.replay.carry_out.Goals as goal

pub returns-in_default-clause-refused : goal.returns-in_default-clause-refused
returns-in_default-clause-refused c = λ e. refused_step c.args.network.now c.args.command c.in_default.field-0 c.in_default.ensures
