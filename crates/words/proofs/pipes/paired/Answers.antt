use Rattle.words.proofs.PipeNames.{fit_of}
use Rattle.words.proofs.pipes.paired.Goals as goal

pub returns-clause-fit : goal.returns-clause-fit
returns-clause-fit c = fit_of (λ pairs. pairs.items) c.two_by_two.result c.args.names.now c.if-names-gt-MOST_PIPES.false c.in_default.ensures c.two_by_two.ensures.pairs
