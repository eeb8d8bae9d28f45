use Rattle.std.proofs.Common.{◌∙◌}
use Rattle.deltastep.proofs.Narrowing.{Suits-endless}
use Rattle.deltastep.proofs.questions.target.known_over.Goals as goal

pub known_by-requires-clause-suits : goal.known_by-requires-clause-suits
known_by-requires-clause-suits g c = Suits-endless c.args.snapshot.now _ _ _ _ c.delta.ensures.grouped c.new-frontier.ensures.empty (c.new-frontier.ensures.accepts 0) (c.new-frontier.ensures.width ∙ (c.in_ok-ring.ensures.fresh.wide ∙ c.delta.ensures.value)) c.new-frontier.ensures.span

pub returns-clause-known : goal.returns-clause-known
returns-clause-known g c net narrowed = rw c.into_parts-values.ensures.tentative (c.in_ok-over.ensures.known net narrowed)
