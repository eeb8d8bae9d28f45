use Rattle.std.proofs.Common.{◌∙◌}
use Rattle.deltastep.proofs.Narrowing.{Suits-endless}
use Rattle.deltastep.proofs.questions.asked.values_over.Goals as goal

pub settled_by-requires-clause-suits : goal.settled_by-requires-clause-suits
settled_by-requires-clause-suits g c = Suits-endless c.args.snapshot.now _ _ _ _ c.delta.ensures.grouped c.new-frontier.ensures.empty (c.new-frontier.ensures.accepts 0) (c.new-frontier.ensures.width ∙ (c.in_ok-ring.ensures.fresh.wide ∙ c.delta.ensures.value)) c.new-frontier.ensures.span

pub returns-clause-knows : goal.returns-clause-knows
returns-clause-knows g c net narrowed = rw c.into_parts-values.ensures.tentative (c.in_ok-end.ensures.knows net narrowed)
