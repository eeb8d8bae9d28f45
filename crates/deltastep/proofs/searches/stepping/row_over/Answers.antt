use Rattle.std.proofs.Common.{ℕ, List, ◌∷◌, Option, None, ap, sym, ◌∙◌}
use Rattle.deltastep.proofs.Narrowing.{RowOf-narrowed, Suits-endless}
use Rattle.deltastep.proofs.searches.stepping.row_over.Goals as goal

pub returns : goal.returns
returns g c = record {
  row = λ net of. RowOf-narrowed net c.args.snapshot.now of c.args.source c.in_ok-over.over.tentative c.in_ok-from_words.field-0 c.requires.node.0 c.requires.node.1 c.in_ok-over.ensures.state (sym c.into_parts-tentative.ensures.tentative ∙ (c.into_words.ensures.words ∙ ap (λ (l : List (Option ℕ)). None ∷ l) (sym c.in_ok-from_words.ensures)));
}

pub settled-requires-clause-suits : goal.settled-requires-clause-suits
settled-requires-clause-suits g c = Suits-endless c.args.snapshot.now _ _ _ _ c.delta.ensures.grouped c.new-frontier.ensures.empty (c.new-frontier.ensures.accepts 0) (c.new-frontier.ensures.width ∙ (c.in_ok-ring.ensures.fresh.wide ∙ c.delta.ensures.value)) c.new-frontier.ensures.span
