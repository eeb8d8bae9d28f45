use Rattle.std.proofs.Common.{ℕ, List, ◌∷◌, Option, None, ap, sym, ◌∙◌}
use Rattle.deltastep.proofs.Finishing.{RowOf-over}
use Rattle.deltastep.proofs.searches.stepping.row_from.Goals as goal

pub returns : goal.returns
returns g c = record {
  row = λ net snapshot. RowOf-over net c.args.snapshot.now snapshot c.in_ok-over.ensures.grouped c.args.source c.in_ok-over.over.tentative c.in_ok-from_words.field-0 c.requires.node.0 c.requires.node.1 c.in_ok-over.ensures.state (c.into_words.ensures.words ∙ ap (λ (l : List (Option ℕ)). None ∷ l) (sym c.in_ok-from_words.ensures));
}
