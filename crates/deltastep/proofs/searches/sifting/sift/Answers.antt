use Rattle.std.proofs.Common.{ℕ, List, map, ap, ◌∙◌}
use Rattle.relax.specs.Values.{value_or}
use Rattle.deltastep.proofs.searches.sifting.sift.Goals as goal

pub returns : goal.returns
returns g c = record { sifted = c.truncate.ensures.items ∙ c.compact-kept.ensures.kept (λ u. value_or c.args.top (g.F.Frontier.tentative c.args.frontier.now) u) (c.deref-2.ensures.value ∙ (c.in_ok-known.ensures ∙ ap (λ (l : List (ℕ × ℕ)). map (λ (r : ℕ × ℕ). value_or c.args.top (g.F.Frontier.tentative c.args.frontier.now) r.0) l) c.deref.ensures.value)) }
