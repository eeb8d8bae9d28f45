use Rattle.std.proofs.Common.{◌≡◌, ◌∙◌, ◌++◌, ◌∷◌, [], ◌≤◌, get_or, sym, subst, rules}
use Rattle.std.proofs.lemmas.List.Elements.{All-push}
use Rattle.rows.specs.Batches.{AreNodes}
use Rattle.rows.proofs.side_by_side.missing.Goals as goal

pub loop-source-preserved : goal.loop-source-preserved
loop-source-preserved c =
    let node = get_or c.args.sources.now c.loop-source.source-index 0 in
    let pushed : c.push.new.self.items ≡ c.loop-source.missing.items ++ node ∷ [] = search rules in
    record {
      nodes = subst (AreNodes c.args.nodes) (sym pushed) (All-push (λ u. (1 ≤ u) × (u ≤ c.args.nodes)) c.loop-source.missing.items node c.loop-source.invariant.nodes (c.requires c.loop-source.source-index 0 c.loop-source-test.true));
      rows = λ kept there. c.loop-source.invariant.rows kept (c.promote.ensures.rows kept there);
      capacity = c.promote.ensures.capacity ∙ c.loop-source.invariant.capacity;
    }
