use Rattle.std.proofs.Common.{◌≡◌, ◌∙◌, ◌++◌, ◌∷◌, [], All, ap, subst, option_to_list, sym}
use Rattle.std.proofs.lemmas.List.Elements.{All-contains, Contains-push, All-take}
use Rattle.roadnet.specs.Net.{Net}
use Rattle.roadnet.specs.Walks.{RowOf}
use Rattle.kept_rows.proofs.CacheRows.{rows_with_one, others_with_one}
use Rattle.kept_rows.proofs.caches.RowCache.keep_all.Goals as goal

pub loop-source-preserved : goal.loop-source-preserved
loop-source-preserved c =
    let parts : c.loop-source.rows.items ≡ c.pop.new.self.items ++ (c.in-Some.source, c.in-Some.distances) ∷ [] =
    c.pop.ensures.items ∙ ap (λ o. c.pop.new.self.items ++ option_to_list o) c.in-Some.is in
    let all = λ (net : Net) (h : All (λ made. RowOf net made.0 made.1) c.args.rows.items). subst (All (λ made. RowOf net made.0 made.1)) parts (c.loop-source.invariant.left net h) in
    record {
      left = λ net h. subst (All (λ made. RowOf net made.0 made.1)) (sym c.pop.ensures.rest) (All-take (λ made. RowOf net made.0 made.1) _ c.loop-source.rows.items (c.loop-source.invariant.left net h));
      kept = λ net h has. rows_with_one c.args.version c.in-Some.source c.in-Some.distances c.loop-source.self c.keep.new.self net c.keep.ensures.rows
          (All-contains (λ made. RowOf net made.0 made.1) (c.pop.new.self.items ++ (c.in-Some.source, c.in-Some.distances) ∷ []) (c.in-Some.source, c.in-Some.distances) (all net h) (Contains-push c.pop.new.self.items (c.in-Some.source, c.in-Some.distances)))
          (c.loop-source.invariant.kept net h has);
      others = λ other source row ne there. c.loop-source.invariant.others other source row ne (others_with_one c.args.version c.in-Some.source c.in-Some.distances c.loop-source.self c.keep.new.self c.keep.ensures.rows other source row ne there);
      capacity = c.keep.ensures.capacity ∙ c.loop-source.invariant.capacity;
    }

pub returns-clause-kept : goal.returns-clause-kept
returns-clause-kept c net h has = c.loop-source.invariant.kept net h has
