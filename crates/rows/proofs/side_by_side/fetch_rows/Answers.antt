use Rattle.std.proofs.Common.{◌≡◌, ◌∙◌, ◌++◌, ◌∷◌, [], All, ap, subst, sym, option_to_list}
use Rattle.std.proofs.lemmas.List.Elements.{All-contains, Contains-push, All-take}
use Rattle.rows.specs.Batches.{IsRowOfOne}
use Rattle.kept_rows.proofs.CacheRows.{still_rows}
use Rattle.rows.proofs.side_by_side.fetch_rows.Goals as goal

pub returns-in_err-missing-clause-kept : goal.returns-in_err-missing-clause-kept
returns-in_err-missing-clause-kept g c net of has = still_rows c.args.version c.args.cache.now c.missing.new.cache net c.missing.ensures.rows has

pub returns-then-len-lt2-clause-kept : goal.returns-then-len-lt2-clause-kept
returns-then-len-lt2-clause-kept g c net of has = still_rows c.args.version c.args.cache.now c.missing.new.cache net c.missing.ensures.rows has

pub returns-in_err-parts-clause-kept : goal.returns-in_err-parts-clause-kept
returns-in_err-parts-clause-kept g c net of has = still_rows c.args.version c.args.cache.now c.missing.new.cache net c.missing.ensures.rows has

pub loop-rows-preserved : goal.loop-rows-preserved
loop-rows-preserved g c =
    let whole : c.loop-rows.parts.items ≡ c.pop.new.self.items ++ c.in-Some.rows ∷ [] = c.pop.ensures.items ∙ ap (λ o. c.pop.new.self.items ++ option_to_list o) c.in-Some.is in
    let all = subst (All (λ list. All (IsRowOfOne c.args.snapshot.now) list.items)) whole c.loop-rows.invariant.left in
    let here = All-contains (λ list. All (IsRowOfOne c.args.snapshot.now) list.items) (c.pop.new.self.items ++ c.in-Some.rows ∷ []) c.in-Some.rows all (Contains-push c.pop.new.self.items c.in-Some.rows) in
    record {
      left = subst (All (λ list. All (IsRowOfOne c.args.snapshot.now) list.items)) (sym c.pop.ensures.rest) (All-take (λ list. All (IsRowOfOne c.args.snapshot.now) list.items) _ c.loop-rows.parts.items c.loop-rows.invariant.left);
      kept = λ net of has. c.keep_all.ensures.kept net (λ k d lt. here k d lt net of) (c.loop-rows.invariant.kept net of has);
      others = λ other source row ne there. c.loop-rows.invariant.others other source row ne (c.keep_all.ensures.others other source row ne there);
      capacity = c.keep_all.ensures.capacity ∙ c.loop-rows.invariant.capacity;
    }

pub returns-clause-kept : goal.returns-clause-kept
returns-clause-kept g c net of has = c.loop-rows.invariant.kept net of (still_rows c.args.version c.args.cache.now c.missing.new.cache net c.missing.ensures.rows has)
