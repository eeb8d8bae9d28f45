use Rattle.kept_rows.proofs.CacheRows.{after_get, in_cache}
use Rattle.kept_rows.proofs.caches.RowCache.promote.Goals as goal

pub returns-in-Some-clause-rows : goal.returns-in-Some-clause-rows
returns-in-Some-clause-rows c kept there =
    in_cache c.args.self.now c.in-Some.rows kept c.in-Some.is (after_get c.args.version c.args.source c.in-Some.rows c.promote.new.self c.promote.ensures.entries kept there)
