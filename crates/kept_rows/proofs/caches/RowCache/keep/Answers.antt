use Rattle.std.proofs.Common.{◌≡◌, List, inl, inr, ⊎_elim, subst, Contains}
use Rattle.kept_rows.specs.Cached.{KeptRow, kept_row}
use Rattle.kept_rows.proofs.CacheRows.{after_put, in_cache, put_by}
use Rattle.kept_rows.proofs.caches.RowCache.keep.Goals as goal

pub returns-clause-rows : goal.returns-clause-rows
returns-clause-rows c kept there =
    ⊎_elim
    (λ (old : Contains c.in-Some.rows.entries kept). inl (subst (λ (rows : List KeptRow). Contains rows kept) c.make_map.ensures.rows (in_cache c.make_map.new.self c.in-Some.rows kept c.in-Some.is old)))
    (λ (new : kept ≡ kept_row c.args.version c.args.source c.args.distances). inr new)
    (after_put c.args.version c.args.source c.in-Some.rows c.put.new.self c.args.distances c.put.result c.put.ensures.entries c.put.ensures.err kept there)

pub returns-clause-put : goal.returns-clause-put
returns-clause-put c =
    put_by c.args.version c.args.source c.args.self.now c.make_map.new.self c.in-Some.rows c.put.new.self c.args.distances c.put.result c.make_map.ensures.rows
    c.make_map.ensures.capacity c.in-Some.is c.put.ensures.entries c.put.ensures.err
