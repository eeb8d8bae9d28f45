use Rattle.kept_rows.proofs.CacheRows.{still_rows, rows_with_one, others_with_one, used_by_put}
use Rattle.rows.proofs.cached.distance.Goals as goal

pub returns-in-Some-clause-kept : goal.returns-in-Some-clause-kept
returns-in-Some-clause-kept g c net of has = still_rows c.args.version c.args.cache.now c.found.new.cache net c.found.ensures.rows has

pub returns-in-Err-OutOfMemory-clause-kept : goal.returns-in-Err-OutOfMemory-clause-kept
returns-in-Err-OutOfMemory-clause-kept g c net of has = still_rows c.args.version c.args.cache.now c.found.new.cache net c.found.ensures.rows has

pub returns-in-Ok-clause-kept : goal.returns-in-Ok-clause-kept
returns-in-Ok-clause-kept g c net of has =
    rows_with_one c.args.version c.args.source c.in-Ok.distances c.found.new.cache c.keep.new.self net c.keep.ensures.rows (c.in-Ok.ensures.row net of)
    (still_rows c.args.version c.args.cache.now c.found.new.cache net c.found.ensures.rows has)

pub returns-in-Ok-clause-others : goal.returns-in-Ok-clause-others
returns-in-Ok-clause-others g c other source row ne there =
    c.found.ensures.rows _ (others_with_one c.args.version c.args.source c.in-Ok.distances c.found.new.cache c.keep.new.self c.keep.ensures.rows other source row ne there)

pub returns-in-Ok-clause-distance : goal.returns-in-Ok-clause-distance
returns-in-Ok-clause-distance g c net of has node = c.distance_in-reply.ensures net c.args.source node (c.in-Ok.ensures.row net of)

pub returns-in-Ok-clause-used : goal.returns-in-Ok-clause-used
returns-in-Ok-clause-used g c =
    used_by_put c.args.version c.args.source c.args.cache.now c.found.new.cache c.keep.new.self c.in-Ok.distances c.in_default.ensures.held (c.found.ensures.missed c.in_default.is)
    c.found.ensures.capacity c.found.ensures.used c.keep.ensures.put
