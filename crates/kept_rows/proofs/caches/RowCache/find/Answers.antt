use Rattle.std.proofs.Common.{◌∙◌, sym}
use Rattle.kept_rows.specs.Cached.{kept_row}
use Rattle.kept_rows.proofs.CacheRows.{found_row, after_get, after_miss, in_cache, all_in_cache}
use Rattle.kept_rows.proofs.caches.RowCache.find.Goals as goal

pub returns-clause-found : goal.returns-clause-found
returns-clause-found c =
    let there = found_row c.args.version c.args.source c.in-Some.rows.entries c.in_ok-row.row.now (sym c.in_ok-row.ensures.value) in
    (c.in_ok-row.row.now, in_cache c.args.self.now c.in-Some.rows (kept_row c.args.version c.args.source c.in_ok-row.row.now) c.in-Some.is there, c.get-2.ensures)

pub returns-clause-rows : goal.returns-clause-rows
returns-clause-rows c kept there =
    in_cache c.args.self.now c.in-Some.rows kept c.in-Some.is (after_get c.args.version c.args.source c.in-Some.rows c.get.follows.lender-at-none c.get.follows.holds-at-none kept there)

pub returns-in_err-row-clause-rows : goal.returns-in_err-row-clause-rows
returns-in_err-row-clause-rows c kept there =
    in_cache c.args.self.now c.in-Some.rows kept c.in-Some.is (after_get c.args.version c.args.source c.in-Some.rows c.get.follows.lender-at-none c.get.follows.holds-at-none kept there)

pub returns-in_err-row-clause-missed : goal.returns-in_err-row-clause-missed
returns-in_err-row-clause-missed c none =
    after_miss c.args.version c.args.source c.in-Some.rows c.get.follows.lender-at-none c.get.follows.holds-at-none (sym c.in_err-row.ensures.value)
    ∙ sym (all_in_cache c.args.self.now c.in-Some.rows c.in-Some.is)
