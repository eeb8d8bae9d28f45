use Rattle.std.proofs.Common.{◌≡◌, ◌∙◌, sym, subst, ap, Contains}
use Rattle.rows.specs.Views.{Viewed}
use Rattle.kept_rows.specs.declared.caches.RowCache.{RowCache}
use Rattle.kept_rows.specs.Cached.{HasRowsOf, kept_row, rows_of}
use Rattle.view_tests.proofs.caching.ask.Goals as goal

pub returns-clause-kept : goal.returns-clause-kept
returns-clause-kept g c =
    let last : c.cache-1.given.0 ≡ c.dist.new.self.cache.now = c.cache-1.given.1 (sym (c.dist.ensures.same.cache ∙ c.pinned-pinned.ensures.same)) in
    subst (λ (cache : RowCache). HasRowsOf c.args.view.now.version c.args.view.now.network cache) (sym last)
    (subst (λ (v : Viewed). HasRowsOf v.version v.network c.dist.new.self.cache.now) (c.dist.ensures.same.view ∙ c.pinned-pinned.ensures.view) c.dist.ensures.kept)

pub returns-clause-others : goal.returns-clause-others
returns-clause-others g c other source row ne there =
    let last : c.cache-1.given.0 ≡ c.dist.new.self.cache.now = c.cache-1.given.1 (sym (c.dist.ensures.same.cache ∙ c.pinned-pinned.ensures.same)) in
    subst (λ (cache : RowCache). Contains (rows_of cache) (kept_row other source row)) c.pinned-pinned.ensures.cache
    (c.dist.ensures.others other source row (λ e. ne (e ∙ ap (λ (v : Viewed). v.version) c.pinned-pinned.ensures.view))
    (subst (λ (cache : RowCache). Contains (rows_of cache) (kept_row other source row)) last there))
